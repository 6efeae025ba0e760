-- Somebody who is in neither of two short lists.
use Rattle.std.proofs.Common.{◌≡◌, ℕ, ◌+◌, ◌<◌, ◌≤◌, Bool, true, false, ◌||◌, T, eqb, List, [], ◌∷◌, ◌++◌, map, length, sym, refl, ap, subst, ap₂, ⊎_elim, eqb→eq, arith, length-append}
use Rattle.meaning.specs.Measures.{tracked_users, trusted_users}
use Rattle.std.proofs.lemmas.Bool.{both_ways}
use Rattle.std.specs.List.{list_any}
use Rattle.meaning.specs.Lists.{listed}
use Rattle.std.proofs.Math.Facts.{yes_eqb}
use Rattle.meaning.proofs.Tests.{agree, either, as_test, clash, listed_left, listed_right}
use Rattle.theory.proofs.Room.{room}
use Rattle.rbac.specs.declared.users.User.{User as AUser}
use Rattle.tables.specs.declared.tables.Tables.{Tables}
use Rattle.bounded.specs.Entries.{entries}
use Rattle.bounded.proofs.Listing.{few}
use Rattle.tables.specs.View.{policy_of, is_among}
use Rattle.tables.proofs.Viewing.{trusted_named}
use Rattle.deciding.specs.declared.plan.Slot.{Slot}
use Rattle.deciding.proofs.Viewing.{map_length}
use Rattle.deciding.specs.Slots.{users_of}
use Rattle.planning.specs.Slotted.{has_slot}

pub turned_round : (a b : ℕ) → eqb a b ≡ eqb b a
turned_round a b = agree (eqb a b) (eqb b a) (λ h. yes_eqb (sym (eqb→eq a b h))) (λ h. yes_eqb (sym (eqb→eq b a h)))

abbrev pub numbers : List AUser → List ℕ
numbers xs = map (λ x. x.number) xs

pub names_listed : (xs : List AUser) (u : ℕ) → is_among xs u ≡ listed (numbers xs) u
names_listed [] u = refl
names_listed (x ∷ xs) u = ap (λ b. eqb u x.number || b) (names_listed xs u)

pub slotted_listed : (slots : List Slot) (u : ℕ) → has_slot slots u ≡ listed (users_of slots) u
slotted_listed [] u = refl
slotted_listed (x ∷ xs) u = ap₂ ◌||◌ (turned_round x.user.number u) (slotted_listed xs u)

pub names_any : (xs : List AUser) (u : ℕ) → list_any (λ (x : AUser). eqb x.number u) xs ≡ is_among xs u
names_any [] u = refl
names_any (x ∷ xs) u = ap₂ ◌||◌ (turned_round x.number u) (names_any xs u)

pub trusted_listed : (t : Tables) (u : ℕ) → T ((policy_of t).trusted u) → T (listed (numbers (entries t.trusted)) u)
trusted_listed t u h = subst T (names_listed (entries t.trusted) u) (trusted_named t u h)

pub neither : (a b : Bool) → (a || b) ≡ false → (a ≡ false) × (b ≡ false)
neither true b e = absurd (both_ways true e refl)
neither false b e = (refl, e)

pub no_room : (t : Tables) (slots : List Slot) (n : ℕ) → length slots < tracked_users → ((k : ℕ) → k < n → (has_slot slots k || (policy_of t).trusted k) ≡ true) → tracked_users + trusted_users ≤ n → ⊥
no_room t slots n l all ge =
    let xs : List ℕ = users_of slots in
    let ys : List ℕ = numbers (entries t.trusted) in
    let ex : length xs ≡ length slots = map_length (λ x. x.user.number) slots in
    let ey : length ys ≡ length (entries t.trusted) = map_length (λ x. x.number) (entries t.trusted) in
    let eb = length-append xs ys in
    let (h, below, new) = room (tracked_users + trusted_users) (xs ++ ys) (omega (arith, few t.trusted)) in
    clash (listed (xs ++ ys) h) (⊎_elim
    (λ (i : T (has_slot slots h)). listed_left xs ys h (subst T (slotted_listed slots h) i))
    (λ (i : T ((policy_of t).trusted h)). listed_right xs ys h (trusted_listed t h i))
    (either (has_slot slots h) ((policy_of t).trusted h) (as_test (has_slot slots h || (policy_of t).trusted h) (all h (omega arith))))) new
