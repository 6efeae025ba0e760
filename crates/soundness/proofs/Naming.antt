-- The roles that entries name, gathered one entry after another.
use Rattle.std.proofs.Common.{◌≡◌, ℕ, ◌+◌, ◌<◌, Bool, true, false, ◌&&◌, ◌||◌, T, eqb, List, map, length, take, Option, Some, None, MatchOption, is_some, Decides, sym, refl, ap₂, ◌∙◌, subst, eqb→eq}
use mathlib.Core.Path.{subst⁻¹}
use lib.Dec.{eqb_refl}
use Rattle.std.proofs.lemmas.Bool.{eq-eqb, both_ways}
use Rattle.meaning.specs.Measures.{users}
use Rattle.meaning.specs.Lists.{Nth}
use Rattle.meaning.proofs.Numbered.{at_nth, nth_at as nth_place}
use Rattle.meaning.proofs.Tests.{second, both, as_true, as_test}
use Rattle.rbac.specs.declared.users.User.{User}
use Rattle.rbac.specs.Roles.{roles_of}
use Rattle.tables.specs.declared.entries.Row.{Row}
use Rattle.tables.specs.View.{assigned}
use Rattle.tables.specs.Rows.{row_at, no_row, is_used}
use Rattle.tables.proofs.Listing.{any, any_gives, any_at, any_more, nth_map, map_nth}
use Rattle.tables.proofs.Placing.{assigned_gives, assigned_at, gives_used}

-- what was gathered is what the entries say
pub decided : {A : Type 0} (f : A → ℕ → Bool) (P : A → ℕ → Type 0) → ((x : A) (r : ℕ) → T (f x r) → P x r) → ((x : A) (r : ℕ) → P x r → T (f x r))
    → (xs : List A) (s : ℕ → Bool) → ((r : ℕ) → s r ≡ any f xs r) → (r : ℕ) → Decides (s r) ((k : ℕ) × (x : A) × Nth k x xs × P x r)
decided f P to from xs s is r = (
  (λ e. let (k, x, n, t) = any_gives f xs r (as_test (any f xs r) (sym (is r) ∙ e)) in (k, x, n, to x r t)),
  λ (k, x, n, p). is r ∙ as_true (any f xs r) (any_at f n r (from x r p)),
)

-- and as much of the entries' meanings
pub meant : {A B : Type 0} (g : A → B) (P : B → Type 0) (xs : List A) (b : Bool) → Decides b ((k : ℕ) × (x : A) × Nth k x xs × P (g x)) → Decides b ((k : ℕ) × (y : B) × Nth k y (map g xs) × P y)
meant g P xs b d = (
  (λ e. let (k, x, n, p) = d.0 e in (k, g x, nth_map g n, p)),
  λ (k, y, n, p). let (x, m, e) = map_nth g xs n in d.1 (k, x, m, subst⁻¹ P e p),
)

-- whether the rule is administered by this role
abbrev pub by_admin : {A : Type 0} → (A → ℕ) → A → ℕ → Bool
by_admin administers x r = eqb r (administers x)

pub admins_decided : {A : Type 0} (administers : A → ℕ) (xs : List A) (s : ℕ → Bool) → ((r : ℕ) → s r ≡ any (by_admin administers) xs r) → (r : ℕ) → Decides (s r) ((k : ℕ) × (x : A) × Nth k x xs × (administers x ≡ r))
admins_decided administers xs s is = decided (by_admin administers) (λ x r. administers x ≡ r) (λ x r h. sym (eqb→eq r (administers x) h)) (λ x r p. as_test _ (eq-eqb r (administers x) (sym p))) xs s is

pub targets_decided : {A : Type 0} (aims : A → ℕ → Bool) (xs : List A) (s : ℕ → Bool) → ((r : ℕ) → s r ≡ any aims xs r) → (r : ℕ) → Decides (s r) ((k : ℕ) × (x : A) × Nth k x xs × T (aims x r))
targets_decided aims xs s is = decided aims (λ x r. T (aims x r)) (λ x r h. h) (λ x r h. h) xs s is

abbrev pub row_roles : Row → ℕ → Bool
row_roles x r = roles_of x.roles r

-- what a row's holder tells
pub holder_tells : (x : Row) (o : Option User) → MatchOption o (is_used x ≡ false) (λ u. (is_used x ≡ true) × (u ≡ x.user) × (u.number < users)) → (is_used x ≡ is_some o) × (is_used x ≡ true → x.user.number < users)
holder_tells x None h = (h, λ e. absurd (both_ways (is_used x) h e))
holder_tells x (Some u) h = (h.0, λ _. subst (λ (v : User). v.number < users) h.1 h.2)

-- a row more: its roles are joined where it is in use, and where it is not it adds nothing
pub row_counted : (rows : List Row) (i : ℕ) → i < length rows → (before after : ℕ → Bool) → ((r : ℕ) → before r ≡ any row_roles (take i rows) r)
    → ((r : ℕ) → after r ≡ (before r || (is_used (row_at rows i) && row_roles (row_at rows i) r))) → (r : ℕ) → after r ≡ any row_roles (take (i + 1) rows) r
row_counted rows i l before after h e r =
    e r ∙ ap₂ (λ a b. a || b) (h r) (some (is_used (row_at rows i)) refl (roles_of (row_at rows i).roles r) refl) ∙ sym (any_more row_roles rows i no_row l r)
  where
    some : (u : Bool) → is_used (row_at rows i) ≡ u → (b : Bool) → roles_of (row_at rows i).roles r ≡ b → (u && b) ≡ b
    some true f b g = refl
    some false f true g = sym f ∙ gives_used (row_at rows i) (r, as_test _ g)
    some false f false g = refl

pub held_told : (rows : List Row) (held : ℕ → Bool) → ((r : ℕ) → held r ≡ any row_roles rows r) → ((k : ℕ) → k < length rows → is_used (row_at rows k) ≡ true → (row_at rows k).user.number < users)
    → (r : ℕ) → Decides (held r) ((u : ℕ) × (u < users) × T (assigned rows u r))
held_told rows held is small r = (
  (λ e.
      let (k, x, n, t) = any_gives row_roles rows r (as_test (any row_roles rows r) (sym (is r) ∙ e)) in
      let (i, _, l, g) = at_nth no_row n in
      let has : T (roles_of (row_at rows i).roles r) = subst⁻¹ (λ (y : Row). T (roles_of y.roles r)) g t in
      ((row_at rows i).user.number, small i l (gives_used (row_at rows i) (r, has)), assigned_at rows (row_at rows i).user.number r i l (both (eqb (row_at rows i).user.number (row_at rows i).user.number) (roles_of (row_at rows i).roles r) (eqb_refl (row_at rows i).user.number) has))),
  λ (u, _, h).
      let (i, l, s) = assigned_gives rows u r h in
      is r ∙ as_true (any row_roles rows r) (any_at row_roles (nth_place no_row rows i l) r (second (eqb u (row_at rows i).user.number) (roles_of (row_at rows i).roles r) s)),
)
