-- What the plan's parts come to.
use Rattle.std.proofs.Common.{◌≡◌, ℕ, ◌+◌, ◌<◌, ◌≤◌, Bool, true, false, ◌||◌, T, ◌⊎◌, List, [], ◌∷◌, ◌++◌, map, length, get_or, Decides, Result, Ok, Err, not, sym, refl, ap, ◌∙◌, subst, inl, inr, ⊎_elim, arith, length-append}
use Rattle.meaning.specs.Measures.{roles, rows, users, question_operands}
use mathlib.Core.Path.{subst⁻¹}
use Rattle.meaning.specs.Lists.{listed, Nth, first, later}
use Rattle.meaning.specs.Membership.{State}
use Rattle.meaning.specs.Rules.{AssignRule, Policy}
use Rattle.meaning.specs.Sets.{Question, named, names}
use Rattle.meaning.specs.Rows.{Holder}
use Rattle.theory.specs.Bounds.{WithinMeasures}
use Rattle.meaning.proofs.Tests.{either, or_left, or_right, as_true, as_test, listed_left, listed_right, listed_either}
use Rattle.rbac.specs.declared.users.User.{User as AUser}
use Rattle.hierarchy.specs.Edges.{no_roles}
use Rattle.tables.specs.declared.entries.AssignEntry.{AssignEntry}
use Rattle.tables.specs.declared.tables.Tables.{Tables}
use Rattle.bounded.specs.declared.bounded.Bounded.{Bounded}
use Rattle.bounded.specs.declared.lists.Full.{Full}
use Rattle.bounded.specs.Entries.{entries, Pushed}
use Rattle.bounded.proofs.Listing.{few}
use Rattle.tables.specs.View.{assign_of, policy_of, rows_of, state_of, stored_question}
use Rattle.tables.specs.Rows.{row_at}
use Rattle.rbac.specs.Roles.{roles_of}
use Rattle.deciding.proofs.Viewing.{map_length}
use Rattle.deciding.specs.declared.plan.Slot.{Slot}
use Rattle.trees.specs.declared.nodes.Node.{Node}
use Rattle.trees.specs.declared.tree.UserTree.{UserTree}
use Rattle.tables.specs.View.{set_of}
use Rattle.questions.specs.Naming.{users_in}
use Rattle.questions.proofs.Names.{nodes_name}
use Rattle.deciding.specs.Slots.{users_of}
use Rattle.planning.specs.Slotted.{PresentSlots, has_slot}
use Rattle.planning.specs.Plans.{Planned}
use Rattle.planning.proofs.Masking.{small, edge_inside}
use Rattle.planning.proofs.Rowing.{state_at_lem}
use Rattle.planning.proofs.Slotting.{one_more}
use Rattle.planning.proofs.Hiring.{numbers, slotted_listed, trusted_listed}

abbrev All : (AssignRule → Type 0) → List AssignRule → Type 0
All P [] = Unit {0}
All P (x ∷ xs) = P x × All P xs

all_nth : (P : AssignRule → Type 0) {k : ℕ} {rule : AssignRule} {xs : List AssignRule} → All P xs → Nth k rule xs → P rule
all_nth P a first = a.0
all_nth P a (later n) = all_nth P a.1 n

all_small : (xs : List AssignEntry) → All (λ rule. (r : ℕ) → T (rule.targets r) → r < roles) (map assign_of xs)
all_small [] = tt
all_small (x ∷ xs) = (small x.targets, all_small xs)

pub target_inside : (t : Tables) (k : ℕ) (rule : AssignRule) → Nth k rule (policy_of t).assigns → (r : ℕ) → T (rule.targets r) → r < roles
unfolding policy_of
target_inside t k rule nth = all_nth (λ rule. (r : ℕ) → T (rule.targets r) → r < roles) (all_small (entries t.assigns)) nth

pub given_inside : (t : Tables) (n r : ℕ) → T ((policy_of t).gives n r) → r < roles
unfolding policy_of
given_inside t n r h = small (get_or t.gives n no_roles) r h

-- the tables are within the measures, where those with a row have a hundred slots at most
pub measured : (t : Tables) (slots : List Slot) → length slots ≤ rows → ((v : ℕ) → Decides (has_slot slots v) (Holder (state_of t) v)) → WithinMeasures (policy_of t) (state_of t)
measured t slots small_enough rowed = record {
  row_holders = users_of slots;
  few_rows = let e = map_length (λ (x : Slot). x.user.number) slots in omega arith;
  all_row_holders = λ u h. subst T (slotted_listed slots u) (as_test (has_slot slots u) ((rowed u).1 h));
  only_row_holders = λ u h. (rowed u).0 (as_true (has_slot slots u) (subst⁻¹ T (slotted_listed slots u) h));
  trusted_list = numbers (entries t.trusted);
  few_trusted = let e = map_length (λ (x : AUser). x.number) (entries t.trusted) in omega (arith, few t.trusted);
  all_trusted = trusted_listed t;
  assigned_inside = λ u r h. let (l, (j, lj, e, x)) = state_at_lem t u r h in (l, small (row_at (rows_of t) j).roles r x);
  edges_inside = edge_inside t;
  given_inside = given_inside t;
  targets_inside = target_inside t;
}

-- the users with a row and those the question names are has_slot
pub tracked_are : (q : Question) (s : State) (a b c : ℕ → Bool) (v : ℕ) → Decides (a v) (Holder s v) → b v ≡ (a v || listed (named q.larger) v) → c v ≡ (b v || listed (named q.smaller) v)
    → Decides (c v) (Holder s v ⊎ T (listed (names q) v))
tracked_are q s a b c v d eb ec = (there, back)
  where
    x : List ℕ
    x = named q.larger

    y : List ℕ
    y = named q.smaller

    there : c v ≡ true → Holder s v ⊎ T (listed (x ++ y) v)
    there h = ⊎_elim
        (λ (i : T (b v)). ⊎_elim
        (λ (j : T (a v)). inl (d.0 (as_true (a v) j)))
        (λ (j : T (listed x v)). inr (listed_left x y v j))
        (either (a v) (listed x v) (subst T eb i)))
        (λ (i : T (listed y v)). inr (listed_right x y v i))
        (either (b v) (listed y v) (subst T ec (as_test (c v) h)))

    back : Holder s v ⊎ T (listed (x ++ y) v) → c v ≡ true
    back h = as_true (c v) (subst⁻¹ T ec (⊎_elim
        (λ (i : Holder s v). or_left (b v) (listed y v) (subst⁻¹ T eb (or_left (a v) (listed x v) (as_test (a v) (d.1 i)))))
        (λ (i : T (listed (x ++ y) v)). ⊎_elim
        (λ (j : T (listed x v)). or_left (b v) (listed y v) (subst⁻¹ T eb (or_right (a v) (listed x v) j)))
        (λ (j : T (listed y v)). or_right (b v) (listed y v) j)
        (listed_either x y v i))
        h))

-- the hire in the last slot
pub planned : (p : Policy) (s : State) (q : Question) (slots : List Slot) (x : Slot)
    → PresentSlots p s slots → ((v : ℕ) → Decides (has_slot slots v) (Holder s v ⊎ T (listed (names q) v)))
    → x.user.number < users → has_slot slots x.user.number ≡ false → p.trusted x.user.number ≡ false → roles_of x.roles ≡ s x.user.number → x.acts ≡ true
    → Planned p s q (slots ++ x ∷ [])
planned p s q slots x z tracked small new free row may = record {
  present = one_more slots x p s small new row (may ∙ sym (ap not free)) z;
  before = slots;
  hire = x;
  last = refl;
  tracked = tracked;
  hire_not_tracked = new;
  hire_not_trusted = free;
}

-- what was put where there was room stands last
pub put_last : (n : ℕ) (slots : Bounded Slot n) (x : Slot) (r : Result (Unit {0}) Full) (after : Bounded Slot n) → length (entries slots) < n → Pushed slots x r after → entries after ≡ entries slots ++ x ∷ []
put_last n slots x (Ok u) after l e = e
put_last n slots x (Err f) after l e = absurd (let full = e.1 in omega arith)

-- who has a role keeps a slot while others get theirs
pub still_held : (s : State) (a b : ℕ → Bool) (c : ℕ → Bool) → ((v : ℕ) → b v ≡ (a v || c v)) → ((u r : ℕ) → T (s u r) → T (a u)) → (u r : ℕ) → T (s u r) → T (b u)
still_held s a b c e held u r h = subst⁻¹ T (e u) (or_left (a u) (c u) (held u r h))

-- the users that a question's sides name
pub sides_name : (x : UserTree) (ns : List Node) → ns ≡ entries x.nodes → users_in ns ≡ named (set_of x.nodes)
sides_name x ns e = ap users_in e ∙ nodes_name x.nodes x.whole

-- are few
pub few_sides : (x y : UserTree) → length (names (stored_question x.nodes y.nodes)) ≤ question_operands → (a b : List Node) → a ≡ entries x.nodes → b ≡ entries y.nodes → length (users_in a) + length (users_in b) ≤ question_operands
few_sides x y few a b ea eb =
    omega (arith, ap length (sides_name x a ea), ap length (sides_name y b eb), length-append (named (set_of x.nodes)) (named (set_of y.nodes)), few)
