-- Users of rows in use, and users that nodes name.
use Rattle.std.proofs.Common.{◌≡◌, ℕ, ◌+◌, Bool, true, false, ◌||◌, eqb, List, [], ◌∷◌, length, sym, refl, ap, ◌∙◌, arith}
use mathlib.Core.Path.{fun_ext}
use Rattle.std.proofs.lemmas.Bool.{both_ways}
use Rattle.meaning.specs.Lists.{listed}
use Rattle.meaning.specs.Membership.{State}
use Rattle.meaning.specs.Rules.{Policy}
use Rattle.meaning.proofs.Tests.{deny, as_true, as_false}
use Rattle.rbac.specs.Roles.{no_role}
use Rattle.trees.specs.declared.nodes.Node.{Node}
use Rattle.trees.specs.declared.nodes.Node.TheVariants.{Role, Permission, User, Nobody, Or, And}
use Rattle.deciding.specs.declared.plan.Slot.{Slot}
use Rattle.questions.specs.Naming.{users_in}
use Rattle.planning.specs.Slotted.{has_slot, HoldersSlotted, MoreSlots}
use Rattle.planning.proofs.Hiring.{turned_round}
use Rattle.planning.proofs.Slotting.{more_on, more_as}

or_off : (b : Bool) → (b || false) ≡ b
or_off true = refl
or_off false = refl

-- a node, and those behind it
node_first : (n : Node) (ns : List Node) (v : ℕ) → listed (users_in (n ∷ ns)) v ≡ (listed (users_in (n ∷ [])) v || listed (users_in ns) v)
node_first (Role n) ns v = refl
node_first (Permission n) ns v = refl
node_first (User n) ns v = ap (λ b. b || listed (users_in ns) v) (sym (or_off (eqb v n)))
node_first Nobody ns v = refl
node_first Or ns v = refl
node_first And ns v = refl

pub node_count : (n : Node) (ns : List Node) → length (users_in (n ∷ ns)) ≡ length (users_in (n ∷ [])) + length (users_in ns)
node_count (Role n) ns = omega arith
node_count (Permission n) ns = omega arith
node_count (User n) ns = omega arith
node_count Nobody ns = omega arith
node_count Or ns = omega arith
node_count And ns = omega arith

-- who has no slot has no role
pub no_row : (s : State) (slots : List Slot) (u : ℕ) → HoldersSlotted s slots → has_slot slots u ≡ false → no_role ≡ s u
no_row s slots u held new = fun_ext (λ r. sym (as_false (s u r) (deny (s u r) (λ h. both_ways (has_slot slots u) new (as_true (has_slot slots u) (held u r h))))))

-- the one that a user's node names
pub one_name : (n v : ℕ) → eqb n v ≡ listed (n ∷ []) v
one_name n v = turned_round n v ∙ sym (or_off (eqb v n))

-- one node more, and those behind it
pub named_on : (p : Policy) (s : State) (n : Node) (ns : List Node) {slots mid after : List Slot}
    → MoreSlots p s slots (listed (users_in (n ∷ []))) (length (users_in (n ∷ []))) mid → MoreSlots p s mid (listed (users_in ns)) (length (users_in ns)) after
    → MoreSlots p s slots (listed (users_in (n ∷ ns))) (length (users_in (n ∷ ns))) after
named_on p s n ns a b = let e = node_count n ns in more_as p s (λ v. sym (node_first n ns v)) (omega arith) (more_on p s a b)
