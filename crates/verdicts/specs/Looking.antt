-- A question at the slots, and a run of plain steps as changes.
use Rattle.std.specs.Prelude.{◌≡◌, ℕ, suc, ◌<◌, ◌≤◌, Bool, true, false, cond, not, ◌||◌, T, List, [], ◌∷◌, length, map, take, Some, None, Option, ◌==◌, slice_index}
use Rattle.steps.specs.Steps.{count}
use Rattle.meaning.specs.Membership.{User, Role, Row, State}
use Rattle.meaning.specs.Rules.{Policy}
use Rattle.meaning.specs.Sets.{Question, Holds}
use Rattle.meaning.specs.Runs.{Change, end}
use Rattle.rbac.specs.declared.sets.RoleSet.{RoleSet}
use Rattle.rbac.specs.declared.users.User.{User as AUser}
use Rattle.rbac.specs.Roles.{roles_of, without}
use Rattle.words.specs.Words.{with}
use Rattle.deciding.specs.declared.runs.RunStep.{RunStep}
use Rattle.deciding.specs.declared.plan.Slot.{Slot}
use Rattle.deciding.specs.Slots.{slot_at, slot_user}
use Rattle.deciding.specs.Masked.{in_test}
use Rattle.deciding.specs.Delegates.{adding, removing}
use Rattle.planning.specs.Slotted.{has_slot}
use Rattle.meaning.specs.Witnesses.{Sought}

-- the roles in a slot of the work table
abbrev pub word_row : List ℕ → ℕ → Row
word_row ws i = roles_of (record { word = slice_index ws i })

-- a user with these roles is not in the smaller side, or is in the larger
abbrev pub passed : List RoleSet → List RoleSet → Question → AUser → Row → Bool
passed seniors givers q u row = not (in_test seniors givers (Some u) row q.smaller) || in_test seniors givers (Some u) row q.larger

-- how many of the slots do not pass
abbrev pub fails : List RoleSet → List RoleSet → Question → List Slot → List ℕ → ℕ → Bool
fails seniors givers q slots ws i = not (passed seniors givers q (slot_at slots i).user (word_row ws i))

abbrev pub failing : List RoleSet → List RoleSet → Question → List Slot → List ℕ → ℕ
failing seniors givers q slots ws = count (fails seniors givers q slots ws) (length slots)

-- the words are the rows of a state in which nobody without a slot has a role
pub record WordsSay (slots : List Slot) (ws : List ℕ) (t : State) : Type 0 where
  pub rows : (i : ℕ) → i < length slots → word_row ws i ≡ t (slot_user slots i)
  pub others : (u : User) (r : Role) → T (t u r) → T (has_slot slots u)

-- a plain step as a change: all steps of a run add, or all remove
abbrev pub change_of : Bool → RunStep → Change
change_of true x = adding x
change_of false x = removing x

abbrev pub as_changes : Bool → List RunStep → List Change
as_changes adds xs = map (change_of adds) xs

-- a row with one role more, or with one less
abbrev pub turned : Bool → Row → Role → Row
turned true row r = with row r
turned false row r = without row r

-- 1 for a test that is true
abbrev pub one : Bool → ℕ
one b = cond b 1 0

-- after so many steps of the run what is sought is so and not before; or it is not so after any number of them
abbrev pub FoundAt : Bool → Policy → State → Question → Bool → List RunStep → Option ℕ → Type 0
FoundAt sought p s q adds run (Some m) = (m ≤ length run) × Sought sought p q (end s (as_changes adds (take m run))) × ((j : ℕ) → j < m → Sought sought p q (end s (as_changes adds (take j run))) → ⊥)
FoundAt sought p s q adds run None = (j : ℕ) → j ≤ length run → Sought sought p q (end s (as_changes adds (take j run))) → ⊥

-- the number of a user's slot
abbrev pub place : List Slot → User → ℕ
place [] u = 0
place (x ∷ xs) u = cond (x.user.number == u) 0 (suc (place xs u))
