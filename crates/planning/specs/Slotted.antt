-- Users in their slots.
use Rattle.std.specs.Prelude.{◌≡◌, ℕ, ◌+◌, ◌<◌, ◌≤◌, Bool, ◌||◌, T, List, length, ◌==◌}
use Rattle.std.specs.List.{list_any}
use Rattle.meaning.specs.Membership.{User, State}
use Rattle.meaning.specs.Rules.{Policy}
use Rattle.rbac.specs.Roles.{roles_of}
use Rattle.deciding.specs.declared.plan.Slot.{Slot}
use Rattle.deciding.specs.Slots.{slot_at, slot_user, Distinct, InRange, ActsTold}

-- the user has one of the slots
abbrev pub has_slot : List Slot → User → Bool
has_slot slots v = list_any (λ (x : Slot). x.user.number == v) slots

-- each slot has another user, who is in range, with the roles of that user's row and whether the user may act
pub record PresentSlots (p : Policy) (s : State) (slots : List Slot) : Type 0 where
  pub distinct : Distinct slots
  pub inside : InRange slots
  pub rows : (i : ℕ) → i < length slots → roles_of (slot_at slots i).roles ≡ s (slot_user slots i)
  pub acts : ActsTold p slots

-- whoever has a role has one of the slots
abbrev pub HoldersSlotted : State → List Slot → Type 0
HoldersSlotted s slots = (u r : ℕ) → T (s u r) → T (has_slot slots u)

-- those of one test have slots too, and at most so many slots more are taken
pub record MoreSlots (p : Policy) (s : State) (slots : List Slot) (also : User → Bool) (n : ℕ) (after : List Slot) : Type 0 where
  pub present : PresentSlots p s slots → PresentSlots p s after
  pub more : (v : User) → has_slot after v ≡ (has_slot slots v || also v)
  pub few : length after ≤ length slots + n
