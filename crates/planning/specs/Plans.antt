-- A plan for a question: the users with a row and those it names have the first slots, and a hire the last.
use Rattle.std.specs.Prelude.{◌≡◌, false, T, ◌⊎◌, List, [], ◌∷◌, ◌++◌, Decides}
use Rattle.meaning.specs.Lists.{listed}
use Rattle.meaning.specs.Membership.{User, State}
use Rattle.meaning.specs.Rules.{Policy}
use Rattle.meaning.specs.Sets.{Question, names}
use Rattle.meaning.specs.Rows.{Holder}
use Rattle.deciding.specs.declared.plan.Slot.{Slot}
use Rattle.planning.specs.Slotted.{PresentSlots, has_slot}

pub record Planned (p : Policy) (s : State) (q : Question) (slots : List Slot) : Type 0 where
  pub present : PresentSlots p s slots
  pub before : List Slot
  pub hire : Slot
  pub last : slots ≡ before ++ (hire ∷ [])
  pub tracked : (u : User) → Decides (has_slot before u) (Holder s u ⊎ T (listed (names q) u))
  pub hire_not_tracked : has_slot before hire.user.number ≡ false
  pub hire_not_trusted : p.trusted hire.user.number ≡ false
