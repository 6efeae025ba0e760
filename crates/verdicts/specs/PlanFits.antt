-- What a question is decided from.
use Rattle.std.specs.Prelude.{T, List, [], ◌∷◌}
use Rattle.meaning.specs.Membership.{State}
use Rattle.meaning.specs.Rules.{Policy}
use Rattle.meaning.specs.Sets.{Question, SemiStatic}
use Rattle.meaning.specs.Regimes.{ObeysRegime}
use Rattle.theory.specs.Bounds.{WithinMeasures}
use Rattle.deciding.specs.declared.runs.RunStep.{RunStep}
use Rattle.deciding.specs.declared.plan.Slot.{Slot}
use Rattle.deciding.specs.declared.plan.Plan.{Plan}
use Rattle.deciding.specs.Slots.{slots_of}
use Rattle.questions.specs.Inquired.{inquired}
use Rattle.tables.specs.View.{policy_of, state_of}
use Rattle.verdicts.specs.declared.case.Case.{Case}
use Rattle.planning.specs.Plans.{Planned}
use Rattle.planning.specs.MasksTold.{MasksTell}
use Rattle.planning.specs.Slotted.{has_slot}

-- a plan for a question with a static side, on a board within its measures
pub record PlanFits (p : Policy) (s : State) (q : Question) (plan : Plan) : Type 0 where
  pub planned : Planned p s q (slots_of plan)
  pub masks : MasksTell p plan.masks.seniors plan.masks.givers
  pub measured : WithinMeasures p s
  pub regular : ObeysRegime p s
  pub semi : SemiStatic q

-- the plan of a case is for its question, of its board
abbrev pub CaseFits : Case → Type 0
CaseFits c = PlanFits (policy_of c.board.now.tables) (state_of c.board.now.tables) (inquired c.asked.now) c.plan.now

-- each step is made on a user who has a slot
abbrev pub AllSlotted : List Slot → List RunStep → Type 0
AllSlotted slots [] = Unit {0}
AllSlotted slots (x ∷ xs) = T (has_slot slots x.user.number) × AllSlotted slots xs
