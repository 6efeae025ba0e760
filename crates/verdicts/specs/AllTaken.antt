-- The run that takes all that can be taken, slot by slot and role by role.
use Rattle.std.specs.Prelude.{◌≡◌, ℕ, ◌+◌, ◌*◌, ◌<◌, ◌≤◌, false, not, ◌&&◌, T, List, length, take, Some, None, Option, nat_lt}
use Rattle.meaning.specs.Measures.{roles}
use Rattle.meaning.specs.Membership.{Role, State}
use Rattle.meaning.specs.Rules.{Policy, RevokeRule}
use Rattle.meaning.specs.Lists.{Nth}
use Rattle.meaning.specs.Runs.{moves, Run, end}
use Rattle.theory.specs.Reach.{revocable}
use Rattle.meaning.specs.Rows.{Holder}
use Rattle.meaning.specs.Witnesses.{OnlyRemoves, Each}
use Rattle.deciding.specs.declared.runs.RunStep.{RunStep}
use Rattle.deciding.specs.declared.plan.Slot.{Slot}
use Rattle.deciding.specs.Slots.{slot_user}
use Rattle.verdicts.specs.PlanFits.{AllSlotted}
use Rattle.verdicts.specs.Looking.{place, as_changes}

-- a step that takes the role of the slot's user, by an actor to whom the rule's administering role is assigned; or the role is not there, or no rule has it as target
pub record Taking (p : Policy) (s : State) (slots : List Slot) (slot : ℕ) (r : Role) (x : RunStep) : Type 0 where
  pub there : T (s (slot_user slots slot) r)
  pub rule : RevokeRule
  pub numbered : Nth x.rule rule p.revokes
  pub target : T (rule.targets r)
  pub actor : ℕ
  pub actor_slot : actor < length slots
  pub actor_is : x.actor.number ≡ slot_user slots actor
  pub administers : T (s (slot_user slots actor) rule.admin)
  pub user_is : x.user.number ≡ slot_user slots slot
  pub role_is : x.role.number ≡ r

abbrev pub TakingFound : Policy → State → List Slot → ℕ → Role → Option RunStep → Type 0
TakingFound p s slots slot r (Some x) = Taking p s slots slot r x
TakingFound p s slots slot r None = (s (slot_user slots slot) r && revocable p.revokes r) ≡ false

-- what is left when all facts below n that can be taken are taken
abbrev pub lowered : Policy → State → List Slot → ℕ → State
lowered p s slots n = λ u r. s u r && not (revocable p.revokes r && nat_lt (roles * place slots u + r) n)

-- the first n places are a run that takes all that can be taken of the facts below f
pub record AllTaken (p : Policy) (s : State) (slots : List Slot) (f n : ℕ) (list : List RunStep) : Type 0 where
  pub few : n ≤ f
  pub lawful : Run (moves p) s (as_changes false (take n list))
  pub removing : OnlyRemoves (as_changes false (take n list))
  pub rowed : Each (Holder s) (as_changes false (take n list))
  pub slotted : AllSlotted slots (take n list)
  pub ends : end s (as_changes false (take n list)) ≡ lowered p s slots f
