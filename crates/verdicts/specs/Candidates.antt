-- A run at whose end the question is decided.
use Rattle.std.specs.Prelude.{ℕ, ◌≤◌, Bool, true, false, T, ◌⊎◌, ◌↔◌, List, take}
use Rattle.meaning.specs.Measures.{list_places}
use Rattle.meaning.specs.Membership.{State}
use Rattle.meaning.specs.Rules.{Policy}
use Rattle.meaning.specs.Sets.{Question, Holds, Static}
use Rattle.meaning.specs.Runs.{moves, Run, end}
use Rattle.meaning.specs.Witnesses.{OnlyAdds, OnlyRemoves, Each}
use Rattle.theory.specs.Asking.{VerdictExact}
use Rattle.meaning.specs.Terms.{IsYes, side}
use Rattle.meaning.specs.declared.terms.Kind.{Kind}
use Rattle.meaning.specs.declared.terms.Side.{Side}
use Rattle.theory.specs.declared.place.Place.{Place}
use Rattle.theory.specs.declared.place.Place.TheVariants.{LeastState, GreatestState}
use Rattle.deciding.specs.declared.runs.RunStep.{RunStep}
use Rattle.deciding.specs.declared.plan.Slot.{Slot}
use Rattle.planning.specs.Slotted.{has_slot}
use Rattle.verdicts.specs.Looking.{as_changes}

-- to the greatest state by adding, to the least by removing
abbrev pub adds_to : Place → Bool
adds_to LeastState = false
adds_to GreatestState = true

-- the first n places are such a run to this place, by and to users who have slots
pub record Candidate (p : Policy) (s : State) (q : Question) (slots : List Slot) (place : Place) (n : ℕ) (list : List RunStep) : Type 0 where
  pub few : n ≤ list_places
  pub lawful : Run (moves p) s (as_changes (adds_to place) (take n list))
  pub one_way : OnlyAdds (as_changes (adds_to place) (take n list)) ⊎ OnlyRemoves (as_changes (adds_to place) (take n list))
  pub names : Each (λ u. T (has_slot slots u)) (as_changes (adds_to place) (take n list))
  pub decided : (kind : Kind) (fixed : Side) → VerdictExact kind fixed place → Static (side fixed q) → IsYes kind p s q ↔ Holds p (end s (as_changes (adds_to place) (take n list))) q
