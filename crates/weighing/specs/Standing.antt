-- Whether a requirement stands, and what shows that it does not.
use Rattle.std.specs.Prelude.{◌≡◌, ◌≤◌, List, length, take, drop, Result, MatchResult}
use Rattle.meaning.specs.Measures.{list_places}
use Rattle.meaning.specs.Membership.{State}
use Rattle.meaning.specs.Rules.{Policy}
use Rattle.meaning.specs.Sets.{Question, Holds}
use Rattle.meaning.specs.Runs.{moves}
use Rattle.meaning.specs.Requirements.{Requirement, always, never, Stands, required, Breaks}
use Rattle.meaning.specs.Witnesses.{Shows}
use Rattle.meaning.specs.declared.terms.Kind.{Kind}
use Rattle.meaning.specs.declared.terms.Kind.TheVariants.{Possible, Necessary}
use Rattle.tables.specs.declared.entries.Demand.{Demand}
use Rattle.tables.specs.declared.entries.Demand.TheVariants.{Always, Never}
use Rattle.deciding.specs.declared.runs.RunStep.{RunStep}
use Rattle.verdicts.specs.declared.verdict.Shown.{Shown}
use Rattle.verdicts.specs.Looking.{as_changes}

abbrev pub asked_by : Demand → Kind
asked_by Always = Necessary
asked_by Never = Possible

-- the first places of the list are a run whose last state alone breaks the requirement, and the others are as they were
pub record Broken (p : Policy) (s : State) (d : Requirement) (list : List RunStep) (run : Shown) (after : List RunStep) : Type 0 where
  pub shows : Shows (moves p) s (required d) (Breaks p d) list_places (as_changes run.adds (take run.steps after))
  pub rest : drop run.steps after ≡ drop run.steps list
  pub fits : run.steps ≤ length after

-- it stands and the list is as it was, or a run shows that it does not
abbrev pub Judged : Policy → State → Requirement → List RunStep → Result (Unit {0}) Shown → List RunStep → Type 0
Judged p s d list r after = MatchResult r (λ _. Stands p s d × (after ≡ list)) (λ run. Broken p s d list run after)
