-- What a verdict promises.
use Rattle.std.specs.Prelude.{◌≡◌, ℕ, ◌<◌, ◌≤◌, Bool, true, false, List, length, take, drop, Ok, Err, Decides, MatchOption, Result}
use Rattle.std.specs.Bool.{beq}
use Rattle.std.specs.Option.{is_some}
use Rattle.steps.specs.declared.short.TooShort.{TooShort}
use Rattle.steps.specs.declared.short.TooShort.TheVariants.{Words, Places}
use Rattle.meaning.specs.Measures.{list_places, work_words}
use Rattle.meaning.specs.Membership.{State}
use Rattle.meaning.specs.Rules.{Policy}
use Rattle.meaning.specs.Sets.{Question}
use Rattle.meaning.specs.Runs.{moves}
use Rattle.meaning.specs.Witnesses.{Shows, Sought, sought_by}
use Rattle.meaning.specs.Terms.{IsYes}
use Rattle.meaning.specs.declared.terms.Kind.{Kind}
use Rattle.meaning.specs.declared.terms.Kind.TheVariants.{Possible, Necessary}
use Rattle.deciding.specs.declared.runs.RunStep.{RunStep}
use Rattle.verdicts.specs.declared.verdict.Verdict.{Verdict}
use Rattle.verdicts.specs.Looking.{as_changes}

-- yes just where the question holds; a run shows it just where it can be shown, and then stands in the first places and the others are as they were; else all are
pub record Decided (kind : Kind) (p : Policy) (s : State) (q : Question) (list : List RunStep) (v : Verdict) (after : List RunStep) : Type 0 where
  pub exact : Decides v.yes (IsYes kind p s q)
  pub shown : is_some v.run ≡ beq v.yes (sought_by kind)
  pub run : MatchOption v.run (after ≡ list)
      (λ x. Shows (moves p) s q (Sought (sought_by kind) p q) list_places (as_changes x.adds (take x.steps after)) × (drop x.steps after ≡ drop x.steps list) × (x.steps ≤ length after))

-- decided where list and work table are long enough; else one of them was too short, and the list is as it was
abbrev pub Settled : Kind → Policy → State → Question → ℕ → List RunStep → Result Verdict TooShort → List RunStep → Type 0
Settled kind p s q words list (Ok v) after = Decided kind p s q list v after × (work_words ≤ words) × (list_places ≤ length list)
Settled kind p s q words list (Err Words) after = (words < work_words) × (after ≡ list)
Settled kind p s q words list (Err Places) after = (length list < list_places) × (after ≡ list)
