-- What weighing a whole draft answers.
use Rattle.std.specs.Prelude.{◌≡◌, ℕ, List, ◌++◌, length, Ok, Err, Result, MatchResult, ◌≢◌}
use Rattle.book.specs.declared.refusal.Cause.{Cause}
use Rattle.book.specs.declared.refusal.Cause.TheVariants.{RequirementFails}
use Rattle.book.specs.Numbers.{number_of}
use Rattle.book.specs.Book.{Book}
use Rattle.book.specs.Grounds.{Fails}
use Rattle.book.specs.Refusals.{Least, lent, whole, NoneApplies}
use Rattle.book.specs.Stories.{AllStand}
use Rattle.tables.specs.declared.tables.Tables.{Tables}
use Rattle.soundness.specs.declared.valid.Valid.{Valid}
use Rattle.drafts.specs.View.{book_of}
use Rattle.deciding.specs.declared.runs.RunStep.{RunStep}
use Rattle.weighing.specs.declared.failure.Failure.{Failure}
use Rattle.weighing.specs.Standing.{Broken}

-- the requirement is the first that fails, and a run shows it
pub record FailsBy (b : Book) (f : Failure) (list after : List RunStep) : Type 0 where
  pub fails : Fails b f.requirement
  pub broken : Broken b.policy b.state fails.requirement list f.run after

-- none fails and the list is as it was, or the first that does
abbrev pub Stood : Book → List RunStep → Result (Unit {0}) Failure → List RunStep → Type 0
Stood b list r after = MatchResult r (λ _. AllStand b × (after ≡ list)) (λ f. FailsBy b f list after)

-- a failed requirement as a cause
abbrev pub cause_of : Failure → Cause
cause_of f = RequirementFails f.requirement f.run.steps f.run.adds

-- a refusal leaves the list as it was, but that of a failed requirement, which writes its run there
pub record Leaves (b : Book) (c : Cause) (list after : List RunStep) : Type 0 where
  pub others : number_of c ≢ 18 → after ≡ list
  pub failed : (f : Failure) → c ≡ cause_of f → FailsBy b f list after

-- the same tables, sealed, where nothing refuses the book that they say; else the least number that does
pub record Passes (t : Tables) (list : List RunStep) (work : ℕ) (v : Valid) (after : List RunStep) : Type 0 where
  pub same : v.tables ≡ t
  pub none : NoneApplies (lent (length list) work ++ whole (book_of t))
  pub stand : AllStand (book_of t)
  pub kept : after ≡ list

pub record Falls (t : Tables) (list : List RunStep) (work : ℕ) (c : Cause) (after : List RunStep) : Type 0 where
  pub least : Least (lent (length list) work ++ whole (book_of t)) (number_of c)
  pub leaves : Leaves (book_of t) c list after

abbrev pub Weighed : Tables → List RunStep → ℕ → Result Valid Cause → List RunStep → Type 0
Weighed t list work (Ok v) after = Passes t list work v after
Weighed t list work (Err c) after = Falls t list work c after
