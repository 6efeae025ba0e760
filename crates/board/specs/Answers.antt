-- What a call's result and the step list tell, as an answer.
use Rattle.std.specs.Prelude.{◌≡◌, ℕ, Bool, List, [], length, take, drop, Ok, Err, Some, None, Option, Result}
use Rattle.meaning.specs.Runs.{Change}
use Rattle.deciding.specs.declared.runs.RunStep.{RunStep}
use Rattle.verdicts.specs.declared.verdict.Shown.{Shown}
use Rattle.book.specs.declared.refusal.Cause.{Cause}
use Rattle.book.specs.declared.refusal.Cause.TheVariants.{RequirementFails}
use Rattle.book.specs.declared.refusal.Refusal.{Refusal}
use Rattle.book.specs.Numbers.{diagnostic}
use Rattle.book.specs.Book.{Book}
use Rattle.book.specs.Calls.{Call}
use Rattle.book.specs.Outcomes.{Answer, done, truth, verdict, refused, run_in, Outcome}
use Rattle.board.specs.declared.replies.Answer.{Answer as Reply}
use Rattle.verdicts.specs.Looking.{as_changes}

-- the run at the front of a list
abbrev pub run_of : Shown → List RunStep → List Change
run_of x list = as_changes x.adds (take x.steps list)

abbrev pub shown_by : Option Shown → List RunStep → Option (List Change)
shown_by (Some x) list = Some (run_of x list)
shown_by None list = None

-- the run that shows that a requirement fails; with no other cause is there one
abbrev pub failed_run : Cause → List RunStep → List Change
failed_run (RequirementFails k n adds) list = as_changes adds (take n list)
failed_run cause list = []

abbrev pub refusal_by : Refusal → List RunStep → Answer
refusal_by e list = refused (diagnostic e.cause e.line) (failed_run e.cause list)

-- the answer of a call that changes the board, of a question, and of a test
abbrev pub done_by : Result (Unit {0}) Refusal → List RunStep → Answer
done_by (Ok u) list = done
done_by (Err e) list = refusal_by e list

abbrev pub verdict_by : Result Reply Refusal → List RunStep → Answer
verdict_by (Ok a) list = verdict a.kind a.verdict.yes (shown_by a.verdict.run list)
verdict_by (Err e) list = refusal_by e list

abbrev pub truth_by : Result Bool Refusal → Answer
truth_by (Ok b) = truth b
truth_by (Err e) = refusal_by e []

-- what a call comes to that is lent a step list and a work table of so many words; the places of the list behind the run are as they were
pub record Lent (call : (list work : ℕ) → Call) (list : List RunStep) (work : ℕ) (b : Book) (answer : List RunStep → Answer) (z : Book) (left : List RunStep) : Type 0 where
  pub outcome : Outcome b (call (length list) work) (answer left) z
  pub rest : drop (length (run_in (answer left))) left ≡ drop (length (run_in (answer left))) list
