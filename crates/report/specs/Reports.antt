-- The report on a question, and the line of a refusal, in a place for text.
use Rattle.std.specs.Prelude.{◌≡◌, ℕ, ◌<◌, ◌≤◌, ◌⊎◌, List, ◌++◌, length, drop, Ok, Err, Result}
use Rattle.book.specs.declared.refusal.Refusal.{Refusal}
use Rattle.book.specs.declared.refusal.Cause.TheVariants.{TooShort}
use Rattle.book.specs.Faults.{of_no_line}
use Rattle.book.specs.Book.{Book, new_book}
use Rattle.book.specs.Calls.{opening, asking}
use Rattle.deciding.specs.declared.runs.RunStep.{RunStep}
use Rattle.board.specs.declared.replies.Answer.{Answer}
use Rattle.board.specs.Answers.{Lent, done_by, verdict_by, shown_by}
use Rattle.report.specs.Texts.{report_text}

-- asked on this board with this list and so many words, the question is answered, and this is the report on the answer and on the run that the list then holds
pub record Reports (b : Book) (question : List ℕ) (list : List RunStep) (work : ℕ) (left : List RunStep) (report : List ℕ) : Type 0 where
  pub answer : Answer
  pub asked : Lent (asking question) list work b (verdict_by (Ok answer)) b left
  pub reported : report ≡ report_text answer.kind answer.verdict.yes (shown_by answer.verdict.run left)

-- a report at the front of the place, and all behind it as it was
pub record ReportedIn (b : Book) (question : List ℕ) (list : List RunStep) (work : ℕ) (place : List ℕ) (n : ℕ) (left : List RunStep) (after : List ℕ) : Type 0 where
  pub report : List ℕ
  pub reports : Reports b question list work left report
  pub all : n ≡ length report
  pub fits : n ≤ length place
  pub placed : after ≡ report ++ drop (length report) place

-- the report is longer than the place
pub record NoPlace (b : Book) (question : List ℕ) (list : List RunStep) (work : ℕ) (place : List ℕ) (left : List RunStep) : Type 0 where
  pub report : List ℕ
  pub reports : Reports b question list work left report
  pub longer : length place < length report

-- the report is there; or the place is as it was, and the question is refused or the place is too short
abbrev pub Reported : Book → List ℕ → List RunStep → ℕ → List ℕ → Result ℕ Refusal → List RunStep → List ℕ → Type 0
Reported b question list work place (Ok n) left after = ReportedIn b question list work place n left after
Reported b question list work place (Err e) left after =
    (after ≡ place)
    × (Lent (asking question) list work b (verdict_by (Err e)) b left
    ⊎ ((e ≡ of_no_line TooShort) × NoPlace b question list work place left))

-- the text opens to a board of its own, and the question is reported on it; or the text is refused, and the place is as it was
pub data OpenedAndReported (text question : List ℕ) (list : List RunStep) (work : ℕ) (place : List ℕ) : Result ℕ Refusal → List RunStep → List ℕ → Type 0 where
  opened : {result : Result ℕ Refusal} {left : List RunStep} {after : List ℕ} (board : Book) (between : List RunStep) → Lent (opening text) list work new_book (done_by (Ok tt)) board between
      → Reported board question between work place result left after → OpenedAndReported text question list work place result left after
  not_opened : {e : Refusal} {left : List RunStep} → Lent (opening text) list work new_book (done_by (Err e)) new_book left
      → OpenedAndReported text question list work place (Err e) left place
