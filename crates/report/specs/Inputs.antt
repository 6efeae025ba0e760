-- A question and a board text in one input, and what is answered to it.
use Rattle.std.specs.Prelude.{◌≡◌, ℕ, ◌<◌, ◌≤◌, true, ◌⊎◌, List, [], ◌++◌, length, drop, Ok, Err}
use Rattle.texts.specs.Board.{unbroken, Cut}
use Rattle.book.specs.declared.refusal.Refusal.{Refusal}
use Rattle.deciding.specs.declared.runs.RunStep.{RunStep}
use Rattle.report.specs.Texts.{refusal_text}
use Rattle.report.specs.Reports.{OpenedAndReported}

-- the question is what stands before the first byte 10 of the input, and the board text all that follows it; where there is none, all is the question, and the text is empty
pub data Splits (input : List ℕ) : (question text : List ℕ) → Type 0 where
  no_text : unbroken input ≡ true → Splits input input []
  first_line : {question text : List ℕ} → Cut input question text → Splits input question text

-- the line of the refusal stands at the front of the place, as long as n says; or the place is too short for it, n is 0, and the place is as it was
abbrev pub LineIn : Refusal → List ℕ → ℕ → List ℕ → Type 0
LineIn e place n left =
    ((n ≡ length (refusal_text e)) × (n ≤ length place) × (left ≡ refusal_text e ++ drop n place))
    ⊎ ((n ≡ 0) × (length place < length (refusal_text e)) × (left ≡ place))

-- the report of the text and the question is there, or the line of what refuses it
pub data AnsweredIn (question text : List ℕ) (list : List RunStep) (work : ℕ) (place : List ℕ) (n : ℕ) (left : List RunStep) (after : List ℕ) : Type 0 where
  reported : OpenedAndReported text question list work place (Ok n) left after → AnsweredIn question text list work place n left after
  turned_away : {e : Refusal} → OpenedAndReported text question list work place (Err e) left place → LineIn e place n after → AnsweredIn question text list work place n left after

pub record InputAnswered (input : List ℕ) (list : List RunStep) (work : ℕ) (place : List ℕ) (n : ℕ) (left : List RunStep) (after : List ℕ) : Type 0 where
  pub question : List ℕ
  pub text : List ℕ
  pub split : Splits input question text
  pub answered : AnsweredIn question text list work place n left after
