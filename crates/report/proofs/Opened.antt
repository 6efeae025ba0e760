-- From the opening of a report's board to its report.
use Rattle.std.proofs.Common.{◌≡◌, ℕ, List, Ok, Err, Result, refl, subst}
use Rattle.book.specs.declared.refusal.Refusal.{Refusal}
use Rattle.book.specs.Book.{Book, new_book}
use Rattle.book.specs.Calls.{opening}
use Rattle.deciding.specs.declared.runs.RunStep.{RunStep}
use Rattle.board.specs.Answers.{Lent, done_by}
use Rattle.report.specs.Reports.{OpenedAndReported, opened, not_opened, Reported}

module _ (text question : List ℕ) (list : List RunStep) (work : ℕ) (place : List ℕ) (fresh : Book) (new : fresh ≡ new_book) (between : List RunStep) (z : Book) where
  pub turned_away : (e : Refusal) → Lent (opening text) list work fresh (done_by (Err e)) z between → OpenedAndReported text question list work place (Err e) between place
  turned_away e l =
      let (why, same) = l.outcome in
      not_opened (subst (λ (b : Book). Lent (opening text) list work b (done_by (Err e)) b between) new (record { outcome = (why, refl); rest = l.rest }))

  pub reported : Lent (opening text) list work fresh (done_by (Ok tt)) z between → (r : Result ℕ Refusal) (left : List RunStep) (after : List ℕ) → Reported z question between work place r left after
      → OpenedAndReported text question list work place r left after
  reported granted r left after told = opened z between (subst (λ (b : Book). Lent (opening text) list work b (done_by (Ok tt)) z between) new granted) told
