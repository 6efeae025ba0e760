-- An answer as a report, and a report that was saved or not.
use Rattle.std.proofs.Common.{◌≡◌, ℕ, ◌<◌, ◌≤◌, List, length, drop, Some, None, Ok, Option, Result, sym, refl, ◌∙◌, subst, inl, inr, ⊎_elim, arith}
use Rattle.std.specs.Option.{ok_or}
use mathlib.Core.Path.{subst⁻¹}
use Rattle.std.proofs.lemmas.Bool.{cases_lt}
use Rattle.meaning.specs.Measures as measures
use Rattle.deciding.specs.declared.runs.RunStep.{RunStep}
use Rattle.book.specs.Book.{Book}
use Rattle.book.specs.Calls.{asking}
use Rattle.book.specs.Outcomes.{verdict, Outcome}
use Rattle.book.specs.declared.refusal.Refusal.{Refusal}
use Rattle.book.specs.declared.refusal.Cause.TheVariants.{TooShort}
use Rattle.book.specs.Faults.{of_no_line}
use Rattle.saving.specs.Canonical.{Saved}
use Rattle.board.specs.declared.replies.Answer.{Answer}
use Rattle.board.specs.Answers.{Lent, verdict_by, shown_by}
use Rattle.report.specs.Texts.{report_text}
use Rattle.report.specs.Reports.{Reports, Reported}

differs : (n : ℕ) → Some n ≡ None → ⊥
differs n e = cc

same : {m n : ℕ} → Some m ≡ Some n → m ≡ n
same e = cc

module _ (b : Book) (text : List ℕ) (list : List RunStep) (work : ℕ) (left : List RunStep) (place after report : List ℕ) (r : Reports b text list work left report) where
  -- a report that was saved, or found too short a place
  concluded : (o : Option ℕ) → Saved report place o after → Reported b text list work place (ok_or o (of_no_line TooShort)) left after
  concluded (Some n) s = ⊎_elim
      (λ (l : length place < length report). absurd (differs n (s.short l).0))
      (λ (l : length report ≤ length place). let e = same (s.fits l).0 in record { report = report; reports = r; all = e; fits = omega (arith, e, l); placed = (s.fits l).1 })
      (cases_lt (length place) (length report))
  concluded None s = ⊎_elim
      (λ (l : length place < length report). ((s.short l).1, inr (refl, record { report = report; reports = r; longer = l })))
      (λ (l : length report ≤ length place). absurd (differs (length report) (sym (s.fits l).0)))
      (cases_lt (length place) (length report))

  pub told : (o : Option ℕ) → Saved report place o after → (res : Result ℕ Refusal) → res ≡ ok_or o (of_no_line TooShort) → Reported b text list work place res left after
  told o s res e = subst⁻¹ (λ x. Reported b text list work place x left after) e (concluded o s)
