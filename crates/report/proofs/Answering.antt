-- A report or a refusal's line, in the place.
use Rattle.std.proofs.Common.{◌≡◌, ℕ, ◌<◌, ◌≤◌, List, length, drop, ◌++◌, Some, None, Ok, Err, Option, sym, refl, subst, inl, inr, ⊎_elim, arith}
use mathlib.Core.Path.{subst⁻¹}
use Rattle.std.specs.Option.{unwrap_or}
use Rattle.std.proofs.lemmas.Bool.{cases_lt}
use Rattle.book.specs.declared.refusal.Refusal.{Refusal}
use Rattle.deciding.specs.declared.runs.RunStep.{RunStep}
use Rattle.saving.specs.Canonical.{Saved}
use Rattle.report.specs.Texts.{refusal_text}
use Rattle.report.specs.Reports.{OpenedAndReported, opened, not_opened}
use Rattle.report.specs.Inputs.{LineIn}

-- what is refused leaves the place
pub untouched : (text question : List ℕ) (list : List RunStep) (work : ℕ) (place : List ℕ) (left : List RunStep) (after : List ℕ) (e : Refusal) → OpenedAndReported text question list work place (Err e) left after → after ≡ place
untouched text question list work place left after e (opened b m o r) = r.0
untouched text question list work place left after e (not_opened o) = refl

module _ (e : Refusal) (place left : List ℕ) where
  whole : (o : Option ℕ) → o ≡ Some (length (refusal_text e)) → length (refusal_text e) ≤ length place → left ≡ refusal_text e ++ drop (length (refusal_text e)) place → LineIn e place (unwrap_or o 0) left
  whole o is fits put = subst⁻¹ (λ (x : Option ℕ). LineIn e place (unwrap_or x 0) left) is (inl (refl, fits, put))

  none : (o : Option ℕ) → o ≡ None → length place < length (refusal_text e) → left ≡ place → LineIn e place (unwrap_or o 0) left
  none o is short same = subst⁻¹ (λ (x : Option ℕ). LineIn e place (unwrap_or x 0) left) is (inr (refl, short, same))

  pub line_in : (o : Option ℕ) → Saved (refusal_text e) place o left → LineIn e place (unwrap_or o 0) left
  line_in o s = ⊎_elim
      (λ (l : length place < length (refusal_text e)). none o (s.short l).0 l (s.short l).1)
      (λ (l : length (refusal_text e) ≤ length place). whole o (s.fits l).0 l (s.fits l).1)
      (cases_lt (length place) (length (refusal_text e)))

  pub within : (n : ℕ) → LineIn e place n left → n ≤ length place
  within n (inl h) = h.1
  within n (inr h) = let is = h.0 in omega (arith, is)

-- a report is no longer than its place
pub report_within : (text question : List ℕ) (list : List RunStep) (work : ℕ) (place : List ℕ) (left : List RunStep) (after : List ℕ) (n : ℕ) → OpenedAndReported text question list work place (Ok n) left after → n ≤ length place
report_within text question list work place left after n (opened b m o r) = r.fits
