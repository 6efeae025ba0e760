-- A text that was saved, or found too short a place, as the outcome of saving it.
use Rattle.std.proofs.Common.{◌≡◌, ℕ, ◌<◌, ◌≤◌, List, [], ◌++◌, length, drop, Some, None, Ok, Err, Option, Result, sym, refl, inl, inr, ⊎_elim, arith}
use mathlib.Core.Path.{subst⁻¹}
use Rattle.std.specs.Option.{ok_or}
use Rattle.std.proofs.lemmas.Bool.{cases_lt}
use Rattle.book.specs.declared.refusal.Cause.TheVariants.{TooShort}
use Rattle.book.specs.declared.refusal.Refusal.{Refusal}
use Rattle.book.specs.Faults.{of_no_line}
use Rattle.book.specs.Book.{Book}
use Rattle.book.specs.Calls.{saving, RefusedAt}
use Rattle.book.specs.Outcomes.{Outcome, done}
use Rattle.book.proofs.Ladder.{here}
use Rattle.saving.specs.Canonical.{Saved}
use Rattle.boardtext.specs.Canonical.{canonical_board}
use Rattle.board.specs.Answers.{refusal_by}
use Rattle.board.specs.Saving.{SavedAs, Placed}
use Rattle.board.proofs.Refusing.{plainly}

differs : (n : ℕ) → Some n ≡ None → ⊥
differs n e = cc

same : {m n : ℕ} → Some m ≡ Some n → m ≡ n
same e = cc

module _ (b : Book) (place left : List ℕ) where
  fits : length (canonical_board b) ≤ length place → Outcome b (saving (canonical_board b) (length place)) done b
  fits l = (no_row, tt, refl)
    where
      no_row : (n line : ℕ) → RefusedAt b (saving (canonical_board b) (length place)) n line → ⊥
      no_row n line (least, at) = ⊎_elim (λ (k : (7 ≡ n) × (length place < length (canonical_board b))). let h = k.1 in omega (arith, l, h)) (λ (k : ⊥). k) least.applies

  placed : (n : ℕ) → n ≡ length (canonical_board b) → left ≡ canonical_board b ++ drop (length (canonical_board b)) place → Placed b place (Ok n) left
  placed n e p = (e, subst⁻¹ (λ (m : ℕ). left ≡ canonical_board b ++ drop m place) e p)

  pub saved : (n : ℕ) → Saved (canonical_board b) place (Some n) left → SavedAs b place (Ok n) left
  saved n s = ⊎_elim
      (λ (l : length place < length (canonical_board b)). absurd (differs n (s.short l).0))
      (λ (l : length (canonical_board b) ≤ length place). record { outcome = fits l; placed = placed n (same (s.fits l).0) (s.fits l).1 })
      (cases_lt (length place) (length (canonical_board b)))

  pub unsaved : Saved (canonical_board b) place None left → SavedAs b place (Err (of_no_line TooShort)) left
  unsaved s = ⊎_elim
      (λ (l : length place < length (canonical_board b)). record {
        outcome = ((plainly b (saving (canonical_board b) (length place)) 0 [] [] TooShort (λ is. omega (arith, is)) (here l tt, refl) refl).is, refl);
        placed = (s.short l).1;
      })
      (λ (l : length (canonical_board b) ≤ length place). absurd (differs (length (canonical_board b)) (sym (s.fits l).0)))
      (cases_lt (length place) (length (canonical_board b)))

  pub concluded : (o : Option ℕ) → Saved (canonical_board b) place o left → SavedAs b place (ok_or o (of_no_line TooShort)) left
  concluded (Some n) s = saved n s
  concluded None s = unsaved s
