-- A number out of range, as the outcome of a call.
use Rattle.std.proofs.Common.{◌≡◌, ℕ, ◌≤◌, ◌⊎◌, [], refl, inl, inr, arith, lit<}
use Rattle.meaning.specs.Measures as measures
use Rattle.book.specs.declared.refusal.Cause.{Cause}
use Rattle.book.specs.declared.refusal.Cause.TheVariants.{Range}
use Rattle.book.specs.Book.{Book}
use Rattle.book.specs.Faults.{of_no_line}
use Rattle.book.specs.Calls.{Call, adding, removing, membership, permission, OutOfRange, RefusedAt}
use Rattle.book.specs.Outcomes.{Outcome, done, truth}
use Rattle.book.proofs.Ladder.{here, end, pass}
use Rattle.board.specs.Answers.{refusal_by}
use Rattle.board.proofs.Refusing.{plainly}

module _ (b : Book) where
  range : (call : Call) → RefusedAt b call 4 0 → Outcome b call (refusal_by (of_no_line Range) []) b
  range call at = ((plainly b call 0 [] [] Range (λ e. omega (arith, e)) at refl).is, refl)

  module _ (a u r : ℕ) (o : OutOfRange a u r) where
    pub out_adding : Outcome b (adding a u r) (refusal_by (of_no_line Range) []) b
    out_adding = range (adding a u r) (here o (lit< tt, (lit< tt, (lit< tt, (lit< tt, tt)))), refl)

    pub out_removing : Outcome b (removing a u r) (refusal_by (of_no_line Range) []) b
    out_removing = range (removing a u r) (here o (lit< tt, (lit< tt, (lit< tt, tt))), refl)

  pub out_member : (u r : ℕ) → (measures.users ≤ u) ⊎ (measures.roles ≤ r) → Outcome b (membership u r) (refusal_by (of_no_line Range) []) b
  out_member u r o = range (membership u r) (here o tt, refl)

  pub out_permission : (u p : ℕ) → (measures.users ≤ u) ⊎ (measures.permissions ≤ p) → Outcome b (permission u p) (refusal_by (of_no_line Range) []) b
  out_permission u p o = range (permission u p) (here o tt, refl)
