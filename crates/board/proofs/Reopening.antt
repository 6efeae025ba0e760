-- A board's canonical text opens to an equal board.
use Rattle.std.proofs.Common.{◌≡◌, ℕ, ◌≤◌, length, ◌++◌, subst}
use Rattle.meaning.specs.Measures as measures
use Rattle.meaning.specs.Rules.{Regime, aar}
use Rattle.meaning.specs.Regimes.{Aar}
use Rattle.tables.specs.View.{policy_of, state_of}
use Rattle.soundness.proofs.Stable.{sound}
use Rattle.texts.specs.Lengths.{longest_text}
use Rattle.boardtext.specs.Canonical.{canonical_board}
use Rattle.boardtext.proofs.Fitting.{fits}
use Rattle.boardtext.proofs.Returned.{reopens}
use Rattle.storing.proofs.Surely.{neat_surely}
use Rattle.book.specs.Refusals.{lent, whole, NoneApplies}
use Rattle.book.proofs.Granting.{Asked}
use Rattle.book.proofs.Ladder.{pass, end}
use Rattle.weighing.proofs.Concluding.{long_enough}
use Rattle.weighing.proofs.Surely.{stands_surely}
use Rattle.board.specs.declared.board.Board.{Board}
use Rattle.board.specs.Saving.{Restores}
use Rattle.board.specs.View.{says}

module _ (board : Board) where
  pub always_fits : length (canonical_board (says board)) ≤ longest_text
  always_fits = fits (says board) (neat_surely board.valid.tables board.neat).orderly

  by_aar : (policy_of board.valid.tables).regime ≡ aar → Aar (policy_of board.valid.tables) (state_of board.valid.tables)
  by_aar e = subst (λ (g : Regime). Asked g (policy_of board.valid.tables) (state_of board.valid.tables)) e (sound board.valid).regular

  none : (list work : ℕ) → measures.list_places ≤ list → measures.work_words ≤ work → NoneApplies (lent list work ++ whole (says board))
  none list work places words =
      pass (long_enough list work places words)
      (pass (λ h. h.broken (by_aar h.under_aar).no_targets)
      (pass (λ h. h.broken (by_aar h.under_aar).assigned)
      (pass (λ h. h.broken (by_aar h.under_aar).revocable)
      (pass (λ (k, f). f.falls (stands_surely board.valid.tables (state_of board.valid.tables) f.requirement (board.lasting k f.requirement f.numbered))) end))))

  pub always_restores : Restores (says board)
  always_restores before list work places words = reopens before (says board) list work (neat_surely board.valid.tables board.neat).orderly (none list work places words)
