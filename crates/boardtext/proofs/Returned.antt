-- The lines of a canonical board are all put in, and come back to its book.
use Rattle.std.proofs.Common.{◌≡◌, ◌++◌, refl, ap}
use mathlib.Core.Path.{subst⁻¹}
use Rattle.meaning.specs.Rules.{aatu, aar, Regime as RegimeMeant}
use Rattle.meaning.specs.Terms.{regime_of}
use Rattle.meaning.specs.declared.terms.Regime.{Regime}
use Rattle.meaning.specs.declared.terms.Regime.TheVariants.{Aatu, Aar}
use Rattle.texts.specs.Board.{mark_line, regime_line}
use Rattle.book.specs.Book.{Book, blank}
use Rattle.book.specs.Orderly.{Orderly}
use Rattle.book.specs.Calls.{Feeds}
use Rattle.boardtext.specs.Canonical.{regime_text, board_lines, canonical_board}
use Rattle.boardtext.proofs.Putting.{then}
use Rattle.boardtext.proofs.Related.{all_assigned, all_given, all_ordered}
use Rattle.boardtext.proofs.Trusted.{all_trusting}
use Rattle.boardtext.specs.Reopening.{ReadsBack, Reopens}
use Rattle.boardtext.proofs.Stopping.{opens}
use Rattle.boardtext.proofs.Fitting.{fits}
use Rattle.boardtext.proofs.Ruled.{all_assigning, all_revoking, all_requiring}

pub all_lines : (b : Book) → Orderly b → Feeds (blank b.policy.regime) (board_lines b) b
all_lines b o = then (all_assigned b o) (then (all_given b o) (then (all_ordered b o) (then (all_trusting b o) (then (all_assigning b o) (then (all_revoking b o) (all_requiring b o))))))

regime_written : (r : RegimeMeant) → (g : Regime) × (regime_of g ≡ r) × (regime_text r ≡ regime_line g)
regime_written aatu = (Aatu, refl, refl)
regime_written aar = (Aar, refl, refl)

pub reads_back : ReadsBack
reads_back b o =
    let (g, is, text) = regime_written b.policy.regime in (
      fits b o,
      (g, board_lines b, ap (λ s. mark_line ++ (s ++ board_lines b)) text, subst⁻¹ (λ (r : RegimeMeant). Feeds (blank r) (board_lines b) b) is (all_lines b o)),
    )

pub reopens : Reopens
reopens before b list work o none = opens (canonical_board b) list work before b (reads_back b o) none
