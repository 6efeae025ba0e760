-- The text of neat tables, counted.
use Rattle.std.proofs.Common.{◌≡◌, ℕ, min, length, ◌∙◌, arith}
use Rattle.pen.specs.Puts.{top}
use Rattle.boardtext.specs.Canonical.{canonical_board}
use Rattle.boardtext.proofs.Fitting.{fits}
use Rattle.tables.specs.declared.tables.Tables.{Tables}
use Rattle.drafts.specs.View.{book_of}
use Rattle.drafts.specs.Neat.{Neat}

pub counted : (t : Tables) → Neat t → (len : ℕ) → len ≡ min (length (canonical_board (book_of t))) top → len ≡ length (canonical_board (book_of t))
counted t neat len is = let l = fits (book_of t) neat.orderly in is ∙ omega (arith, l)
