-- A set whose bytes stand there is written canonically.
use Rattle.std.proofs.Common.{◌≡◌, ℕ, List}
use Rattle.meaning.specs.Sets.{UserSet}
use Rattle.pen.specs.declared.spot.Spot.{Spot}
use Rattle.pen.specs.declared.writer.Writer.{Writer}
use Rattle.pen.specs.Puts.{Wrote}
use Rattle.pen.specs.Texts.{written, WroteSet}
use Rattle.pen.proofs.Join.{to}
use Rattle.pen.proofs.Canonical.{canonical}

pub wrote : (v w : Writer) (spot : Spot) (t : UserSet) (a : List ℕ) → a ≡ written spot t → Wrote v a w → WroteSet spot t v w
wrote v w spot t a e h = record { bytes = to v w a (written spot t) e h; canonical = canonical spot t }
