-- What calls write.
use Rattle.std.specs.Prelude.{List, ℕ}
use Rattle.pen.specs.declared.writer.Writer.{Writer}
use Rattle.pen.specs.Puts.{Wrote}

-- a call that takes one writer to another writes these bytes, wherever it begins
abbrev pub Writes : (Writer → Writer → Type 0) → List ℕ → Type 0
Writes call a = (v w : Writer) → call v w → Wrote v a w
