use Rattle.std.proofs.Common.{◌≡◌, ℕ, ◌<◌, Bool}
use Rattle.pen.specs.Ascending.{ascending}
use Rattle.pen.specs.Puts.{Wrote}
use Rattle.pen.proofs.writer.Writer.entries.Given as goal
use Rattle.lines.specs.Entries.{entry_bytes}

abbrev pub invariant-loop-k : goal.invariant-loop-k
invariant-loop-k g l = (f : ℕ → Bool) → ((k : ℕ) (b : Bool) → k < l.limit → goal.F-post g l.passes k b → b ≡ f k) → Wrote l.initial.self (entry_bytes l.letter (ascending f l.k)) l.self
