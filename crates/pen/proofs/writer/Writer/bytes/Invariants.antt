use Rattle.std.proofs.Common.{take}
use Rattle.pen.specs.Puts.{Wrote}
use Rattle.pen.proofs.writer.Writer.bytes.Given as goal

abbrev pub invariant-loop-b : goal.invariant-loop-b
invariant-loop-b l = Wrote l.initial.self (take l.b-index l.s) l.self
