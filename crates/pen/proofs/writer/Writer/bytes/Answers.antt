use Rattle.std.proofs.Common.{sym, arith}
use Rattle.std.proofs.lemmas.List.{take_more}
use Rattle.pen.proofs.Join.{to, join}
use Rattle.pen.proofs.writer.Writer.bytes.Goals as goal

pub loop-b-preserved : goal.loop-b-preserved
loop-b-preserved c =
    to _ _ _ _ (sym (take_more c.args.s.now c.loop-b.b-index 0 (omega arith))) (join _ _ _ _ _ c.loop-b.invariant c.byte.ensures)
