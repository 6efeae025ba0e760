use Rattle.std.proofs.Common.{◌≡◌, sym, subst, ◌∙◌, add-one, arith}
use Rattle.pen.specs.Ascending.{ascending}
use Rattle.pen.specs.Puts.{Wrote}
use Rattle.pen.proofs.Join.{entry_first, entry_yes, entry_no, join, here}
use Rattle.pen.proofs.writer.Writer.entries.Goals as goal
use Rattle.pen.proofs.writer.Writer.entries.Goals.{then-passes, else-passes}
use Rattle.lines.specs.Entries.{entry_bytes}

pub loop-k-init : goal.loop-k-init
loop-k-init g c f h = entry_first c.args.letter f _

pub loop-k-preserved : goal.loop-k-preserved
loop-k-preserved g c f h =
    let p = c.loop-k.invariant f h in
    let q = h c.loop-k.k c.passes.result c.loop-k-test.true c.passes.ensures in
    elim c.if-passes.branch [
      | then-passes w ↦ here _ _ _ _ w.self-is
          (rw add-one (entry_yes c.args.letter f _ _ _ c.loop-k.k (sym q ∙ w.if-passes.true) p (join _ _ _ _ _ w.byte.ensures (join _ _ _ _ _ w.byte-then-passes.ensures w.number.ensures))))
      | else-passes w ↦ here _ _ _ _ w.self-is (rw add-one (entry_no c.args.letter f _ _ c.loop-k.k (sym q ∙ w.if-passes.false) p))
    ]

pub returns : goal.returns
returns g c f h = let e : c.loop-k.k ≡ c.args.limit = omega arith in subst (λ k. Wrote c.args.self.now (entry_bytes c.args.letter (ascending f k)) c.loop-k.self) e (c.loop-k.invariant f h)
