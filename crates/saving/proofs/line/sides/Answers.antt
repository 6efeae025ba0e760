use Rattle.std.proofs.Common.{◌∙◌}
use Rattle.pen.proofs.Join.{join, to}
use Rattle.saving.proofs.Laying.{text_is}
use Rattle.saving.proofs.line.sides.Goals as goal

pub returns : goal.returns
returns c h =
    let l = h.0 in
    let r = h.1 in
    let e = c.args.extra.now in
    join _ _ _ _ _ c.bytes.ensures (join _ _ _ _ _ (to _ _ _ _ (text_is e.left l.0 l.1) (c.write.ensures l.0 (c.entries.ensures.all ∙ l.1)).bytes) (join _ _ _ _ _ c.bytes-2.ensures (to _ _ _ _ (text_is e.right r.0 r.1) (c.write-2.ensures r.0 (c.entries-2.ensures.all ∙ r.1)).bytes)))
