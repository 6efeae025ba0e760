use Rattle.std.proofs.Common.{refl, ◌∙◌, arith}
use Rattle.pen.proofs.Join.{count_min}
use Rattle.saving.proofs.place.size.Goals as goal

pub returns : goal.returns
returns g c a h =
    let w = h _ c.write.new.arg2 (record { shown = _; shows = refl; left = _; met = c.write.ensures; leaves = refl }) in
    w.more ∙ count_min 0 a (omega arith) ∙ omega arith
