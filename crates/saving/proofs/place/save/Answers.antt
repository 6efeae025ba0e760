use Rattle.std.proofs.Common.{Some, ap, ◌∙◌, arith}
use Rattle.pen.proofs.Join.{whole}
use Rattle.saving.proofs.place.save.Goals as goal

pub returns : goal.returns
returns g c a h =
    let s = c.size-size.ensures a h in
    record {
      short = λ h. absurd (omega arith);
      fits = λ l. (ap Some (omega arith), c.put.ensures a h ∙ whole _ a (omega arith) l);
    }
