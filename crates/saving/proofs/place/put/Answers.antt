use Rattle.std.proofs.Common.{refl, rules}
use Rattle.saving.proofs.place.put.Goals as goal

pub returns : goal.returns
returns g c a h =
    let w = h _ c.write.new.arg2 (record { shown = _; shows = refl; left = _; met = c.write.ensures; leaves = refl }) in
    let p = w.placed in
    let s = w.same in search (rules, p, s)
