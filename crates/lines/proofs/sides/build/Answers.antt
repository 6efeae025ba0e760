use Rattle.std.proofs.Common.{Some, None}
use Rattle.grammar.specs.Text.{rest}
use Rattle.lines.proofs.Siding.{left_built, right_built}
use Rattle.lines.proofs.sides.build.Goals as goal

pub returns-in_err-extra-2 : goal.returns-in_err-extra-2
returns-in_err-extra-2 c x w g h =
    let p = left_built _ x w _ c.if-not-take.ensures.read (Some c.in_ok-extra.field-0) (rest c.side.new.r) c.in_ok-extra.ensures.built g in
    let q = c.if-not-takes.ensures.read.found _ p.1 in
    absurd (right_built _ x w _ q.1 None (rest c.side-2.new.r) c.in_err-extra-2.ensures.built h)
