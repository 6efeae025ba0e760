use Rattle.std.proofs.Common.{arith}
use Rattle.soundness.proofs.Stable.{sound}
use Rattle.questions.proofs.Making.{askable}
use Rattle.verdicts.proofs.settle.decide.Goals as goal

pub decide_in-requires : goal.decide_in-requires
decide_in-requires c =
    let e = c.plan_of.ensures in
    record {
      plan_fits = record { planned = e.planned; masks = e.masks; measured = e.measured; regular = (sound c.args.board.now).regular; semi = (askable c.args.asked.now).is_semi_static };
      places = omega arith;
      room = omega arith;
    }
