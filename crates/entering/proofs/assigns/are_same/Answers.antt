use Rattle.std.proofs.Common.{ap₂, nat_eq, arith}
use Rattle.entering.proofs.Sameness.{same_assigns}
use Rattle.entering.proofs.assigns.are_same.Goals as goal

pub returns : goal.returns
returns c f g =
    same_assigns c.args.one.now c.args.other.now (omega (arith, c.word.ensures)) (omega (arith, c.word-2.ensures)) c.eq.result (nat_eq c.word.result c.word-2.result) c.ask_same.result
    c.eq.ensures (ap₂ nat_eq c.word.ensures c.word-2.ensures) (c.ask_same.ensures f g)
