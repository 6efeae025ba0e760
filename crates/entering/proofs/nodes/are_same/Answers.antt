use Rattle.std.proofs.Common.{sym, ◌∙◌}
use lib.Pointwise.{pointwise_decides}
use Rattle.entering.proofs.SameNodes.{tells}
use Rattle.entering.proofs.nodes.are_same.Goals as goal

pub returns : goal.returns
returns c =
    let d = pointwise_decides tells c.entries.result.now c.entries-2.result.now in
    (λ e. sym c.entries.ensures.all ∙ d.0 (sym c.eq.ensures ∙ e) ∙ c.entries-2.ensures.all, λ e. c.eq.ensures ∙ d.1 (c.entries.ensures.all ∙ e ∙ sym c.entries-2.ensures.all))
