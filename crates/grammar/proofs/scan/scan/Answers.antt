use Rattle.std.proofs.Common.{Some, None, ap, ◌∙◌, sym, rules}
use Rattle.grammar.specs.declared.sizes.Mode.TheVariants.{Operand}
use Rattle.grammar.specs.Scan.{scanned, at, empty}
use Rattle.grammar.proofs.Sound.{scanned_is}
use Rattle.grammar.proofs.scan.scan.Goals as goal

pub returns-in_err-size : goal.returns-in_err-size
returns-in_err-size c =
    let same = ap (scanned (at Operand 0 empty)) (c.new-ahead.ensures.rest ∙ c.rest.ensures) in
    rw c.from_residual.ensures (scanned_is _ _ None (sym same ∙ c.in_err-size.ensures) (λ e. search rules))

pub returns : goal.returns
returns c =
    let same = ap (scanned (at Operand 0 empty)) (c.new-ahead.ensures.rest ∙ c.rest.ensures) in
    scanned_is _ _ (Some c.in_ok-size.size) (sym same ∙ c.in_ok-size.ensures) (λ e. cc)
