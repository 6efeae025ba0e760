use Rattle.std.proofs.Common.{rules}
use Rattle.std.proofs.lemmas.Iterator.{cases_from_all, YieldsList-from_slice}
use Rattle.soundness.specs.Valid.{Whole}
use Rattle.soundness.proofs.Wholeness.{all_decided}
use Rattle.soundness.proofs.checks.all_whole.Goals as goal

pub returns : goal.returns
returns c =
    all_decided (λ x. Whole x.needs) c.args.rules.now c.all.result
    (cases_from_all _ _ _ (λ x. Whole x.needs) (λ x. Whole x.needs → ⊥) c.all.ensures.ran (YieldsList-from_slice c.args.rules.now cc) (λ x q k. search rules) (λ x q k. search rules))
