use Rattle.std.proofs.Common.{sym, subst}
use Rattle.texts.specs.Words.{Keywords}
use Rattle.texts.proofs.Starting.{spelt_so}
use Rattle.texts.proofs.line.keyword.Goals as goal

pub returns : goal.returns
returns c = subst (Keywords c.args.word.now) (sym c.spelt.ensures) (spelt_so c.args.word.now)
