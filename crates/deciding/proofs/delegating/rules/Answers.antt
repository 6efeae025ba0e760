use Rattle.std.proofs.Common.{rules}
use Rattle.deciding.proofs.Viewing.{rules_are}
use Rattle.deciding.proofs.delegating.rules.Goals as goal

pub returns-clause-all : goal.returns-clause-all
returns-clause-all c = search (rules, rules_are)
