use Rattle.theory.proofs.Delegate.{lawful}
use Rattle.deciding.specs.Delegates.{adding}
use Rattle.deciding.proofs.Opening.{p, us, all_run}
use Rattle.deciding.proofs.delegation.Delegation.add_all.Goals as goal

pub returns-clause-law : goal.returns-clause-law
returns-clause-law c = lawful adding (p c.args.self.now) (us c.args.self.now)

pub returns-clause-run : goal.returns-clause-run
returns-clause-run c = all_run c.args.self.now c.args.list.now c.close.new.list c.close.result c.args.work.now c.close.new.facts c.close.ensures
