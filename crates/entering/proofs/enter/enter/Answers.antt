use Rattle.entering.proofs.Laying.{laid_of}
use Rattle.entering.proofs.enter.enter.Goals as goal

pub add-requires-clause-laid : goal.add-requires-clause-laid
add-requires-clause-laid c = laid_of c.args.tables.now c.requires.neat

pub remove-requires-clause-laid : goal.remove-requires-clause-laid
remove-requires-clause-laid c = laid_of c.args.tables.now c.requires.neat
