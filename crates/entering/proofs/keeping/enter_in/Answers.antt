use Rattle.entering.proofs.Staying.{stays_neat}
use Rattle.entering.proofs.keeping.enter_in.Goals as goal

pub invariant_of-draft : goal.invariant_of-draft
invariant_of-draft c = record {
  neat = stays_neat c.args.draft.now.tables c.enter.new.tables c.args.way c.args.change c.args.extra.now c.requires c.enter.result (c.enter.ensures.entered c.requires)
      c.args.draft.now.neat c.enter.ensures.laid;
}
