use Rattle.tables.specs.View.{requirement_of}
use Rattle.boardtext.specs.Canonical.{requirement_text}
use Rattle.storing.proofs.Listing.{next_line, numbered}
use Rattle.storing.proofs.rules.put_requirements.Goals as goal

pub loop-entry-preserved : goal.loop-entry-preserved
loop-entry-preserved c h =
    let xs = c.args.entries.now in
    let i = c.loop-entry.entry-index in
    let x = c.entry-item.result in
    next_line xs i x c.loop-entry-test.true c.entry-item.is requirement_text requirement_of _ _ _ (c.loop-entry.invariant h) (c.put_requirement.ensures (h _ x (numbered xs i x c.loop-entry-test.true c.entry-item.is)))
