use Rattle.tables.specs.View.{revoke_of}
use Rattle.boardtext.specs.Canonical.{revoke_text}
use Rattle.storing.proofs.Listing.{next_line}
use Rattle.storing.proofs.rules.put_revokes.Goals as goal

pub loop-entry-preserved : goal.loop-entry-preserved
loop-entry-preserved c = next_line c.args.entries.now c.loop-entry.entry-index c.entry-item.result c.loop-entry-test.true c.entry-item.is revoke_text revoke_of _ _ _ c.loop-entry.invariant c.put_revoke.ensures
