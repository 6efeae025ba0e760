use Rattle.std.proofs.Common.{map, take}
use Rattle.pen.specs.Puts.{Wrote}
use Rattle.tables.specs.View.{revoke_of}
use Rattle.boardtext.specs.Canonical.{each, revoke_text}
use Rattle.storing.proofs.rules.put_revokes.Given as goal

abbrev pub invariant-loop-entry : goal.invariant-loop-entry
invariant-loop-entry l = Wrote l.initial.w (each revoke_text (map revoke_of (take l.entry-index l.entries))) l.w
