use Rattle.std.proofs.Common.{ℕ, map, take}
use Rattle.meaning.specs.Lists.{Nth}
use Rattle.pen.specs.Puts.{Wrote}
use Rattle.tables.specs.declared.entries.AssignEntry.{AssignEntry}
use Rattle.tables.specs.View.{assign_of}
use Rattle.soundness.specs.Valid.{Whole}
use Rattle.boardtext.specs.Canonical.{each, assign_text}
use Rattle.storing.proofs.rules.put_assigns.Given as goal

abbrev pub invariant-loop-entry : goal.invariant-loop-entry
invariant-loop-entry l = ((k : ℕ) (e : AssignEntry) → Nth k e l.entries → Whole e.needs) → Wrote l.initial.w (each assign_text (map assign_of (take l.entry-index l.entries))) l.w
