use Rattle.std.proofs.Common.{ℕ, map, take}
use Rattle.meaning.specs.Lists.{Nth}
use Rattle.pen.specs.Puts.{Wrote}
use Rattle.tables.specs.declared.entries.RequirementEntry.{RequirementEntry}
use Rattle.tables.specs.View.{requirement_of}
use Rattle.drafts.specs.Neat.{OfSet}
use Rattle.boardtext.specs.Canonical.{each, requirement_text}
use Rattle.storing.proofs.rules.put_requirements.Given as goal

abbrev pub invariant-loop-entry : goal.invariant-loop-entry
invariant-loop-entry l = ((k : ℕ) (e : RequirementEntry) → Nth k e l.entries → OfSet e.larger × OfSet e.smaller) → Wrote l.initial.w (each requirement_text (map requirement_of (take l.entry-index l.entries))) l.w
