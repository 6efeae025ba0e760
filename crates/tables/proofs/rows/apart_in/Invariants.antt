use Rattle.std.proofs.Common.{◌≡◌, ◌*◌, length}
use Rattle.words.specs.Words.{bits}
use Rattle.meaning.specs.Measures.{users}
use Rattle.tables.proofs.Marking.{Marked}
use Rattle.tables.proofs.rows.apart_in.Given as goal

abbrev pub invariant-loop-row : goal.invariant-loop-row
invariant-loop-row l = Marked l.rows l.row-index (bits l.seen) × (length l.seen * 64 ≡ users)
