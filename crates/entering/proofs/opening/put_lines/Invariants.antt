use Rattle.std.proofs.Common.{◌+◌, ◌≤◌, length}
use Rattle.grammar.specs.Text.{rest}
use Rattle.drafts.specs.View.{book_of}
use Rattle.entering.proofs.Feeding.{Onward}
use Rattle.entering.proofs.opening.put_lines.Given as goal

-- what the lines that are left come to, all of them come to
abbrev pub invariant-lines : goal.invariant-lines
invariant-lines l =
    (l.r.line + length (rest l.r) ≤ 100000)
    × Onward l.initial.r.line (book_of l.initial.draft.tables) (rest l.initial.r) l.r.line (book_of l.draft.tables) (rest l.r)

abbrev pub decreases-lines : goal.decreases-lines
decreases-lines l = length (rest l.r)
