use Rattle.std.proofs.Common.{◌≡◌, ℕ, ◌⊎◌, Bool, List, [], length}
use Rattle.grammar.specs.Text.{rest}
use Rattle.lines.specs.Lists.{Seen, in_range}
use Rattle.lines.proofs.Walking.{Walk}
use Rattle.lines.proofs.lists.users.Given as goal

abbrev pub invariant-entries : goal.invariant-entries
invariant-entries l = (ms : List ℕ) × (good : Bool) × (Walk 117 (rest l.initial.r) (rest l.r) ms) × (l.fits ≡ in_range good) × (Seen l.extra good ms) × ((ms ≡ []) ⊎ (rest l.r ≡ [] → ⊥))

abbrev pub decreases-entries : goal.decreases-entries
decreases-entries l = length (rest l.r)
