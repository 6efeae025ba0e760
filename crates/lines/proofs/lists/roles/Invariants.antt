use Rattle.std.proofs.Common.{◌≡◌, ℕ, ◌⊎◌, List, [], length}
use Rattle.grammar.specs.Text.{rest}
use Rattle.lines.specs.Lists.{Noted}
use Rattle.lines.proofs.Walking.{Walk}
use Rattle.lines.proofs.lists.roles.Given as goal

abbrev pub invariant-entries : goal.invariant-entries
invariant-entries l = (ms : List ℕ) × (Walk 114 (rest l.initial.r) (rest l.ahead) ms) × (Noted l.names ms) × ((ms ≡ []) ⊎ (rest l.ahead ≡ [] → ⊥)) × (rest l.r ≡ rest l.initial.r)

abbrev pub decreases-entries : goal.decreases-entries
decreases-entries l = length (rest l.ahead)
