use Rattle.std.proofs.Common.{ℕ, List, Decides, T, ◌<◌, subst}
use Rattle.meaning.specs.Measures.{users}
use Rattle.rbac.specs.Roles.{roles_of}
use Rattle.tables.specs.declared.entries.Row.{Row}
use Rattle.tables.specs.View.{assigned}
use Rattle.soundness.proofs.Regular.{state_held}
use Rattle.soundness.proofs.regime.held.Goals as goal

pub returns : goal.returns
returns c =
    state_held c.args.tables.now c.held_in.result
    (subst (λ (list : List Row). (r : ℕ) → Decides (roles_of c.held_in.result r) ((u : ℕ) × (u < users) × T (assigned list u r))) c.entries.ensures.all c.held_in.ensures)
