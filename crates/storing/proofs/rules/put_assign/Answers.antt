use Rattle.std.proofs.Common.{ap}
use mathlib.Core.Path.{subst⁻¹}
use Rattle.pen.proofs.Join.{to}
use Rattle.tables.specs.declared.entries.Needs.{Needs}
use Rattle.boardtext.specs.Canonical.{ended}
use Rattle.storing.proofs.Saying.{Tree, condition_tree, assign_line}
use Rattle.storing.proofs.rules.put_assign.Goals as goal
use Rattle.storing.proofs.rules.put_assign.Goals.{in-Everybody, in-Roles}

pub returns : goal.returns
returns c h =
    let entry = c.args.entry.now in
    let condition = c.match-entry.beside in
    let tree : Tree entry.needs condition = elim c.match-entry.branch [
      | in-Everybody w ↦ subst⁻¹ (λ (n : Needs). Tree n condition) w.in-Everybody.is w.beside-is
      | in-Roles w ↦ subst⁻¹ (λ (n : Needs). Tree n condition) w.in-Roles.is w.beside-is
    ] in
    to _ _ _ _ (ap ended (assign_line entry condition tree h)) (c.put.ensures (condition_tree entry.needs condition tree h))
