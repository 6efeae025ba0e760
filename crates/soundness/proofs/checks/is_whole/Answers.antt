use Rattle.std.proofs.Common.{Decides}
use mathlib.Core.Path.{subst⁻¹}
use Rattle.tables.specs.declared.entries.Needs.{Needs}
use Rattle.soundness.specs.Valid.{Whole}
use Rattle.soundness.proofs.Wholeness.{made_told}
use Rattle.soundness.proofs.checks.is_whole.Goals as goal

pub returns-then-is_some : goal.returns-then-is_some
returns-then-is_some c =
    subst⁻¹ (λ (n : Needs). Decides c.all_roles.result (Whole n)) c.in-Roles.is (made_told c.in-Roles.nodes c.new.result c.all_roles.result c.entries.result.now c.new.ensures.made c.if-is_some.ensures c.entries.ensures.all c.all_roles.ensures)
