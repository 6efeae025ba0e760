use Rattle.std.proofs.Common.{ℕ, ◌<◌, T, length, subst}
use mathlib.Core.Path.{subst⁻¹}
use Rattle.rbac.specs.Roles.{roles_of}
use Rattle.questions.specs.Inquired.{inquired}
use Rattle.tables.specs.View.{policy_of, state_of}
use Rattle.deciding.specs.Slots.{slots_of, slot_at}
use Rattle.verdicts.proofs.Takings.{some_holder}
use Rattle.verdicts.proofs.case.Case.taken.Goals as goal

pub holder-requires : goal.holder-requires
holder-requires c =
    let x = c.args.self.now in
    let (rule, nth, target, admin) = c.in_ok-by.ensures in
    let (i, l, h) = some_holder (policy_of x.board.now.tables) (state_of x.board.now.tables) (inquired x.asked.now) x.plan.now c.requires.plan_fits c.args.role.number c.in_ok-by.by.rule rule nth in
    subst⁻¹ (λ xs. (i : ℕ) × (i < length xs) × T (roles_of (slot_at xs i).roles c.in_ok-by.by.admin.number)) c.slots-slots.ensures
    (i, l, subst (λ r. T (roles_of (slot_at (slots_of x.plan.now) i).roles r)) admin (subst⁻¹ (λ f. T (f rule.admin)) (c.requires.plan_fits.planned.present.rows i l) h))
