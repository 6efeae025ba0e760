use Rattle.std.proofs.Common.{◌≡◌, true, None, sym, ap, ◌∙◌, subst, arith}
use mathlib.Core.Path.{subst⁻¹}
use Rattle.rbac.specs.Roles.{roles_of}
use Rattle.trees.specs.Trees.{balanced, decode}
use Rattle.tables.specs.View.{set_of, condition_of, or_nobody}
use Rattle.soundness.specs.Rules.{is_set}
use Rattle.deciding.specs.Masked.{meets_test, down_of, in_test}
use Rattle.deciding.proofs.Machine.{as_condition_lem}
use Rattle.deciding.proofs.sets.condition.Goals as goal

pub returns-in-Roles : goal.returns-in-Roles
returns-in-Roles c =
    let m = c.args.masks.now in
    let row = roles_of c.args.roles in
    c.worked.ensures (subst⁻¹ (λ ns. balanced 0 ns ≡ true) c.entries.ensures.all (subst (λ n. is_set n ≡ true) c.in-Roles.is c.args.rule.now.set))
    ∙ ap (λ ns. in_test m.seniors m.givers None row (or_nobody (decode ns))) c.entries.ensures.all
    ∙ as_condition_lem m.seniors m.givers row (omega (arith, m.ranked)) (set_of c.in-Roles.nodes)
    ∙ ap (λ n. meets_test (down_of m.seniors) row (condition_of n)) (sym c.in-Roles.is)
