use Rattle.std.proofs.Common.{sym, ◌∙◌, rules}
use Rattle.soundness.proofs.regime.aar_kept.Goals as goal
use Rattle.soundness.proofs.regime.aar_kept.Goals.{then-nobody_trusted, else-nobody_trusted, then-admins_are_no_targets, else-admins_are_no_targets}

pub returns-then-admins_are_assigned : goal.returns-then-admins_are_assigned
returns-then-admins_are_assigned c = elim c.if-admins_are_no_targets.branch [
  | then-admins_are_no_targets w ↦ elim c.if-nobody_trusted.branch [
    | then-nobody_trusted v ↦ (
      (λ e. record {
        nobody_trusted = c.nobody_trusted.ensures.0 v.if-nobody_trusted.true;
        no_targets = v.admins_are_no_targets.ensures.0 (sym v.value-is ∙ w.if-admins_are_no_targets.true);
        assigned = w.admins_are_assigned.ensures.0 (sym w.value-is ∙ c.if-admins_are_assigned.true);
        revocable = c.assignable_is_revocable.ensures.0 e;
      }),
      λ k. c.assignable_is_revocable.ensures.1 k.revocable,
    )
    | else-nobody_trusted v ↦ search rules
  ]
  | else-admins_are_no_targets w ↦ search rules
]
