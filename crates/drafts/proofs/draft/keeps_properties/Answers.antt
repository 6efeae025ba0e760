use Rattle.std.proofs.Common.{refl, ◌∙◌, lit<}
use Rattle.tables.proofs.Viewing.{regime_is}
use Rattle.book.proofs.Ladder.{here, skip}
use Rattle.drafts.proofs.Weighing.{refuted}
use Rattle.drafts.proofs.draft.keeps_properties.Goals as goal

pub returns-then-not-admins_are_no_targets : goal.returns-then-not-admins_are_no_targets
returns-then-not-admins_are_no_targets c = (
  here (record {
    under_aar = regime_is c.args.tables.now ∙ c.requires;
    broken = refuted c.admins_are_no_targets.result c.admins_are_no_targets.ensures c.if-not-admins_are_no_targets.true;
  }) (lit< tt, (lit< tt, (lit< tt, tt))),
  lit< tt,
)

pub returns-then-not-admins_are_assigned : goal.returns-then-not-admins_are_assigned
returns-then-not-admins_are_assigned c = (
  skip (λ b. b.broken (c.if-not-admins_are_no_targets.ensures.0 refl))
      (here (record {
        under_aar = regime_is c.args.tables.now ∙ c.requires;
        broken = refuted c.admins_are_assigned.result c.admins_are_assigned.ensures c.if-not-admins_are_assigned.true;
      }) (lit< tt, (lit< tt, tt))),
  lit< tt,
)

pub returns-then-not-assignable_is_revocable : goal.returns-then-not-assignable_is_revocable
returns-then-not-assignable_is_revocable c = (
  skip (λ b. b.broken (c.if-not-admins_are_no_targets.ensures.0 refl))
      (skip (λ b. b.broken (c.if-not-admins_are_assigned.ensures.0 refl))
      (here (record {
        under_aar = regime_is c.args.tables.now ∙ c.requires;
        broken = refuted c.assignable_is_revocable.result c.assignable_is_revocable.ensures c.if-not-assignable_is_revocable.true;
      }) (lit< tt, tt))),
  lit< tt,
)

pub returns : goal.returns
returns c = record {
  no_target = λ b. b.broken (c.if-not-admins_are_no_targets.ensures.0 refl);
  assigned = λ b. b.broken (c.if-not-admins_are_assigned.ensures.0 refl);
  revoked = λ b. b.broken (c.if-not-assignable_is_revocable.ensures.0 refl);
}
