use Rattle.tables.specs.View.{policy_of}
use Rattle.soundness.proofs.Regular.{no_targets_told}
use Rattle.soundness.proofs.regime.admins_are_no_targets.Goals as goal

pub returns : goal.returns
returns c =
    no_targets_told (policy_of c.args.tables.now) c.admins.result c.assignable.result c.revocable.result c.union-targets.result c.meets.result
    c.admins.ensures c.assignable.ensures c.revocable.ensures c.union-targets.ensures c.meets.ensures
