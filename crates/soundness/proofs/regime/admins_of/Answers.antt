use Rattle.std.proofs.Common.{rules}
use Rattle.rbac.specs.Roles.{roles_of}
use Rattle.tables.proofs.Gathering.{gathered}
use Rattle.soundness.proofs.Naming.{by_admin, admins_decided}
use Rattle.soundness.proofs.regime.admins_of.Goals as goal

pub returns : goal.returns
returns g c =
    admins_decided g.R.Rule.administers c.args.rules.now (roles_of c.fold.result)
    (gathered _ _ (by_admin g.R.Rule.administers) (λ a x b f' k. (search rules, search rules)) c.iter.result c.args.rules.now c.iter.ensures.rest _ _ c.empty.ensures c.fold.ensures.ran)
