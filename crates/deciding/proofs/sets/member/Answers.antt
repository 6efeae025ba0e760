use Rattle.std.proofs.Common.{◌&&◌, ap, ◌∙◌}
use Rattle.meaning.specs.Measures.{roles}
use Rattle.theory.specs.Tests.{some}
use Rattle.rbac.specs.Roles.{roles_of}
use Rattle.deciding.proofs.Machine.{shared}
use Rattle.deciding.proofs.sets.member.Goals as goal

pub returns : goal.returns
returns c =
    shared c.args.roles c.set_at.result c.meets.result c.meets.ensures
    ∙ ap (λ m. some roles (λ q. roles_of c.args.roles q && roles_of m q)) c.set_at.ensures
