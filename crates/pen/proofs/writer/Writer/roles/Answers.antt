use Rattle.std.proofs.Common.{rules}
use Rattle.rbac.specs.Roles.{roles_of}
use Rattle.pen.proofs.writer.Writer.roles.Goals as goal

pub returns : goal.returns
returns c = c.entries.ensures (roles_of c.args.roles) (λ k b h p. search rules)
