use Rattle.std.proofs.Common.{Bool, Decides, sym, subst₂}
use Rattle.meaning.specs.Membership.{Member, Row}
use Rattle.tables.specs.View.{policy_of}
use Rattle.tables.proofs.tables.Tables.is_member.Goals as goal

pub returns : goal.returns
unfolding policy_of
returns c =
    subst₂ (λ (b : Bool) (row : Row). Decides b (Member (policy_of c.args.self.now).edge row c.args.role.number)) (sym c.contains.ensures) c.assigned.ensures
    (c.members.ensures c.args.role.number)
