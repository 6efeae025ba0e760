use Rattle.std.proofs.Common.{◌<◌, eqb, ap, ◌∙◌, subst}
use Rattle.meaning.specs.Measures.{users}
use Rattle.std.specs.List.{list_any}
use Rattle.rbac.specs.declared.users.User.{User as AUser}
use Rattle.tables.proofs.Viewing.{trusted_is}
use Rattle.planning.proofs.Hiring.{names_any}
use Rattle.planning.proofs.slots.is_trusted.Goals as goal
use Rattle.tables.specs.View.{is_among}

pub returns : goal.returns
returns c =
    let n = c.args.user.number in
    let xs = c.entries.result.now in
    let l : n < users = subst (λ m. m < users) c.number.ensures c.is_named.ensures.inside in
    record {
      is = c.is_named.ensures.is ∙ ap (λ m. list_any (λ (x : AUser). eqb x.number m) xs) c.number.ensures ∙ names_any xs n ∙ ap (λ xs. is_among xs n) c.entries.ensures.all ∙ trusted_is c.args.tables.now n l;
      inside = l;
    }
