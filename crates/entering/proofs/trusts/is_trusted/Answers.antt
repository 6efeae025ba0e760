use Rattle.std.proofs.Common.{◌<◌, ap, ◌∙◌, arith}
use Rattle.meaning.specs.Measures.{users}
use Rattle.tables.proofs.Viewing.{trusted_is}
use Rattle.entering.proofs.Users.{names_any}
use Rattle.entering.proofs.trusts.is_trusted.Goals as goal
use Rattle.tables.specs.View.{is_among}

pub returns : goal.returns
returns c =
    let n = c.args.user.number in
    let l : n < users = omega arith in
    c.has_user.ensures ∙ names_any c.entries.result.now n ∙ ap (λ us. is_among us n) c.entries.ensures.all ∙ trusted_is c.args.tables.now n l
