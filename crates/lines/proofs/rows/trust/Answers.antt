use Rattle.std.proofs.Common.{◌≡◌, Err, sym, subst, rules}
use Rattle.grammar.specs.Text.{rest}
use Rattle.lines.specs.declared.keyword.Keyword.TheVariants.{Trust}
use Rattle.lines.proofs.Judging.{retold}
use Rattle.lines.proofs.rows.trust.Goals as goal
use Rattle.lines.specs.Changes.{says_trust, Body}

pub returns-in_err-users : goal.returns-in_err-users
returns-in_err-users c =
    let q : c.from_residual.result ≡ Err c.in_err-users.field-0.0 = search rules in
    subst (λ a. Body Trust (rest c.args.r.now) a c.users.new.extra) (sym q) c.in_err-users.ensures

pub returns : goal.returns
returns c = (c.in_ok-users.ensures.0, retold _ _ c.in_ok-users.ensures.1 (λ x t. says_trust t))
