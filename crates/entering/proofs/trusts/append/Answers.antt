use Rattle.std.proofs.Common.{◌++◌, take, refl, ap, ◌∙◌}
use Rattle.std.proofs.lemmas.List.{take_all}
use Rattle.meaning.specs.Measures.{trusted_users}
use Rattle.rbac.specs.declared.users.User.{User}
use Rattle.bounded.specs.Entries.{entries}
use Rattle.lines.proofs.Trusting.{kept_more}
use Rattle.entering.proofs.Users.{none_more, one_more}
use Rattle.entering.proofs.trusts.append.Goals as goal

abbrev no_user : User
no_user = record { number = 0 }

pub more-init : goal.more-init
more-init c = none_more c.args.list.now

pub more-preserved : goal.more-preserved
more-preserved c =
    one_more (entries c.args.list.now) c.args.more.now c.more.user-index no_user c.more-test.true c.more.list c.push.new.self _ c.more.invariant
    (kept_more c.more.list c.push.new.self _ c.push.result c.push.ensures) refl

pub returns : goal.returns
returns c = c.more.invariant ∙ ap (λ l. take trusted_users (entries c.args.list.now ++ l)) (take_all c.more.user-index c.args.more.now c.more-test.false)
