use Rattle.std.proofs.Common.{not, take, filter, refl, sym, ap, ◌∙◌}
use Rattle.std.proofs.lemmas.List.{take_all}
use Rattle.meaning.specs.Measures.{trusted_users}
use Rattle.words.specs.Words.{bits}
use Rattle.rbac.specs.declared.users.User.{User}
use Rattle.bounded.specs.Entries.{entries}
use Rattle.lines.proofs.Trusting.{kept_more}
use Rattle.entering.proofs.Users.{kept_user, left_user}
use Rattle.entering.proofs.trusts.without.Goals as goal
use Rattle.entering.proofs.trusts.without.Goals.{then-not-is_named, else-not-is_named}

abbrev no_user : User
no_user = record { number = 0 }

pub list-preserved : goal.list-preserved
list-preserved c =
    let set = bits c.args.named.now in
    let us = c.args.list.now in
    let i = c.list.user-index in
    elim c.if-not-is_named.branch [
      | then-not-is_named w ↦ ap entries w.left-is ∙ kept_user set us i no_user c.list-test.true c.list.left w.push.new.self _ c.list.invariant (kept_more c.list.left w.push.new.self _ w.push.result w.push.ensures) refl (sym c.is_named.ensures.is ∙ w.if-not-is_named.true)
      | else-not-is_named w ↦ ap entries w.left-is ∙ left_user set us i no_user c.list-test.true c.list.left c.list.invariant (sym c.is_named.ensures.is ∙ w.if-not-is_named.false)
    ]

pub returns : goal.returns
returns c = c.list.invariant ∙ ap (λ us. take trusted_users (filter (λ (u : User). not (bits c.args.named.now u.number)) us)) (take_all c.list.user-index c.args.list.now c.list-test.false)
