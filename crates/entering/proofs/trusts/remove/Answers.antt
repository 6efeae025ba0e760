use Rattle.std.proofs.Common.{◌≡◌, take, ap, ◌∙◌, refl}
use Rattle.std.specs.List.{list_all}
use Rattle.meaning.specs.Measures.{trusted_users}
use Rattle.words.specs.Words.{bits}
use Rattle.rbac.specs.declared.users.User.{User}
use Rattle.bounded.specs.Entries.{entries}
use Rattle.tables.specs.View.{policy_of}
use Rattle.lines.specs.Entries.{repeats}
use Rattle.book.specs.Book.{trusts}
use Rattle.drafts.specs.View.{book_of}
use Rattle.drafts.proofs.Weighing.{not_both}
use Rattle.entering.proofs.Refusing.{missing, removed}
use Rattle.entering.proofs.Places.{once}
use Rattle.entering.proofs.Users.{outside}
use Rattle.entering.proofs.Trusting.{some_untrusted, none_untrusted, users_removed, removed_once}
use Rattle.entering.proofs.trusts.remove.Goals as goal

pub returns-then-extra-are_trusted-clause-entered : goal.returns-then-extra-are_trusted-clause-entered
returns-then-extra-are_trusted-clause-entered c us says inside =
    let t = c.args.tables.now in
    let e = c.args.extra.now in
    let tells : c.are_trusted.result ≡ list_all (λ (u : User). (policy_of t).trusted u.number) (entries e.trusted) = c.are_trusted.ensures ∙ ap (list_all (λ (u : User). (policy_of t).trusted u.number)) c.entries.ensures.all in (
      missing (book_of t) (trusts us) (λ w. not_both (c.is_aatu.ensures.aatu.0 c.if-not-is_aatu.false) w) (once (repeats us) says.twice c.if-extra.false)
          (some_untrusted t e us says inside c.if-extra.false c.are_trusted.result tells c.if-extra-are_trusted.true),
      refl,
    )

pub returns-clause-entered : goal.returns-clause-entered
returns-clause-entered c us says inside =
    let t = c.args.tables.now in
    let e = c.args.extra.now in
    let tells : c.are_trusted.result ≡ list_all (λ (u : User). (policy_of t).trusted u.number) (entries e.trusted) = c.are_trusted.ensures ∙ ap (list_all (λ (u : User). (policy_of t).trusted u.number)) c.entries.ensures.all in (
      removed (book_of t) (trusts us) (λ w. not_both (c.is_aatu.ensures.aatu.0 c.if-not-is_aatu.false) w) (once (repeats us) says.twice c.if-extra.false)
          (none_untrusted t e us says inside c.if-extra.false c.are_trusted.result tells c.if-extra-are_trusted.false),
      users_removed t e us says inside c.without-tables.result (c.without-tables.ensures ∙ ap (λ l. take trusted_users (outside (bits e.named) l)) c.entries-2.ensures.all),
    )

pub returns-clause-laid : goal.returns-clause-laid
returns-clause-laid c laid =
    let set = bits c.args.extra.now.named in
    removed_once c.args.tables.now set c.without-tables.result (c.without-tables.ensures ∙ ap (λ l. take trusted_users (outside set l)) c.entries-2.ensures.all) laid
