use Rattle.std.proofs.Common.{rules, MatchBool, length, ◌-◌, ◌<◌, refl, ap, subst, arith}
use Rattle.std.specs.List.{All, Any}
use Rattle.meaning.specs.Measures.{trusted_users}
use Rattle.words.specs.Words.{bits}
use Rattle.bounded.specs.Entries.{entries}
use Rattle.book.specs.Book.{trusts}
use Rattle.drafts.specs.View.{book_of}
use Rattle.drafts.proofs.Weighing.{not_both}
use Rattle.entering.specs.Trusting.{NamedIn, NoneNamed}
use Rattle.entering.proofs.Refusing.{there, full, added}
use Rattle.entering.proofs.Trusting.{there_or_named_twice, new_and_named_once, is_crowded, not_crowded, users_added, added_once}
use Rattle.entering.proofs.trusts.add.Goals as goal

pub returns-then-extra-some_named-clause-entered : goal.returns-then-extra-some_named-clause-entered
returns-then-extra-some_named-clause-entered c us says inside =
    let t = c.args.tables.now in
    let e = c.args.extra.now in
    let met = subst (λ l. MatchBool c.some_named.result (Any (NamedIn (bits e.named)) l) (All (NoneNamed (bits e.named)) l)) c.entries.ensures.all c.some_named.ensures in (
      there (book_of t) (trusts us) (λ w. not_both (c.is_aatu.ensures.aatu.0 c.if-not-is_aatu.false) w) (there_or_named_twice t e us says inside c.some_named.result met c.if-extra-some_named.true),
      refl,
    )

pub returns-then-room-extra-clause-entered : goal.returns-then-room-extra-clause-entered
returns-then-room-extra-clause-entered c us says inside =
    let t = c.args.tables.now in
    let e = c.args.extra.now in
    let met = subst (λ l. MatchBool c.some_named.result (Any (NamedIn (bits e.named)) l) (All (NoneNamed (bits e.named)) l)) c.entries.ensures.all c.some_named.ensures in
    let small : trusted_users - length (entries t.trusted) < e.many = omega (arith, c.if-room-extra.true, c.saturating_sub-room.ensures, ap length c.entries-2.ensures.all) in (
      full (book_of t) (trusts us) (λ w. not_both (c.is_aatu.ensures.aatu.0 c.if-not-is_aatu.false) w)
          (new_and_named_once t e us says inside c.some_named.result met c.if-extra-some_named.false)
          (is_crowded t e us says inside c.some_named.result met c.if-extra-some_named.false c.requires.once small),
      refl,
    )

pub returns-clause-entered : goal.returns-clause-entered
returns-clause-entered c us says inside =
    let t = c.args.tables.now in
    let e = c.args.extra.now in
    let met = subst (λ l. MatchBool c.some_named.result (Any (NamedIn (bits e.named)) l) (All (NoneNamed (bits e.named)) l)) c.entries.ensures.all c.some_named.ensures in
    let room = λ (h : trusted_users - length (entries t.trusted) < e.many). (let k = c.if-room-extra.false in absurd (omega (arith, h, k, c.saturating_sub-room.ensures, ap length c.entries-2.ensures.all))) in (
      added (book_of t) (trusts us) (λ w. not_both (c.is_aatu.ensures.aatu.0 c.if-not-is_aatu.false) w)
          (new_and_named_once t e us says inside c.some_named.result met c.if-extra-some_named.false)
          (not_crowded t e us says inside room)
          (λ x. x),
      users_added t e us says inside room c.append.new.list (search (rules)),
    )

pub returns-clause-laid : goal.returns-clause-laid
returns-clause-laid c us says inside laid =
    let t = c.args.tables.now in
    let e = c.args.extra.now in
    let met = subst (λ l. MatchBool c.some_named.result (Any (NamedIn (bits e.named)) l) (All (NoneNamed (bits e.named)) l)) c.entries.ensures.all c.some_named.ensures in
    let room = λ (h : trusted_users - length (entries t.trusted) < e.many). (let k = c.if-room-extra.false in absurd (omega (arith, h, k, c.saturating_sub-room.ensures, ap length c.entries-2.ensures.all))) in
    added_once t e us says inside room c.append.new.list (search (rules)) c.some_named.result met c.if-extra-some_named.false laid
