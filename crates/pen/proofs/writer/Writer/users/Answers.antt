use Rattle.std.proofs.Common.{◌≡◌, ◌/◌, ◌<◌, map, length, refl, ap, ◌∙◌, rules, arith, take_all}
use Rattle.meaning.specs.Lists.{listed as named}
use Rattle.words.specs.Words.{bits}
use Rattle.words.proofs.Rows.{put_there}
use Rattle.lines.specs.Lists.{user_words, number_of}
use Rattle.pen.proofs.Naming.{none_named, one_named}
use Rattle.pen.proofs.writer.Writer.users.Goals as goal

pub loop-user-init : goal.loop-user-init
loop-user-init c = (refl, none_named user_words)

pub loop-user-preserved : goal.loop-user-preserved
loop-user-preserved c =
    let i = c.loop-user.invariant in
    let n = c.number.result in
    let inside : n / 64 < length c.loop-user.named = omega (arith, i.0) in
    (c.put.auto.words ∙ i.0, one_named c.loop-user.named c.put.new.words c.args.users.now c.loop-user.user-index n (record { number = 0 }) c.loop-user-test.true c.number.ensures i.1 (put_there _ _ c.put.result inside c.put.ensures))

pub returns : goal.returns
returns c =
    let us = c.args.users.now in
    c.entries.ensures (named (map number_of us)) (λ k b h p.
    let q : b ≡ bits c.loop-user.named k = search rules in
    q ∙ ap (λ g. g k) (c.loop-user.invariant.1 ∙ ap (λ l. named (map number_of l)) (take_all c.loop-user.user-index us (omega arith))))
