use Rattle.std.proofs.Common.{◌≡◌, ◌/◌, ◌<◌, true, false, length, Err, refl, ap, ◌∙◌, rules, arith}
use Rattle.lines.specs.Lists.{user_words}
use Rattle.words.specs.Words.{bits}
use Rattle.words.proofs.Rows.{put_there}
use Rattle.grammar.specs.declared.grounds.Ground.TheVariants.{Range}
use Rattle.lines.proofs.Trusting.{see_none, see_more}
use Rattle.lines.proofs.lists.note.Goals as goal

pub returns-in_err-user : goal.returns-in_err-user
returns-in_err-user c good ms l h =
    let q : c.from_residual.result ≡ Err Range = search rules in
    let n = rw c.in_err-user.ensures.ok_part at c.user.ensures in
    (false, q, see_none _ good ms _ h n)

pub returns : goal.returns
returns c good ms l h =
    let n = rw c.in_ok-user.ensures.ok_part at c.user.ensures in
    let wide : length c.args.extra.now.named ≡ user_words = h.wide in
    let inside : c.args.number / 64 < length c.args.extra.now.named = omega arith in (
      true,
      refl,
      see_more c.args.extra.now c.add.new.self good c.has-again.result ms c.args.number c.in_ok-user.user h n.1 l n.0
          c.has-again.ensures (ap bits c.add.ensures.named ∙ put_there _ _ c.put.result inside c.put.ensures) (ap length c.add.ensures.named ∙ c.put.auto.words) c.add.ensures.trusted c.add.ensures.many c.add.ensures.twice,
    )
