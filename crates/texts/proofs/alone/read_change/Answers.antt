use Rattle.std.proofs.Common.{◌≡◌, sym, subst, rules}
use Rattle.texts.specs.Answers.{Answer, changes}
use Rattle.texts.specs.Sentences.{Lined, Orders}
use Rattle.texts.proofs.Single.{carried, carry}
use Rattle.texts.proofs.alone.read_change.Goals as goal

pub returns : goal.returns
returns c =
    let m : c.map_err.result ≡ carried c.changed.result = search rules in
    let h = subst (λ s. Lined changes s (Orders c.changed.new.extra) c.changed.result) c.in_ok-r.ensures.1 c.changed.ensures in
    subst (Answer changes c.args.text.now (Orders c.changed.new.extra)) (sym m) (carry changes _ (Orders c.changed.new.extra) c.in_ok-r.ensures.0 _ h)
