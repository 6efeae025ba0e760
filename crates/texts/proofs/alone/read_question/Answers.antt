use Rattle.std.proofs.Common.{◌≡◌, sym, subst, rules}
use Rattle.lines.specs.Lines.{questions}
use Rattle.texts.specs.Answers.{Answer}
use Rattle.texts.specs.Sentences.{Lined, Asks}
use Rattle.texts.proofs.Single.{carried, carry}
use Rattle.texts.proofs.alone.read_question.Goals as goal

pub returns : goal.returns
returns c =
    let m : c.map_err.result ≡ carried c.asked.result = search rules in
    let h = subst (λ s. Lined questions s (Asks c.asked.new.extra) c.asked.result) c.in_ok-r.ensures.1 c.asked.ensures in
    subst (Answer questions c.args.text.now (Asks c.asked.new.extra)) (sym m) (carry questions _ (Asks c.asked.new.extra) c.in_ok-r.ensures.0 _ h)
