use Rattle.std.proofs.Common.{◌++◌, codes, sym, ap, ◌∙◌}
use Rattle.pen.proofs.Join.{to}
use Rattle.tables.specs.View.{demanded, stored_question}
use Rattle.boardtext.specs.Canonical.{ended, requirement_text}
use Rattle.storing.proofs.Saying.{sides_same}
use Rattle.storing.proofs.rules.put_requirement.Goals as goal

pub returns-in-Always : goal.returns-in-Always
returns-in-Always c h =
    let entry = c.args.entry.now in
    to _ _ _ _ (ap (λ s. ended (codes "always " ++ s)) (sides_same entry.larger entry.smaller h) ∙ ap (λ d. ended (requirement_text (demanded d (stored_question entry.larger entry.smaller)))) (sym c.in-Always.is)) (c.put.ensures h)

pub returns-in-Never : goal.returns-in-Never
returns-in-Never c h =
    let entry = c.args.entry.now in
    to _ _ _ _ (ap (λ s. ended (codes "never " ++ s)) (sides_same entry.larger entry.smaller h) ∙ ap (λ d. ended (requirement_text (demanded d (stored_question entry.larger entry.smaller)))) (sym c.in-Never.is)) (c.put-in-Never.ensures h)
