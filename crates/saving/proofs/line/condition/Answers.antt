use Rattle.std.proofs.Common.{sym, ap, ◌∙◌}
use Rattle.pen.proofs.Join.{to}
use Rattle.saving.specs.Canonical.{condition_text}
use Rattle.saving.proofs.Laying.{text_is}
use Rattle.saving.proofs.line.condition.Goals as goal

pub returns-in-Some : goal.returns-in-Some
returns-in-Some c h =
    let (t, l) = h c.in-Some.nodes c.in-Some.is in
    to _ _ _ _ (text_is c.in-Some.nodes t l ∙ sym (ap condition_text c.in-Some.is)) (c.write.ensures t (c.entries.ensures.all ∙ l)).bytes
