use Rattle.std.proofs.Common.{⊎_elim}
use Rattle.std.proofs.lemmas.Bool.{both_ways}
use Rattle.meaning.specs.Sets.{Static}
use Rattle.tables.specs.View.{set_of}
use Rattle.questions.proofs.Making.{askable}
use Rattle.questions.proofs.inquiry.Inquiry.fixed_side.Goals as goal

pub returns-else-is_static : goal.returns-else-is_static
returns-else-is_static c =
    let x = c.args.self.now in
    ⊎_elim (λ (h : Static (set_of x.larger.nodes)). absurd (both_ways c.is_static.result c.if-is_static.false (c.is_static.ensures.1 h))) (λ (h : Static (set_of x.smaller.nodes)). h) (askable x).is_semi_static
