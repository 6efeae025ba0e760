use Rattle.std.proofs.Common.{◌≤◌, ◌+◌, Decides, ◌∙◌, sym, inl, inr, ⊎_elim, arith}
use Rattle.std.proofs.lemmas.Bool.{both_ways}
use Rattle.meaning.specs.Measures.{question_operands}
use Rattle.meaning.specs.Sets.{Static, SemiStatic}
use Rattle.tables.specs.View.{set_of, stored_question}
use Rattle.questions.proofs.Making.{asked_told, few_told}
use Rattle.questions.proofs.inquiry.Inquiry.of_sets.Goals as goal
use Rattle.questions.proofs.inquiry.Inquiry.of_sets.Goals.{After-named-2, then-is_static, else-is_static, else-semi_static-via-then-semi_static+else-few, else-semi_static-via-else-semi_static}

semi : (c : After-named-2) → Decides c.if-is_static.semi_static (SemiStatic (stored_question c.args.larger.nodes c.args.smaller.nodes))
semi c = elim c.if-is_static.branch [
  | then-is_static w ↦ ((λ _. inl (c.is_static.ensures.0 w.if-is_static.true)), λ _. w.semi_static-is ∙ w.if-is_static.true)
  | else-is_static w ↦ (
    (λ e. inr (w.is_static-semi_static.ensures.0 (sym w.semi_static-is ∙ e))),
    λ h. w.semi_static-is ∙ w.is_static-semi_static.ensures.1 (⊎_elim (λ (a : Static (set_of c.args.larger.nodes)). absurd (both_ways c.is_static.result w.if-is_static.false (c.is_static.ensures.1 a))) (λ (b : Static (set_of c.args.smaller.nodes)). b) h),
  )
]

pub invariant_of-result : goal.invariant_of-result
invariant_of-result c = record {
  askable = λ no. no (asked_told c.args.larger.nodes c.args.smaller.nodes c.args.larger.whole c.args.smaller.whole c.named.result c.named-2.result ((semi (goal.at.invariant_of-result c).After-named-2).0 c.if-semi_static.true)
      c.named.ensures.many c.named-2.ensures.many c.named.ensures.inside c.named-2.ensures.inside c.if-few.true);
}

pub returns-else-semi_static : goal.returns-else-semi_static
returns-else-semi_static c k = elim c.else-semi_static.branch [
  | else-semi_static-via-then-semi_static+else-few w ↦
      let few : c.named.result + c.named-2.result ≤ question_operands = few_told c.args.larger.nodes c.args.smaller.nodes c.args.larger.whole c.args.smaller.whole c.named.result c.named-2.result c.named.ensures.many c.named-2.ensures.many k in
      let over = w.if-few.false in absurd (omega arith)
  | else-semi_static-via-else-semi_static w ↦ both_ways c.if-is_static.semi_static w.if-semi_static.false ((semi (goal.at.returns-else-semi_static c).After-named-2).1 k.is_semi_static)
]
