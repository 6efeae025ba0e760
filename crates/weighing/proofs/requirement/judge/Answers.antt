use Rattle.std.proofs.Common.{subst₂}
use Rattle.meaning.specs.Sets.{Question}
use Rattle.meaning.specs.declared.terms.Kind.{Kind}
use Rattle.tables.specs.View.{policy_of, state_of, stored_question}
use Rattle.verdicts.specs.Verdict.{Decided}
use Rattle.weighing.proofs.Judging.{stands}
use Rattle.weighing.proofs.requirement.judge.Goals as goal

pub returns-in-None : goal.returns-in-None
returns-in-None c =
    let t = c.args.valid.now.tables in
    let e = c.args.entry in
    stands (policy_of t) (state_of t) (stored_question e.larger e.smaller) c.args.list.now c.in-Ok.verdict c.decide.new.list e.demand
    (subst₂ (λ (k : Kind) (q : Question). Decided k (policy_of t) (state_of t) q c.args.list.now c.in-Ok.verdict c.decide.new.list) c.inquiry.ensures.kind c.inquiry.ensures.asks c.in-Ok.ensures.settled.0)
    c.in-None.is
