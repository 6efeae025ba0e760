use Rattle.soundness.proofs.RuleSets.{head, tail}
use Rattle.soundness.proofs.rules.AssignRulesIterator.next.Goals as goal

pub invariant_of-self : goal.invariant_of-self
invariant_of-self c = record { sets = tail _ _ _ c.in_ok-stored.ensures.cases.0 c.args.self.now.sets }

pub invariant_of-result : goal.invariant_of-result
invariant_of-result c = record { set = head _ _ _ c.in_ok-stored.ensures.cases.0 c.args.self.now.sets }
