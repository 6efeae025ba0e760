use Rattle.std.proofs.Common.{sym, subst}
use Rattle.soundness.specs.Rules.{AllSets}
use Rattle.soundness.proofs.RuleSets.{all_sets}
use Rattle.soundness.proofs.valid.Valid.assign_rules.Goals as goal

pub invariant_of-result : goal.invariant_of-result
invariant_of-result c = record { sets = subst AllSets (sym c.entries-rest.ensures.all) (all_sets c.args.self.now) }
