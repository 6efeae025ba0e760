use Rattle.std.proofs.Common.{arith}
use Rattle.hierarchy.proofs.Chains.{edges_small}
use Rattle.hierarchy.proofs.seniority.SeniorityStepSystem.record.Goals as goal

pub returns-then-step-ge-EDGES : goal.returns-then-step-ge-EDGES
returns-then-step-ge-EDGES c = λ o. let small = edges_small c.args.self.now.hierarchy.now _ _ o.1 in omega (arith, c.if-step-ge-EDGES.true, small.0)
