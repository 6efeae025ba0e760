use Rattle.std.proofs.Common.{refl}
use Rattle.tables.proofs.Freshness.{policy_new, state_new, requirements_new}
use Rattle.tables.proofs.tables.Tables.new.Goals as goal

pub returns : goal.returns
returns c = record {
  policy = policy_new _ c.empty.result refl c.empty.ensures refl c.new.ensures c.new-2.ensures c.new-3.ensures c.new-4.ensures;
  state = state_new _ c.free.ensures;
  requirements = requirements_new _ c.new-5.ensures;
  nobody = c.new-2.ensures;
}
