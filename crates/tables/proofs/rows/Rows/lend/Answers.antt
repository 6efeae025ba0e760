use Rattle.std.proofs.Common.{rules, refl, length-set, ◌∙◌}
use Rattle.tables.proofs.rows.Rows.lend.Goals as goal

pub invariant_of-self : goal.invariant_of-self
invariant_of-self g c = record {
  full = length-set c.args.self.now.list c.args.place c.change.new.arg2 ∙ c.args.self.now.full;
  apart = c.requires.apart c.change.new.arg2 (search rules);
}

pub returns : goal.returns
returns g c = record { row = c.change.new.arg2; changed = search rules; others = refl }
