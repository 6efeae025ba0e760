use Rattle.std.proofs.Common.{List, arith}
use mathlib.Core.Path.{subst⁻¹}
use Rattle.meaning.specs.Lists.{Nth}
use Rattle.meaning.specs.Rules.{AssignRule}
use Rattle.tables.specs.View.{assign_of}
use Rattle.tables.proofs.Listing.{nth_map}
use Rattle.tables.proofs.Viewing.{assigns_are}
use Rattle.theory.specs.Delegation.{rule_number}
use Rattle.deciding.proofs.Viewing.{rules_are}
use Rattle.deciding.proofs.delegation.Delegation.rule.Goals as goal

pub unreachable-requires : goal.unreachable-requires
unreachable-requires c = omega (arith, c.requires, c.in-None.ensures, rules_are c.args.self.now.board.now.tables)

pub returns : goal.returns
returns c = subst⁻¹ (λ (rules : List AssignRule). Nth (rule_number c.args.step) (assign_of c.in-Some.rule.stored.now) rules) (assigns_are c.args.self.now.board.now.tables) (nth_map assign_of c.in-Some.ensures)
