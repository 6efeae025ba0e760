use Rattle.std.proofs.Common.{rules}
use Rattle.std.proofs.lemmas.Iterator.Search.{any_from_yields_List}
use Rattle.std.proofs.lemmas.Iterator.Consumers.{YieldsList-from_first}
use Rattle.rbac.specs.Roles.{roles_of}
use Rattle.tables.specs.declared.entries.AssignEntry.{AssignEntry}
use Rattle.tables.specs.View.{assign_of}
use Rattle.soundness.specs.declared.rules.AssignRule.{AssignRule}
use Rattle.soundness.specs.declared.rules.AssignRules.{AssignRules}
use Rattle.deciding.specs.Masked.{down_of}
use Rattle.live.specs.Living.{adds_test}
use Rattle.live.proofs.rules.some_adds.Goals as goal

pub returns : goal.returns
returns c =
    any_from_yields_List (λ (e : AssignEntry). adds_test (down_of c.args.masks.now.seniors) (roles_of c.args.actor) (roles_of c.args.user) c.args.role.number (assign_of e))
    c.any.new.self _ _ c.any.ensures.ran (YieldsList-from_first (λ (r : AssignRule). r.stored.now) (λ (s : AssignRules). s.rest.now) _ c.assign_rules.ensures) (λ x b q k. search rules)
