-- What a rule lets an actor with one row do to a user with another, by a test of seniority.
use Rattle.std.specs.Prelude.{Bool, ◌&&◌}
use Rattle.meaning.specs.Membership.{Role, Row}
use Rattle.meaning.specs.Rules.{AssignRule, RevokeRule}
use Rattle.deciding.specs.Masked.{member_test, meets_test}

-- by this rule the actor may give the role to the user
abbrev pub adds_test : (Role → Role → Bool) → Row → Row → Role → AssignRule → Bool
adds_test down actor user r rule = rule.targets r && member_test down actor rule.admin && meets_test down user rule.condition

-- by this rule the actor may take the role
abbrev pub removes_test : (Role → Role → Bool) → Row → Role → RevokeRule → Bool
removes_test down actor r rule = rule.targets r && member_test down actor rule.admin
