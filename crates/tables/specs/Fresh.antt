-- A new board: under aatu, and nothing else.
use Rattle.std.specs.Prelude.{false, []}
use Rattle.meaning.specs.Membership.{State}
use Rattle.meaning.specs.Rules.{Policy, aatu}

-- no role is assigned to anybody
abbrev pub nothing_assigned : State
nothing_assigned u r = false

-- no edge, no permission given, nobody trusted and no rule
abbrev pub new_policy : Policy
new_policy = record {
  regime = aatu;
  edge = λ q r. false;
  gives = λ n r. false;
  trusted = λ u. false;
  assigns = [];
  revokes = [];
}
