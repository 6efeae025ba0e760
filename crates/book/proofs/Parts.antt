-- A policy with another part in place of one of its own.
use Rattle.std.proofs.Common.{Bool, List}
use Rattle.meaning.specs.Membership.{User, Role, Permission, Edges}
use Rattle.meaning.specs.Rules.{AssignRule, RevokeRule, Policy}

abbrev pub with_edges : Edges → Policy → Policy
with_edges e p = record p { edge = e }

abbrev pub with_gives : (Permission → Role → Bool) → Policy → Policy
with_gives g p = record p { gives = g }

abbrev pub with_trusted : (User → Bool) → Policy → Policy
with_trusted t p = record p { trusted = t }

abbrev pub with_assigns : List AssignRule → Policy → Policy
with_assigns rules p = record p { assigns = rules }

abbrev pub with_revokes : List RevokeRule → Policy → Policy
with_revokes rules p = record p { revokes = rules }
