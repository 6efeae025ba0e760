-- The rule by which a role is taken.
use Rattle.std.specs.Prelude.{◌≡◌, false, T, List, Some, None, Option}
use Rattle.meaning.specs.Membership.{Role}
use Rattle.meaning.specs.Rules.{RevokeRule}
use Rattle.meaning.specs.Lists.{Nth}
use Rattle.theory.specs.Reach.{revocable}
use Rattle.verdicts.specs.declared.revoker.Revoker.{Revoker}

-- a rule of this number has the target, and this administering role; or no rule has it
abbrev pub RevokedBy : List RevokeRule → Role → Option Revoker → Type 0
RevokedBy rules r (Some x) = (rule : RevokeRule) × Nth x.rule rule rules × T (rule.targets r) × (rule.admin ≡ x.admin.number)
RevokedBy rules r None = revocable rules r ≡ false
