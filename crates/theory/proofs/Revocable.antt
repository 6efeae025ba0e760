-- Roles that some revoke rule targets.
use Rattle.std.proofs.Common.{ℕ, suc, T, ◌⊎◌, List, [], ◌∷◌, inl, inr}
use Rattle.meaning.specs.Membership.{Role}
use Rattle.meaning.specs.Lists.{Nth, first, later}
use Rattle.meaning.specs.Rules.{RevokeRule}
use Rattle.theory.specs.Reach.{revocable}
use Rattle.meaning.proofs.Tests.{either, or_left, or_right}

-- what the test finds is what the subject says
pub revocable_gives : (rules : List RevokeRule) (r : Role) → T (revocable rules r) → (k : ℕ) × (rule : RevokeRule) × Nth k rule rules × T (rule.targets r)
revocable_gives [] r h = absurd h
revocable_gives (x ∷ xs) r h = go (either (x.targets r) (revocable xs r) h) (revocable_gives xs r)
  where
    go : T (x.targets r) ⊎ T (revocable xs r) → (T (revocable xs r) → (k : ℕ) × (rule : RevokeRule) × Nth k rule xs × T (rule.targets r))
        → (k : ℕ) × (rule : RevokeRule) × Nth k rule (x ∷ xs) × T (rule.targets r)
    go (inl t) rest = (1, x, first, t)
    go (inr t) rest = let (k, rule, n, i) = rest t in (suc k, rule, later n, i)

pub gives_revocable : {k : ℕ} {rule : RevokeRule} {rules : List RevokeRule} → Nth k rule rules → (r : Role) → T (rule.targets r) → T (revocable rules r)
gives_revocable {rules = []} n r t = elim n [ ]
gives_revocable {rule = rule} {rules = x ∷ xs} first r t = or_left (rule.targets r) (revocable xs r) t
gives_revocable {rules = x ∷ xs} (later n) r t = or_right (x.targets r) (revocable xs r) (gives_revocable n r t)
