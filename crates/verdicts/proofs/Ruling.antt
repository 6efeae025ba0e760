-- The first revoke rule with a target.
use Rattle.std.proofs.Common.{◌≡◌, ℕ, zero, suc, ◌+◌, ◌<◌, Bool, true, false, cond, ◌||◌, T, Some, None, List, [], ◌∷◌, map, length, get_or, position, sym, refl, ap, ◌∙◌, subst, not-suc-le-zero, add-one, arith}
use Rattle.std.specs.List.{position_from}
use Rattle.std.proofs.lemmas.List.Quantifiers.{position-Some}
use Rattle.std.proofs.lemmas.Iterator.Adapters.{position_from-zero}
use Rattle.meaning.specs.Rules.{RevokeRule}
use Rattle.meaning.specs.Lists.{Nth, first, later}
use Rattle.theory.specs.Reach.{revocable}
use Rattle.meaning.proofs.Tests.{as_test}
use Rattle.rbac.specs.Roles.{roles_of}
use Rattle.tables.specs.declared.entries.RevokeEntry.{RevokeEntry}
use Rattle.bounded.specs.Entries.{entries}
use Rattle.tables.specs.declared.tables.Tables.{Tables}
use Rattle.tables.specs.View.{policy_of, revoke_of}

abbrev pub has_target : ℕ → RevokeEntry → Bool
has_target r x = roles_of x.targets r

rule_at : (xs : List RevokeEntry) (k : ℕ) (d : RevokeEntry) → k < length xs → Nth (suc k) (revoke_of (get_or xs k d)) (map revoke_of xs)
rule_at [] k d l = absurd (not-suc-le-zero l)
rule_at (x ∷ xs) zero d l = first
rule_at (x ∷ xs) (suc k) d l = later (rule_at xs k d (omega arith))

-- the rule that was found, by its number
pub ruled : (xs : List RevokeEntry) (r k : ℕ) (x : RevokeEntry) → position (has_target r) xs ≡ Some k → x ≡ get_or xs k x → (rule : RevokeRule) × Nth (k + 1) rule (map revoke_of xs) × T (rule.targets r) × (rule.admin ≡ x.admin.number)
ruled xs r k x e is =
    let (l, t, before) = position-Some (has_target r) xs k x e in (
      revoke_of x,
      subst (λ (y : RevokeEntry). Nth (k + 1) (revoke_of y) (map revoke_of xs)) (sym is) (subst (λ m. Nth m (revoke_of (get_or xs k x)) (map revoke_of xs)) (sym (add-one k)) (rule_at xs k x l)),
      as_test (has_target r x) (ap (has_target r) is ∙ t),
      refl,
    )

none_from : (i : ℕ) (xs : List RevokeEntry) (r : ℕ) → position_from (has_target r) i xs ≡ None → revocable (map revoke_of xs) r ≡ false
none_from i [] r e = refl
none_from i (x ∷ xs) r e = go (has_target r x) e (none_from (i + 1) xs r)
  where
    go : (b : Bool) → cond b (Some i) (position_from (has_target r) (i + 1) xs) ≡ None → (position_from (has_target r) (i + 1) xs ≡ None → revocable (map revoke_of xs) r ≡ false) → (b || revocable (map revoke_of xs) r) ≡ false
    go true e rest = cc
    go false e rest = rest e

-- none was
pub unruled : (xs : List RevokeEntry) (r : ℕ) → position (has_target r) xs ≡ None → revocable (map revoke_of xs) r ≡ false
unruled xs r e = none_from 0 xs r (sym (position_from-zero (has_target r) xs) ∙ e)

-- the policy's revoke rules are the entries of the tables
pub revokes_are : (t : Tables) → (policy_of t).revokes ≡ map revoke_of (entries t.revokes)
unfolding policy_of
revokes_are t = refl
