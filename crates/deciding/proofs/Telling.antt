-- By a right test of seniority, the tests of membership and of conditions say what the subject says.
use Rattle.std.proofs.Common.{ℕ, ◌<◌, Bool, ◌&&◌, T, ◌⊎◌, ◌↔◌, subst, inl, inr}
use Rattle.std.proofs.lemmas.Bool.{cases_lt}
use Rattle.meaning.specs.Measures.{roles}
use Rattle.meaning.specs.Membership.{Role, Row, Senior, Member}
use Rattle.meaning.specs.Rules.{Condition, everybody, in_role, Policy, Meets, both as all_of, either as any_of}
use Rattle.meaning.proofs.Tests.{either, or_left, or_right, first, second, both, decide, clash}
use Rattle.theory.proofs.Tests.{some_at, some_gives}
use Rattle.theory.proofs.Deciding.{senior?}
use Rattle.rbac.specs.declared.sets.RoleSet.{RoleSet}
use Rattle.rbac.specs.Roles.{roles_of}
use Rattle.rbac.proofs.Masks.{roles_past}
use Rattle.hierarchy.proofs.Chains.{edges_small}
use Rattle.tables.specs.declared.tables.Tables.{Tables}
use Rattle.tables.specs.View.{policy_of}
use Rattle.deciding.specs.Masked.{TellsSenior, member_test, meets_test}

-- the tests say what the subject says
module _ (p : Policy) (down : Role → Role → Bool) (is_down : TellsSenior p down) (row : Row) (small : (r : Role) → T (row r) → r < roles) where
  pub member_test_lem : (r : Role) → T (member_test down row r) ↔ Member p.edge row r
  member_test_lem r = (
    (λ h. let (q, l, t) = some_gives roles (λ q. row q && down q r) h in (q, (is_down q r l).0 (second (row q) (down q r) t), first (row q) (down q r) t)),
    λ (q, s, h). some_at roles (λ q. row q && down q r) q (small q h) (both (row q) (down q r) h ((is_down q r (small q h)).1 s)),
  )

  pub meets_yes : (c : Condition) → T (meets_test down row c) → Meets p.edge row c
  meets_yes everybody h = tt
  meets_yes (in_role r) h = (member_test_lem r).0 h
  meets_yes (all_of c d) h =
      (meets_yes c (first (meets_test down row c) (meets_test down row d) h), meets_yes d (second (meets_test down row c) (meets_test down row d) h))
  meets_yes (any_of c d) h = go (either (meets_test down row c) (meets_test down row d) h) (meets_yes c) (meets_yes d)
    where
      go : T (meets_test down row c) ⊎ T (meets_test down row d) → (T (meets_test down row c) → Meets p.edge row c) → (T (meets_test down row d) → Meets p.edge row d)
          → Meets p.edge row c ⊎ Meets p.edge row d
      go (inl h) f g = inl (f h)
      go (inr h) f g = inr (g h)

  pub yes_meets : (c : Condition) → Meets p.edge row c → T (meets_test down row c)
  yes_meets everybody h = tt
  yes_meets (in_role r) h = (member_test_lem r).1 h
  yes_meets (all_of c d) h = both (meets_test down row c) (meets_test down row d) (yes_meets c h.0) (yes_meets d h.1)
  yes_meets (any_of c d) (inl h) = or_left (meets_test down row c) (meets_test down row d) (yes_meets c h)
  yes_meets (any_of c d) (inr h) = or_right (meets_test down row c) (meets_test down row d) (yes_meets d h)

-- a set holds roles in range
pub small : (s : RoleSet) (r : ℕ) → T (roles_of s r) → r < roles
small s r h = elim (cases_lt r roles) [ inl l ↦ l | inr g ↦ absurd (subst T (roles_past s r g) h) ]

-- and so do the edges of a board
pub edge_inside : (t : Tables) (q r : ℕ) → T ((policy_of t).edge q r) → (q < roles) × (r < roles)
unfolding policy_of
edge_inside t q r h = edges_small t.hierarchy q r h

-- seniority is decided, so a test that cannot be wrong is right
pub sure_tells : (t : Tables) (down : Role → Role → Bool) → ((TellsSenior (policy_of t) down → ⊥) → ⊥) → TellsSenior (policy_of t) down
sure_tells t down sure q r l = (there, back)
  where
    there : T (down q r) → Senior (policy_of t).edge q r
    there h = elim (senior? (policy_of t) (edge_inside t) q r) [ inl s ↦ s | inr off ↦ absurd (sure (λ tells. off ((tells q r l).0 h))) ]

    back : Senior (policy_of t).edge q r → T (down q r)
    back s = elim (decide (down q r)) [ inl h ↦ h | inr off ↦ absurd (sure (λ tells. clash (down q r) ((tells q r l).1 s) off)) ]
