-- The regime's properties, from the sets of roles that they speak of.
use Rattle.std.proofs.Common.{◌≡◌, ℕ, ◌<◌, Bool, true, false, not, ◌||◌, T, eqb, ltb, List, map, length, is_some, Some, None, Decides, Option, sym, refl, ap, ◌∙◌, subst, inl, inr, ⊎_elim, lt→ltb, MatchOption}
use mathlib.Core.Path.{subst⁻¹}
use lib.ListN.{length-map}
use Rattle.std.proofs.lemmas.List.{nil_from_length}
use Rattle.std.proofs.lemmas.Bool.{both_ways, eq-eqb, eqb-true}
use Rattle.meaning.specs.Measures.{users}
use Rattle.meaning.specs.Membership.{State}
use Rattle.meaning.specs.Rules.{Policy, aatu, aar, Regime as RegimeMeant}
use Rattle.meaning.specs.Lists.{Nth}
use Rattle.meaning.specs.declared.terms.Regime.TheVariants.{Aatu as aatu_here, Aar as aar_here}
use Rattle.meaning.specs.Regimes.{Administers, Assignable, Revocable, AdminsAreNoTargets, Aatu, Aar, ObeysRegime}
use Rattle.meaning.proofs.Tests.{either, or_left, or_right, clash, second, both, deny, as_true, as_test}
use Rattle.rbac.specs.declared.sets.RoleSet.{RoleSet}
use Rattle.rbac.specs.declared.users.User.{User}
use Rattle.rbac.specs.Roles.{roles_of, of_either}
use Rattle.meaning.specs.Terms.{regime_of}
use Rattle.tables.specs.declared.entries.AssignEntry.{AssignEntry}
use Rattle.tables.specs.declared.entries.RevokeEntry.{RevokeEntry}
use Rattle.tables.specs.declared.tables.Tables.{Tables}
use Rattle.bounded.specs.Entries.{entries}
use Rattle.tables.specs.View.{assigned, rows_of, state_of, policy_of, assign_of, revoke_of, is_among}
use Rattle.soundness.proofs.Naming.{meant}
use Rattle.tables.proofs.Viewing.{regime_is, trusted_named, trusted_is}

pub assignable_told : (t : Tables) (s : RoleSet) (es : List AssignEntry) → es ≡ entries t.assigns → ((r : ℕ) → Decides (roles_of s r) ((k : ℕ) × (e : AssignEntry) × Nth k e es × T (roles_of e.targets r)))
    → (r : ℕ) → Decides (roles_of s r) (Assignable (policy_of t) r)
unfolding policy_of
assignable_told t s es is told r = meant assign_of (λ x. T (x.targets r)) (entries t.assigns) (roles_of s r) (subst (λ (l : List AssignEntry). Decides (roles_of s r) ((k : ℕ) × (e : AssignEntry) × Nth k e l × T (roles_of e.targets r))) is (told r))

pub revocable_told : (t : Tables) (s : RoleSet) (es : List RevokeEntry) → es ≡ entries t.revokes → ((r : ℕ) → Decides (roles_of s r) ((k : ℕ) × (e : RevokeEntry) × Nth k e es × T (roles_of e.targets r)))
    → (r : ℕ) → Decides (roles_of s r) (Revocable (policy_of t) r)
unfolding policy_of
revocable_told t s es is told r = meant revoke_of (λ x. T (x.targets r)) (entries t.revokes) (roles_of s r) (subst (λ (l : List RevokeEntry). Decides (roles_of s r) ((k : ℕ) × (e : RevokeEntry) × Nth k e l × T (roles_of e.targets r))) is (told r))

pub admins_told : (t : Tables) (es : List AssignEntry) (rs : List RevokeEntry) → es ≡ entries t.assigns → rs ≡ entries t.revokes → (x y s : RoleSet) → roles_of s ≡ of_either (roles_of x) (roles_of y)
    → ((r : ℕ) → Decides (roles_of x r) ((k : ℕ) × (e : AssignEntry) × Nth k e es × (e.admin.number ≡ r))) → ((r : ℕ) → Decides (roles_of y r) ((k : ℕ) × (e : RevokeEntry) × Nth k e rs × (e.admin.number ≡ r)))
    → (r : ℕ) → Decides (roles_of s r) (Administers (policy_of t) r)
unfolding policy_of
admins_told t es rs es-is rs-is x y s is dx dy r =
    let a = meant assign_of (λ z. z.admin ≡ r) (entries t.assigns) (roles_of x r) (subst (λ (l : List AssignEntry). Decides (roles_of x r) ((k : ℕ) × (e : AssignEntry) × Nth k e l × (e.admin.number ≡ r))) es-is (dx r)) in
    let b = meant revoke_of (λ z. z.admin ≡ r) (entries t.revokes) (roles_of y r) (subst (λ (l : List RevokeEntry). Decides (roles_of y r) ((k : ℕ) × (e : RevokeEntry) × Nth k e l × (e.admin.number ≡ r))) rs-is (dy r)) in
    let here : roles_of s r ≡ (roles_of x r || roles_of y r) = ap (λ f. f r) is in (
      (λ e. ⊎_elim (λ (h : T (roles_of x r)). inl (a.0 (as_true _ h))) (λ (h : T (roles_of y r)). inr (b.0 (as_true _ h))) (either (roles_of x r) (roles_of y r) (as_test _ (sym here ∙ e)))),
      λ p. here ∙ as_true _ (elim p [
        | inl q ↦ or_left (roles_of x r) (roles_of y r) (as_test _ (a.1 q))
        | inr q ↦ or_right (roles_of x r) (roles_of y r) (as_test _ (b.1 q))
      ]),
    )

pub state_held : (t : Tables) (s : RoleSet) → ((r : ℕ) → Decides (roles_of s r) ((u : ℕ) × (u < users) × T (assigned (rows_of t) u r))) → (r : ℕ) → Decides (roles_of s r) ((u : ℕ) × (u < users) × T (state_of t u r))
unfolding state_of
state_held t s told r = (
  (λ e. let (u, l, h) = (told r).0 e in (u, l, both (ltb u users) (assigned (rows_of t) u r) (lt→ltb u users l) h)),
  λ (u, l, h). (told r).1 (u, l, second (ltb u users) (assigned (rows_of t) u r) h),
)

denied : (b : Bool) → (b ≡ true → ⊥) → not b ≡ true
denied true f = absurd (f refl)
denied false f = refl

undenied : (b : Bool) → not b ≡ true → b ≡ true → ⊥
undenied true e f = both_ways false refl e
undenied false e f = both_ways false refl f

pub no_targets_told : (p : Policy) (a s v u : RoleSet) (met : Bool) → ((r : ℕ) → Decides (roles_of a r) (Administers p r)) → ((r : ℕ) → Decides (roles_of s r) (Assignable p r)) → ((r : ℕ) → Decides (roles_of v r) (Revocable p r))
    → roles_of u ≡ of_either (roles_of s) (roles_of v) → Decides met ((k : ℕ) × T (roles_of a k) × T (roles_of u k)) → Decides (not met) (AdminsAreNoTargets p)
no_targets_told p a s v u met admin sets takes is meets = (
  (λ e r h target. undenied met e (meets.1 (
    r,
    as_test _ ((admin r).1 h),
    as_test _ (here r ∙ as_true _ (elim target [
      | inl q ↦ or_left (roles_of s r) (roles_of v r) (as_test _ ((sets r).1 q))
      | inr q ↦ or_right (roles_of s r) (roles_of v r) (as_test _ ((takes r).1 q))
    ])),
  ))),
  λ none. denied met (λ e. let (k, x, y) = meets.0 e in none k ((admin k).0 (as_true _ x))
      (⊎_elim (λ (h : T (roles_of s k)). inl ((sets k).0 (as_true _ h))) (λ (h : T (roles_of v k)). inr ((takes k).0 (as_true _ h))) (either (roles_of s k) (roles_of v k) (subst T (here k) y)))),
)
  where
    here : (r : ℕ) → roles_of u r ≡ (roles_of s r || roles_of v r)
    here r = ap (λ f. f r) is

pub within_told : (P Q : ℕ → Type 0) (a b : RoleSet) (r : Bool) → ((k : ℕ) → Decides (roles_of a k) (P k)) → ((k : ℕ) → Decides (roles_of b k) (Q k))
    → Decides r ((k : ℕ) → T (roles_of a k) → T (roles_of b k)) → Decides r ((k : ℕ) → P k → Q k)
within_told P Q a b r da db d = (
  (λ e k p. (db k).0 (as_true _ (d.0 e k (as_test _ ((da k).1 p))))),
  λ f. d.1 (λ k h. as_test _ ((db k).1 (f k ((da k).0 (as_true _ h))))),
)

-- what a regime asks
abbrev pub RegimeAsks : RegimeMeant → Policy → State → Type 0
RegimeAsks g p s = elim g [ aatu ↦ Aatu p | aar ↦ Aar p s ]

pub aatu_kept : (t : Tables) (es : List RevokeEntry) (r : Bool) → t.regime ≡ aatu_here → es ≡ entries t.revokes → r ≡ eqb (length es) 0 → Decides r (ObeysRegime (policy_of t) (state_of t))
unfolding policy_of
aatu_kept t es r here is-es is-r = subst⁻¹ (λ (g : RegimeMeant). Decides r (RegimeAsks g (policy_of t) (state_of t))) (regime_is t ∙ ap regime_of here) (
  (λ e. ap (map revoke_of) (sym is-es ∙ nil_from_length es (eqb-true (length es) 0 (sym is-r ∙ e)))),
  λ none. is-r ∙ eq-eqb (length es) 0 (sym (length-map es revoke_of) ∙ ap (λ l. length (map revoke_of l)) is-es ∙ ap length none),
)

-- the first of a list is found where the list has one, and then somebody is trusted
abbrev pub FirstNamed : List User → Option User → Type 0
FirstNamed us o = MatchOption o (length us ≡ 0) (λ u. (u.number < users) × T (is_among us u.number))

pub nobody_trusted : (t : Tables) (us : List User) (o : Option User) (none : Bool) → us ≡ entries t.trusted → FirstNamed us o → is_some o ≡ not none → Decides none ((u : ℕ) → T (not ((policy_of t).trusted u)))
nobody_trusted t us None none is_us empty is = (
  (λ _ u. deny ((policy_of t).trusted u) (λ h. subst (λ (l : List User). T (is_among l u)) (sym is_us ∙ nil_from_length us empty) (trusted_named t u h))),
  λ _. other none is,
)
  where
    other : (b : Bool) → false ≡ not b → b ≡ true
    other true e = refl
    other false e = e
nobody_trusted t us (Some v) none is_us (small, named) is = (
  (λ e. absurd (both_ways true (is ∙ ap not e) refl)),
  λ f. absurd (clash ((policy_of t).trusted v.number) (subst T (trusted_is t v.number small) (subst (λ (l : List User). T (is_among l v.number)) is_us named)) (f v.number)),
)

pub aar_kept : (t : Tables) (b : Bool) → t.regime ≡ aar_here → Decides b (Aar (policy_of t) (state_of t)) → Decides b (ObeysRegime (policy_of t) (state_of t))
unfolding policy_of
aar_kept t b here d = subst⁻¹ (λ (g : RegimeMeant). Decides b (RegimeAsks g (policy_of t) (state_of t))) (regime_is t ∙ ap regime_of here) d
