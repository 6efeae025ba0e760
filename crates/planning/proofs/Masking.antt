-- Tables filled from their first place on, and the masks that come of it.
use Rattle.std.proofs.Common.{◌≡◌, ℕ, ◌+◌, ◌<◌, ◌≤◌, Bool, true, false, ◌&&◌, ◌||◌, T, eqb, ltb, ◌≢◌, ◌⊎◌, ◌↔◌, List, length, get_or, set, Decides, sym, refl, ap, ◌∙◌, subst, inl, inr, ⊎_elim, arith, eqb→eq, ltb→lt, lt→ltb, get_or-set_other, get_or-set_same}
use Rattle.meaning.specs.Measures.{roles, permissions}
use mathlib.Core.Path.{subst⁻¹}
use lib.Dec.{eqb_refl}
use Rattle.std.proofs.lemmas.List.{get_or_past}
use Rattle.std.proofs.lemmas.Bool.{cases_eq, cases_lt, both_ways}
use Rattle.meaning.specs.Membership.{Role, Permission, Senior, same, above}
use Rattle.meaning.proofs.Tests.{agree, both, first, second, either, or_left, or_right, as_true, as_test}
use Rattle.rbac.specs.declared.sets.RoleSet.{RoleSet}
use Rattle.rbac.specs.Roles.{roles_of, of_either, no_role}
use Rattle.rbac.proofs.Masks.{roles_none, roles_past}
use Rattle.words.specs.Words.{with}
use Rattle.hierarchy.specs.Edges.{edges_of, no_roles}
use Rattle.tables.specs.declared.tables.Tables.{Tables}
use Rattle.tables.specs.View.{policy_of}
use Rattle.deciding.specs.Masked.{down_of}
use Rattle.planning.specs.MasksTold.{MasksTell}

-- one more place is filled
pub filled : {A : Type 0} (P : ℕ → A → Type 0) (xs : List A) (i : ℕ) (v d : A) → i < length xs → ((j : ℕ) → j < i → P j (get_or xs j d)) → P i v → (j : ℕ) → j < i + 1 → P j (get_or (set xs i v) j d)
filled P xs i v d l before here j lt =
    ⊎_elim
    (λ (e : j ≡ i). subst⁻¹ (λ k. P k (get_or (set xs i v) k d)) e (subst⁻¹ (P i) (get_or-set_same xs i v d l) here))
    (λ (e : j ≡ i → ⊥). let ne : j ≢ i = e in subst⁻¹ (P j) (get_or-set_other xs i j v d ne) (before j (omega arith)))
    (cases_eq j i)

pub small : (s : RoleSet) (k : ℕ) → T (roles_of s k) → k < roles
small s k h = ⊎_elim (λ (l : k < roles). l) (λ (l : roles ≤ k). absurd (subst T (roles_past s k l) h)) (cases_lt k roles)

-- above: one role more is looked at
module _ (below : List RoleSet) (r q : ℕ) (set' : RoleSet) (inv : (k : ℕ) → roles_of set' k ≡ (ltb k q && roles_of (get_or below k no_roles) r)) where
  abbrev at : ℕ → Bool
  at k = roles_of (get_or below k no_roles) r

  next : (k : ℕ) → (k ≡ q) ⊎ (k ≡ q → ⊥) → T (ltb k (q + 1)) → T (ltb k q) ⊎ (k ≡ q)
  next k (inl e) h = inr e
  next k (inr e) h = let l : k < q + 1 = ltb→lt k (q + 1) h in inl (lt→ltb k q (omega arith))

  pub above_in : (new : RoleSet) (n : ℕ) → n ≡ q → roles_of new ≡ with (roles_of set') n → at q ≡ true → (k : ℕ) → roles_of new k ≡ (ltb k (q + 1) && at k)
  above_in new n e is here k = agree (roles_of new k) (ltb k (q + 1) && at k) there back
    where
      eq : roles_of new k ≡ (roles_of set' k || eqb k q)
      eq = ap (λ f. f k) is ∙ ap (λ m. roles_of set' k || eqb k m) e

      there : T (roles_of new k) → T (ltb k (q + 1) && at k)
      there h = ⊎_elim
          (λ (i : T (roles_of set' k)). let j : T (ltb k q && at k) = subst T (inv k) i in let l : k < q = ltb→lt k q (first (ltb k q) (at k) j) in both (ltb k (q + 1)) (at k) (lt→ltb k (q + 1) (omega arith)) (second (ltb k q) (at k) j))
          (λ (i : T (eqb k q)). let j : k ≡ q = eqb→eq k q i in both (ltb k (q + 1)) (at k) (lt→ltb k (q + 1) (omega arith)) (subst⁻¹ (λ m. T (at m)) j (as_test (at q) here)))
          (either (roles_of set' k) (eqb k q) (subst T eq h))

      back : T (ltb k (q + 1) && at k) → T (roles_of new k)
      back h = subst⁻¹ T eq (⊎_elim
          (λ (l : T (ltb k q)). or_left (roles_of set' k) (eqb k q) (subst⁻¹ T (inv k) (both (ltb k q) (at k) l (second (ltb k (q + 1)) (at k) h))))
          (λ (j : k ≡ q). or_right (roles_of set' k) (eqb k q) (subst⁻¹ (λ m. T (eqb m q)) j (eqb_refl q)))
          (next k (cases_eq k q) (first (ltb k (q + 1)) (at k) h)))

  pub above_out : at q ≡ false → (k : ℕ) → roles_of set' k ≡ (ltb k (q + 1) && at k)
  above_out here k = agree (roles_of set' k) (ltb k (q + 1) && at k)
      (λ h. let j : T (ltb k q && at k) = subst T (inv k) h in let l : k < q = ltb→lt k q (first (ltb k q) (at k) j) in both (ltb k (q + 1)) (at k) (lt→ltb k (q + 1) (omega arith)) (second (ltb k q) (at k) j))
      (λ h. ⊎_elim
      (λ (l : T (ltb k q)). subst⁻¹ T (inv k) (both (ltb k q) (at k) l (second (ltb k (q + 1)) (at k) h)))
      (λ (j : k ≡ q). absurd (both_ways (at q) here (as_true (at q) (subst (λ m. T (at m)) j (second (ltb k (q + 1)) (at k) h)))))
      (next k (cases_eq k q) (first (ltb k (q + 1)) (at k) h)))

-- at the end all roles are looked at; past them there is nothing
pub above_all : (below : List RoleSet) (r q : ℕ) (m : RoleSet) → length below ≡ roles → roles ≤ q → ((k : ℕ) → roles_of m k ≡ (ltb k q && roles_of (get_or below k no_roles) r)) → (k : ℕ) → roles_of m k ≡ roles_of (get_or below k no_roles) r
above_all below r q m full l inv k = ⊎_elim
    (λ (h : k < roles). inv k ∙ ap (λ b. b && roles_of (get_or below k no_roles) r) (as_true (ltb k q) (lt→ltb k q (omega arith))))
    (λ (h : roles ≤ k). roles_past m k h ∙ sym (ap (λ s. roles_of s r) (get_or_past below k no_roles (omega arith)) ∙ ap (λ f. f r) roles_none))
    (cases_lt k roles)

-- givers: one role more is looked at
abbrev pub Given : RoleSet → List RoleSet → ℕ → ℕ → Type 0
Given set' seniors n k = (r : ℕ) × (r < n) × T (roles_of set' r) × T (down_of seniors k r)

pub given_none : (set' : RoleSet) (seniors : List RoleSet) (m : RoleSet) → roles_of m ≡ no_role → (k : ℕ) → Decides (roles_of m k) (Given set' seniors 0 k)
given_none set' seniors m e k = ((λ h. absurd (both_ways (roles_of m k) (ap (λ f. f k) e) h)), λ (r, l, x, y). absurd (omega arith))

module _ (set' : RoleSet) (seniors : List RoleSet) (r : ℕ) (m : RoleSet) (inv : (k : ℕ) → Decides (roles_of m k) (Given set' seniors r k)) where
  more : (k : ℕ) → Given set' seniors r k → Given set' seniors (r + 1) k
  more k (j, l, x, y) = (j, omega arith, x, y)

  pub given_in : (new : RoleSet) → roles_of new ≡ of_either (roles_of m) (roles_of (get_or seniors r no_roles)) → roles_of set' r ≡ true → (k : ℕ) → Decides (roles_of new k) (Given set' seniors (r + 1) k)
  given_in new is here k = (there, back)
    where
      eq : roles_of new k ≡ (roles_of m k || down_of seniors k r)
      eq = ap (λ f. f k) is

      there : roles_of new k ≡ true → Given set' seniors (r + 1) k
      there h = ⊎_elim
          (λ (i : T (roles_of m k)). more k ((inv k).0 (as_true (roles_of m k) i)))
          (λ (i : T (down_of seniors k r)). (r, omega arith, as_test (roles_of set' r) here, i))
          (either (roles_of m k) (down_of seniors k r) (as_test (roles_of m k || down_of seniors k r) (sym eq ∙ h)))

      back : Given set' seniors (r + 1) k → roles_of new k ≡ true
      back (j, l, x, y) = eq ∙ as_true (roles_of m k || down_of seniors k r) (⊎_elim
          (λ (e : j ≡ r). or_right (roles_of m k) (down_of seniors k r) (subst (λ i. T (down_of seniors k i)) e y))
          (λ (e : j ≡ r → ⊥). or_left (roles_of m k) (down_of seniors k r) (as_test (roles_of m k) ((inv k).1 (j, omega arith, x, y))))
          (cases_eq j r))

  pub given_out : roles_of set' r ≡ false → (k : ℕ) → Decides (roles_of m k) (Given set' seniors (r + 1) k)
  given_out here k = (
    (λ h. more k ((inv k).0 h)),
    λ (j, l, x, y). ⊎_elim
        (λ (e : j ≡ r). absurd (both_ways (roles_of set' r) here (as_true (roles_of set' r) (subst (λ i. T (roles_of set' i)) e x))))
        (λ (e : j ≡ r → ⊥). (inv k).1 (j, omega arith, x, y))
        (cases_eq j r),
  )

-- edges are in range, and no chain of them leads out of it
pub edge_inside : (t : Tables) (q m : ℕ) → T ((policy_of t).edge q m) → (q < roles) × (m < roles)
unfolding policy_of edges_of
edge_inside t q m h = (
  ltb→lt q roles (first (ltb q roles) (roles_of (get_or t.hierarchy.below q no_roles) m) h),
  small (get_or t.hierarchy.below q no_roles) m (second (ltb q roles) (roles_of (get_or t.hierarchy.below q no_roles) m) h),
)

pub stays_inside : (t : Tables) {q r : ℕ} → Senior (policy_of t).edge q r → q < roles → r < roles
stays_inside t same l = l
stays_inside t (above {q = q} {r = m} e s) l = stays_inside t s (edge_inside t q m e).1

edge_is : (t : Tables) → edges_of t.hierarchy ≡ (policy_of t).edge
unfolding policy_of
edge_is t = refl

gives_is : (t : Tables) (n r : ℕ) → roles_of (get_or t.gives n no_roles) r ≡ (policy_of t).gives n r
unfolding policy_of
gives_is t n r = refl

pub ranked : (t : Tables) (below seniors givers : List RoleSet) → length below ≡ roles → length seniors ≡ roles → length givers ≡ permissions → length t.gives ≡ permissions
    → ((q r : ℕ) → q < roles → Decides (roles_of (get_or below q no_roles) r) (Senior (edges_of t.hierarchy) q r))
    → ((k r : ℕ) → r < roles → roles_of (get_or seniors r no_roles) k ≡ roles_of (get_or below k no_roles) r)
    → ((n k : ℕ) → n < permissions → Decides (down_of givers k n) ((r : ℕ) × (r < roles) × T (roles_of (get_or t.gives n no_roles) r) × T (down_of seniors k r)))
    → MasksTell (policy_of t) seniors givers
ranked t below seniors givers fb fs fg ft down up give = record { senior = tells; giver = gives }
  where
    is_down : (q r : ℕ) → q < roles → Decides (roles_of (get_or below q no_roles) r) (Senior (policy_of t).edge q r)
    is_down q r l = subst (λ e. Decides (roles_of (get_or below q no_roles) r) (Senior e q r)) (edge_is t) (down q r l)

    none_past : (masks : List RoleSet) (k r : ℕ) → length masks ≤ r → T (down_of masks k r) → ⊥
    none_past masks k r l h = subst T (ap (λ s. roles_of s k) (get_or_past masks r no_roles l) ∙ ap (λ f. f k) roles_none) h

    tells : (q r : ℕ) → q < roles → T (down_of seniors q r) ↔ Senior (policy_of t).edge q r
    tells q r l = (
      (λ h. ⊎_elim
          (λ (lr : r < roles). (is_down q r l).0 (sym (up q r lr) ∙ as_true (down_of seniors q r) h))
          (λ (lr : roles ≤ r). absurd (none_past seniors q r (omega arith) h))
          (cases_lt r roles)),
      λ s. as_test (down_of seniors q r) (up q r (stays_inside t s l) ∙ (is_down q r l).1 s),
    )

    gives : (k : Role) (n : Permission) → k < roles → T (down_of givers k n) ↔ ((r : Role) × T ((policy_of t).gives n r) × Senior (policy_of t).edge k r)
    gives k n l = (
      (λ h. ⊎_elim
          (λ (ln : n < permissions). let (r, lr, x, y) = (give n k ln).0 (as_true (down_of givers k n) h) in (r, subst T (gives_is t n r) x, (tells k r l).0 y))
          (λ (ln : permissions ≤ n). absurd (none_past givers k n (omega arith) h))
          (cases_lt n permissions)),
      λ (r, x, s). let y : T (roles_of (get_or t.gives n no_roles) r) = subst⁻¹ T (gives_is t n r) x in ⊎_elim
          (λ (ln : n < permissions). as_test (down_of givers k n) ((give n k ln).1 (r, small (get_or t.gives n no_roles) r y, y, (tells k r l).1 s)))
          (λ (ln : permissions ≤ n). absurd (none_past t.gives r n (omega arith) y))
          (cases_lt n permissions),
    )
