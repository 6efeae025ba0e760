-- Whether a step of delegation is open can be found out.
use Rattle.std.proofs.Common.{◌≡◌, ℕ, suc, ◌*◌, ◌/◌, ◌<◌, Bool, false, not, T, eqb, ◌⊎◌, List, [], ◌∷◌, length, get_or, sym, ap, ◌∙◌, subst, inl, inr, ⊎_elim, arith, eqb→eq}
use lib.Dec.{eqb_refl}
use Rattle.std.proofs.lemmas.Bool.{cases_lt}
use Rattle.steps.specs.Steps.{Facts}
use Rattle.meaning.specs.Measures.{users, list_places}
use Rattle.meaning.specs.Lists.{listed, Nth}
use Rattle.meaning.specs.Membership.{User, Row, State, Member}
use Rattle.meaning.specs.Rules.{Condition, everybody, in_role, AssignRule, Policy, MayAdd, Meets, both as all_of, either as any_of}
use Rattle.meaning.specs.Runs.{Change}
use Rattle.theory.specs.Bounds.{WithinMeasures}
use Rattle.theory.specs.Delegation.{user_of, said, rule_number, slot_of, role_of, delegation}
use Rattle.meaning.proofs.Tests.{either, or_left, or_right, decide, clash}
use Rattle.meaning.proofs.Numbered.{nth_at, at_nth}
use Rattle.theory.proofs.Deciding.{member?}

both? : {A B : Type 0} → A ⊎ (A → ⊥) → (B ⊎ (B → ⊥)) → (A × B) ⊎ ((A × B) → ⊥)
both? (inl a) (inl b) = inl (a, b)
both? (inl a) (inr not_b) = inr (λ h. not_b h.1)
both? (inr not_a) b = inr (λ h. not_a h.0)

either? : {A B : Type 0} → A ⊎ (A → ⊥) → B ⊎ (B → ⊥) → (A ⊎ B) ⊎ ((A ⊎ B) → ⊥)
either? (inl a) b = inl (inl a)
either? (inr not_a) (inl b) = inl (inr b)
either? (inr not_a) (inr not_b) = inr (elim [ inl a ↦ not_a a | inr b ↦ not_b b ])

-- some user of the list, or none
some? : (P : User → Type 0) → ((u : User) → P u ⊎ (P u → ⊥)) → (us : List User) → ((u : User) × (T (listed us u) × P u)) ⊎ (((u : User) × (T (listed us u) × P u)) → ⊥)
some? P dec [] = inr (λ h. h.1.0)
some? P dec (x ∷ us) = go (dec x) (some? P dec us)
  where
    go : P x ⊎ (P x → ⊥) → ((u : User) × (T (listed us u) × P u)) ⊎ (((u : User) × (T (listed us u) × P u)) → ⊥)
        → ((u : User) × (T (listed (x ∷ us) u) × P u)) ⊎ (((u : User) × (T (listed (x ∷ us) u) × P u)) → ⊥)
    go (inl h) rest = inl (x, (or_left (eqb x x) (listed us x) (eqb_refl x), h))
    go (inr gone) (inl (u, (i, h))) = inl (u, (or_right (eqb u x) (listed us u) i, h))
    go (inr gone) (inr others) = inr (λ (u, (i, h)). ⊎_elim
        (λ (e : T (eqb u x)). gone (subst P (eqb→eq u x e) h))
        (λ (l : T (listed us u)). others (u, (l, h)))
        (either (eqb u x) (listed us u) i))

module _ (p : Policy) (s : State) (board : WithinMeasures p s) where
  meets? : (row : Row) (c : Condition) → Meets p.edge row c ⊎ (Meets p.edge row c → ⊥)
  meets? row everybody = inl tt
  meets? row (in_role r) = member? p s board row r
  meets? row (all_of c d) = both? (meets? row c) (meets? row d)
  meets? row (any_of c d) = either? (meets? row c) (meets? row d)

  below? : (u n : ℕ) → (u < n) ⊎ ((u < n) → ⊥)
  below? u n = elim (cases_lt u n) [ inl l ↦ inl l | inr g ↦ inr (λ l. let no : ⊥ = omega arith in no) ]

  test? : (b : Bool) → T b ⊎ (T b → ⊥)
  test? b = elim (decide b) [ inl t ↦ inl t | inr off ↦ inr (λ t. clash b t off) ]

  -- by a rule that is given
  module _ (t : State) (a u r n : ℕ) (rule : AssignRule) (numbered : Nth n rule p.assigns) (one : (other : AssignRule) → Nth n other p.assigns → other ≡ rule) where
    abbrev Parts : Type 0
    Parts = (a < users) × ((u < users) × (T (not (p.trusted a)) × (T (rule.targets r) × (Member p.edge (t a) rule.admin × Meets p.edge (t u) rule.condition))))

    from_parts : Parts → MayAdd p t a u r n
    from_parts (x, (y, (free, (target, (admin, meets))))) = record { an_actor = x; a_user = y; untrusted = free; rule = rule; numbered = numbered; target = target; administers = admin; meets = meets }

    to_parts : MayAdd p t a u r n → Parts
    to_parts m =
        let e = one m.rule m.numbered in (
          m.an_actor,
          (
            m.a_user,
            (
              m.untrusted,
              (
                subst (λ (x : AssignRule). T (x.targets r)) e m.target,
                (
                  subst (λ (x : AssignRule). Member p.edge (t a) x.admin) e m.administers,
                  subst (λ (x : AssignRule). Meets p.edge (t u) x.condition) e m.meets,
                ),
              ),
            ),
          ),
        )

    may? : MayAdd p t a u r n ⊎ (MayAdd p t a u r n → ⊥)
    may? = elim (both? (below? a users) (both? (below? u users) (both? (test? (not (p.trusted a))) (both? (test? (rule.targets r)) (both? (member? p s board (t a) rule.admin) (meets? (t u) rule.condition)))))) [
      | inl h ↦ inl (from_parts h)
      | inr off ↦ inr (λ m. off (to_parts m))
    ]

  any_rule : AssignRule
  any_rule = record { admin = 0; condition = everybody; targets = λ r. false }

  module _ {R : Type 0} (change_of : R → Change) (us : List User) where
    pub open? : (n : ℕ) (f : Facts) → n < list_places * length p.assigns → (delegation change_of p us).opens n f ⊎ ((delegation change_of p us).opens n f → ⊥)
    open? n f l = both? (below? (slot_of n) (length us))
        (some? (λ a. MayAdd p (said us f) a (user_of us (slot_of n)) (role_of n) (rule_number n))
        (λ a. may? (said us f) a (user_of us (slot_of n)) (role_of n) (rule_number n) (get_or p.assigns k any_rule) (nth_at any_rule p.assigns k (omega arith)) only_one) us)
      where
        k : ℕ
        k = n / list_places

        only_one : (other : AssignRule) → Nth (suc k) other p.assigns → other ≡ get_or p.assigns k any_rule
        only_one other nth =
            let (i, e, below, is) = at_nth any_rule nth in
            let same : i ≡ k = omega arith in
            sym is ∙ ap (λ (j : ℕ). get_or p.assigns j any_rule) same
