-- Taking one role after another.
use Rattle.std.proofs.Common.{◌≡◌, ℕ, ◌+◌, ◌*◌, ◌/◌, ◌%◌, ◌<◌, Bool, true, false, not, ◌&&◌, T, ltb, ◌⊎◌, List, [], ◌∷◌, ◌++◌, length, take, set, sym, refl, ap, ◌∙◌, subst, ap₂, inl, inr, ⊎_elim, add-one, arith, ltb→lt, lt→ltb, take-suc-set}
use Rattle.meaning.specs.Measures.{roles}
use mathlib.Core.Path.{subst⁻¹, fun_ext}
use Rattle.std.proofs.lemmas.Bool.{cases_eq, both_ways}
use Rattle.meaning.specs.Membership.{User, Role, State, same}
use Rattle.meaning.specs.Rules.{Policy, RevokeRule, MayRemove}
use Rattle.meaning.specs.Lists.{Nth}
use Rattle.meaning.specs.Sets.{Question}
use Rattle.meaning.specs.Runs.{Change, removes, pair, after, moves, Run, end}
use Rattle.meaning.specs.Regimes.{Aatu, Aar}
use Rattle.theory.specs.Reach.{revocable, least_state}
use Rattle.meaning.specs.Rows.{Holder}
use Rattle.meaning.specs.Witnesses.{OnlyRemoves, Each}
use Rattle.meaning.proofs.Tests.{agree, first, second, both, clash, deny, as_true, as_test, is_it, it_is}
use Rattle.theory.proofs.Revocable.{gives_revocable}
use Rattle.theory.proofs.Runs.{joined, ends}
use Rattle.theory.proofs.Floor.{each_joined, removes_joined, stays, by_regime}
use Rattle.deciding.specs.declared.runs.RunStep.{RunStep}
use Rattle.deciding.specs.declared.plan.Plan.{Plan}
use Rattle.deciding.specs.declared.plan.Slot.{Slot}
use Rattle.deciding.specs.Slots.{slots_of, slot_user}
use Rattle.deciding.specs.Delegates.{removing}
use Rattle.bounded.proofs.Listing.{few}
use Rattle.planning.specs.Slotted.{has_slot}
use Rattle.planning.proofs.Slotting.{at_slotted}
use Rattle.verdicts.specs.Looking.{place, as_changes}
use Rattle.verdicts.specs.PlanFits.{PlanFits, AllSlotted}
use Rattle.verdicts.specs.AllTaken.{Taking, lowered, AllTaken}
use Rattle.verdicts.proofs.Tracked.{at_place, looked_slotted}

no_nth : {k : ℕ} {rule : RevokeRule} → Nth k rule [] → ⊥
no_nth n = elim n [ ]

slotted_joined : (slots : List Slot) (xs ys : List RunStep) → AllSlotted slots xs → AllSlotted slots ys → AllSlotted slots (xs ++ ys)
slotted_joined slots [] ys a b = b
slotted_joined slots (x ∷ xs) ys a b = (a.0, slotted_joined slots xs ys a.1 b)

changes_joined : (xs ys : List RunStep) → as_changes false (xs ++ ys) ≡ as_changes false xs ++ as_changes false ys
changes_joined [] ys = refl
changes_joined (x ∷ xs) ys = ap (λ r. removing x ∷ r) (changes_joined xs ys)

module _ (p : Policy) (s : State) (q : Question) (plan : Plan) (z : PlanFits p s q plan) where
  abbrev slots : List Slot
  slots = slots_of plan

  abbrev out : Role → Bool
  out r = revocable p.revokes r

  -- who has a role has a slot
  pub holder_slotted : (u : User) (r : Role) → T (s u r) → T (has_slot slots u)
  holder_slotted u r h = looked_slotted p s q slots (few plan.slots) z.planned u (inl (as_test _ ((z.planned.tracked u).1 (inl (r, h)))))

  slot_for : (u : User) (r : Role) → T (s u r) → (place slots u < length slots) × (slot_user slots (place slots u) ≡ u) × (r < roles)
  slot_for u r h = let (l, e) = at_place slots u (holder_slotted u r h) in (l, e, (z.measured.assigned_inside u r h).1)

  slot_at_place : (i : ℕ) → i < length slots → place slots (slot_user slots i) ≡ i
  slot_at_place i l =
      let (m, e) = at_place slots (slot_user slots i) (at_slotted slots i l) in
      z.planned.present.distinct (place slots (slot_user slots i)) i m l e

  abbrev low : ℕ → State
  low f = lowered p s slots f

  -- nothing is taken yet; at the end the floor is left
  pub low_none : s ≡ low 0
  low_none = fun_ext (λ u. fun_ext (λ r. agree (s u r) (low 0 u r)
      (λ h. both (s u r) (not (out r && ltb (roles * place slots u + r) 0)) h (deny (out r && ltb (roles * place slots u + r) 0) (λ i. let l : roles * place slots u + r < 0 = ltb→lt (roles * place slots u + r) 0 (second (out r) (ltb (roles * place slots u + r) 0) i) in omega arith)))
      (λ h. first (s u r) (not (out r && ltb (roles * place slots u + r) 0)) h)))

  pub low_all : low (roles * length slots) ≡ least_state p s
  low_all = fun_ext (λ u. fun_ext (λ r. agree (low (roles * length slots) u r) (least_state p s u r)
      (λ h. let i = first (s u r) (not (out r && ltb (roles * place slots u + r) (roles * length slots))) h in
      let (l, e, lr) = slot_for u r i in
      both (s u r) (not (out r)) i (deny (out r) (λ o. clash (out r && ltb (roles * place slots u + r) (roles * length slots)) (both (out r) (ltb (roles * place slots u + r) (roles * length slots)) o (lt→ltb (roles * place slots u + r) (roles * length slots) (omega arith))) (second (s u r) (not (out r && ltb (roles * place slots u + r) (roles * length slots))) h))))
      (λ h. both (s u r) (not (out r && ltb (roles * place slots u + r) (roles * length slots))) (first (s u r) (not (out r)) h) (deny (out r && ltb (roles * place slots u + r) (roles * length slots)) (λ i. clash (out r) (first (out r) (ltb (roles * place slots u + r) (roles * length slots)) i) (second (s u r) (not (out r)) h))))))

  module _ (i r : ℕ) (li : i < length slots) (lr : r < roles) where
    abbrev f : ℕ
    f = roles * i + r

    abbrev u : User
    u = slot_user slots i

    -- the fact is not this one, or it is
    other : (v w : ℕ) → T (s v w) → (roles * place slots v + w ≡ f) → (v ≡ u) × (w ≡ r)
    other v w h e =
        let (l, at, lw) = slot_for v w h in
        let same : place slots v ≡ i = omega arith in
        (sym at ∙ ap (slot_user slots) same, omega arith)

    pub low_skip : (s u r && out r) ≡ false → low f ≡ low (f + 1)
    low_skip none = fun_ext (λ v. fun_ext (λ w. agree (low f v w) (low (f + 1) v w)
        (λ h. let x = first (s v w) (not (out w && ltb (roles * place slots v + w) f)) h in
        both (s v w) (not (out w && ltb (roles * place slots v + w) (f + 1))) x (deny (out w && ltb (roles * place slots v + w) (f + 1)) (λ i.
        let o = first (out w) (ltb (roles * place slots v + w) (f + 1)) i in
        let lt : roles * place slots v + w < f + 1 = ltb→lt (roles * place slots v + w) (f + 1) (second (out w) (ltb (roles * place slots v + w) (f + 1)) i) in
        ⊎_elim
        (λ (e : roles * place slots v + w ≡ f). let (a, b) = other v w x e in both_ways (s u r && out r) none (as_true (s u r && out r) (both (s u r) (out r) (subst (λ w. T (s u w)) b (subst (λ v. T (s v w)) a x)) (subst (λ w. T (out w)) b o))))
        (λ (e : roles * place slots v + w ≡ f → ⊥). clash (out w && ltb (roles * place slots v + w) f) (both (out w) (ltb (roles * place slots v + w) f) o (lt→ltb (roles * place slots v + w) f (omega arith))) (second (s v w) (not (out w && ltb (roles * place slots v + w) f)) h))
        (cases_eq (roles * place slots v + w) f))))
        (wider v w)))
      where
        wider : (v w : ℕ) → T (low (f + 1) v w) → T (low f v w)
        wider v w h = both (s v w) (not (out w && ltb (roles * place slots v + w) f)) (first (s v w) (not (out w && ltb (roles * place slots v + w) (f + 1))) h)
            (deny (out w && ltb (roles * place slots v + w) f) (λ i.
            let lt : roles * place slots v + w < f = ltb→lt (roles * place slots v + w) f (second (out w) (ltb (roles * place slots v + w) f) i) in
            clash (out w && ltb (roles * place slots v + w) (f + 1)) (both (out w) (ltb (roles * place slots v + w) (f + 1)) (first (out w) (ltb (roles * place slots v + w) f) i) (lt→ltb (roles * place slots v + w) (f + 1) (omega arith))) (second (s v w) (not (out w && ltb (roles * place slots v + w) (f + 1))) h)))

    -- the role is taken
    low_taken : (a k : ℕ) → T (s u r) → T (out r) → after (removes a u r k) (low f) ≡ low (f + 1)
    low_taken a k h o = fun_ext (λ v. fun_ext (λ w. agree (low f v w && not (pair u r v w)) (low (f + 1) v w) (there v w) (back v w)))
      where
        there : (v w : ℕ) → T (low f v w && not (pair u r v w)) → T (low (f + 1) v w)
        there v w g =
            let x = first (low f v w) (not (pair u r v w)) g in
            let sx = first (s v w) (not (out w && ltb (roles * place slots v + w) f)) x in
            both (s v w) (not (out w && ltb (roles * place slots v + w) (f + 1))) sx (deny (out w && ltb (roles * place slots v + w) (f + 1)) (λ j.
            let lt : roles * place slots v + w < f + 1 = ltb→lt (roles * place slots v + w) (f + 1) (second (out w) (ltb (roles * place slots v + w) (f + 1)) j) in
            ⊎_elim
            (λ (e : roles * place slots v + w ≡ f). let (a, b) = other v w sx e in clash (pair u r v w) (subst⁻¹ (λ v. T (pair u r v w)) a (subst⁻¹ (λ w. T (pair u r u w)) b (it_is u r))) (second (low f v w) (not (pair u r v w)) g))
            (λ (e : roles * place slots v + w ≡ f → ⊥). clash (out w && ltb (roles * place slots v + w) f) (both (out w) (ltb (roles * place slots v + w) f) (first (out w) (ltb (roles * place slots v + w) (f + 1)) j) (lt→ltb (roles * place slots v + w) f (omega arith))) (second (s v w) (not (out w && ltb (roles * place slots v + w) f)) x))
            (cases_eq (roles * place slots v + w) f)))

        back : (v w : ℕ) → T (low (f + 1) v w) → T (low f v w && not (pair u r v w))
        back v w g =
            let sx = first (s v w) (not (out w && ltb (roles * place slots v + w) (f + 1))) g in
            let keep = second (s v w) (not (out w && ltb (roles * place slots v + w) (f + 1))) g in
            both (low f v w) (not (pair u r v w))
            (both (s v w) (not (out w && ltb (roles * place slots v + w) f)) sx (deny (out w && ltb (roles * place slots v + w) f) (λ j.
            let lt : roles * place slots v + w < f = ltb→lt (roles * place slots v + w) f (second (out w) (ltb (roles * place slots v + w) f) j) in
            clash (out w && ltb (roles * place slots v + w) (f + 1)) (both (out w) (ltb (roles * place slots v + w) (f + 1)) (first (out w) (ltb (roles * place slots v + w) f) j) (lt→ltb (roles * place slots v + w) (f + 1) (omega arith))) keep)))
            (deny (pair u r v w) (λ j.
            let e = is_it u r v w j in
            let at : place slots v ≡ i = ap (place slots) e.0 ∙ slot_at_place i li in
            let same_w = e.1 in
            clash (out w && ltb (roles * place slots v + w) (f + 1)) (both (out w) (ltb (roles * place slots v + w) (f + 1)) (subst⁻¹ (λ w. T (out w)) e.1 o) (lt→ltb (roles * place slots v + w) (f + 1) (omega arith))) keep))

    -- by a permitted change
    record Step (c : Change) : Type 0 where
      allowed : Run (moves p) (low f) (c ∷ [])
      leaves : end (low f) (c ∷ []) ≡ low (f + 1)
      removes_only : OnlyRemoves (c ∷ [])
      holders : Each (Holder s) (c ∷ [])

    step : (x : RunStep) → Taking p s slots i r x → Step (removing x)
    step x t = subst⁻¹ Step same_change made
      where
        a : User
        a = slot_user slots t.actor

        same_change : removing x ≡ removes a u r x.rule
        same_change = ap₂ (λ v w. removes v w x.role.number x.rule) t.actor_is t.user_is ∙ ap (λ w. removes a u w x.rule) t.role_is

        gone : T (out r)
        gone = gives_revocable t.numbered r t.target

        here : T (low f u r)
        here = both (s u r) (not (out r && ltb (roles * place slots u + r) f)) t.there (deny (out r && ltb (roles * place slots u + r) f) (λ j.
            let lt : roles * place slots u + r < f = ltb→lt (roles * place slots u + r) f (second (out r) (ltb (roles * place slots u + r) f) j) in
            let at = slot_at_place i li in omega arith))

        aar : Aar p s
        aar = go (by_regime p s z.regular)
          where
            go : Aatu p ⊎ Aar p s → Aar p s
            go (inl none) = absurd (no_nth (subst (λ rules. Nth x.rule t.rule rules) none t.numbered))
            go (inr g) = g

        keeps : T (not (out t.rule.admin))
        keeps = stays p s aar t.rule.admin (inr (x.rule, t.rule, t.numbered, refl))

        may : MayRemove p (low f) a u r x.rule
        may = record {
          an_actor = z.planned.present.inside t.actor t.actor_slot;
          a_user = z.planned.present.inside i li;
          rule = t.rule;
          numbered = t.numbered;
          target = t.target;
          administers = (
            t.rule.admin,
            same,
            both (s a t.rule.admin) (not (out t.rule.admin && ltb (roles * place slots a + t.rule.admin) f)) t.administers
                (deny (out t.rule.admin && ltb (roles * place slots a + t.rule.admin) f) (λ j. clash (out t.rule.admin) (first (out t.rule.admin) (ltb (roles * place slots a + t.rule.admin) f) j) keeps)),
          );
        }

        made : Step (removes a u r x.rule)
        made = record { allowed = ((here, may), tt); leaves = low_taken a x.rule t.there gone; removes_only = tt; holders = ((t.rule.admin, t.administers), (r, t.there), tt) }

    pub take_more : (n : ℕ) (xs : List RunStep) (x : RunStep) → n < length xs → Taking p s slots i r x → AllTaken p s slots f n xs → AllTaken p s slots (f + 1) (n + 1) (set xs n x)
    take_more n xs x l t w = record {
      few = omega (arith, w.few);
      lawful = subst⁻¹ (λ cs. Run (moves p) s cs) more (joined (moves p) s old (removing x ∷ []) w.lawful (subst⁻¹ (λ t. Run (moves p) t (removing x ∷ [])) w.ends st.allowed));
      removing = subst⁻¹ OnlyRemoves more (removes_joined old (removing x ∷ []) w.removing st.removes_only);
      rowed = subst⁻¹ (Each (Holder s)) more (each_joined (Holder s) old (removing x ∷ []) w.rowed st.holders);
      slotted = subst⁻¹ (AllSlotted slots) front (slotted_joined slots (take n xs) (x ∷ []) w.slotted (subst⁻¹ (λ v. T (has_slot slots v)) t.user_is (at_slotted slots i li), tt));
      ends = ap (end s) more ∙ ends s old (removing x ∷ []) ∙ ap (λ t. end t (removing x ∷ [])) w.ends ∙ st.leaves;
    }
      where
        st : Step (removing x)
        st = step x t

        old : List Change
        old = as_changes false (take n xs)

        front : take (n + 1) (set xs n x) ≡ take n xs ++ (x ∷ [])
        front = ap (λ m. take m (set xs n x)) (add-one n) ∙ take-suc-set xs n x l

        more : as_changes false (take (n + 1) (set xs n x)) ≡ old ++ (removing x ∷ [])
        more = ap (as_changes false) front ∙ changes_joined (take n xs) (x ∷ [])

    pub take_skip : (n : ℕ) (xs : List RunStep) → (s u r && out r) ≡ false → AllTaken p s slots f n xs → AllTaken p s slots (f + 1) n xs
    take_skip n xs e w = record { few = omega (arith, w.few); lawful = w.lawful; removing = w.removing; rowed = w.rowed; slotted = w.slotted; ends = w.ends ∙ low_skip e }

  pub take_none : (xs : List RunStep) → AllTaken p s slots 0 0 xs
  take_none xs = record { few = omega arith; lawful = tt; removing = tt; rowed = tt; slotted = tt; ends = low_none }

  -- the administering role is assigned to the user of some slot
  pub some_holder : (r : Role) (x : ℕ) (rule : RevokeRule) → Nth x rule p.revokes → (i : ℕ) × (i < length slots) × T (s (slot_user slots i) rule.admin)
  some_holder r x rule nth = go (by_regime p s z.regular)
    where
      go : Aatu p ⊎ Aar p s → (i : ℕ) × (i < length slots) × T (s (slot_user slots i) rule.admin)
      go (inl none) = absurd (no_nth (subst (λ rules. Nth x rule rules) none nth))
      go (inr g) =
          let (v, v-user, h) = g.assigned rule.admin (inr (x, rule, nth, refl)) in
          let (l, e, lr) = slot_for v rule.admin h in
          (place slots v, l, subst⁻¹ (λ w. T (s w rule.admin)) e h)

pub and_off : (a b : Bool) → b ≡ false → (a && b) ≡ false
and_off true b e = e
and_off false b e = refl

-- a fact is of this form
pub take_some : (p : Policy) (s : State) (q : Question) (plan : Plan) → PlanFits p s q plan → (f n : ℕ) (xs : List RunStep) (x : RunStep) (r : ℕ)
    → f < roles * length (slots_of plan) → r ≡ f % roles → n < length xs → Taking p s (slots_of plan) (f / roles) r x → AllTaken p s (slots_of plan) f n xs → AllTaken p s (slots_of plan) (f + 1) (n + 1) (set xs n x)
take_some p s q plan z f n xs x r l er ln t w =
    let e : roles * (f / roles) + f % roles ≡ f = omega arith in
    subst (λ g. AllTaken p s (slots_of plan) (g + 1) (n + 1) (set xs n x)) e
    (take_more p s q plan z (f / roles) (f % roles) (omega arith) (omega arith) n xs x ln (subst (λ r. Taking p s (slots_of plan) (f / roles) r x) er t) (subst⁻¹ (λ g. AllTaken p s (slots_of plan) g n xs) e w))

pub take_none_here : (p : Policy) (s : State) (q : Question) (plan : Plan) → PlanFits p s q plan → (f n : ℕ) (xs : List RunStep) (r : ℕ)
    → f < roles * length (slots_of plan) → r ≡ f % roles → (s (slot_user (slots_of plan) (f / roles)) r && revocable p.revokes r) ≡ false → AllTaken p s (slots_of plan) f n xs → AllTaken p s (slots_of plan) (f + 1) n xs
take_none_here p s q plan z f n xs r l er t w =
    let e : roles * (f / roles) + f % roles ≡ f = omega arith in
    subst (λ g. AllTaken p s (slots_of plan) (g + 1) n xs) e
    (take_skip p s q plan z (f / roles) (f % roles) (omega arith) (omega arith) n xs (subst (λ r. (s (slot_user (slots_of plan) (f / roles)) r && revocable p.revokes r) ≡ false) er t) (subst⁻¹ (λ g. AllTaken p s (slots_of plan) g n xs) e w))
