-- A trace of delegations that ends shut is a run among the users listed, at whose end nothing more can be added among them.
use Rattle.std.proofs.Common.{◌≡◌, ℕ, suc, ◌+◌, ◌*◌, ◌/◌, ◌%◌, ◌<◌, ◌≤◌, Bool, false, not, ◌&&◌, ◌||◌, T, eqb, ltb, ◌⊎◌, List, [], ◌∷◌, ◌++◌, map, length, get_or, sym, refl, ap, ◌∙◌, subst, subst₂, inl, inr, arith, eqb→eq, ltb→lt, lt→ltb}
use mathlib.Core.Path.{subst⁻¹, fun_ext}
use lib.Dec.{eqb_refl}
use Rattle.std.proofs.Math.Facts.{yes_eqb}
use Rattle.steps.specs.Steps.{Facts, Lawful, Within, Trace, none, more}
use Rattle.words.specs.Words.{with}
use Rattle.meaning.specs.Measures.{roles, tracked_users, list_places}
use Rattle.meaning.specs.Lists.{listed, Apart, Nth}
use Rattle.meaning.specs.Membership.{User, Role, State}
use Rattle.meaning.specs.Rules.{everybody, AssignRule, Policy, MayAdd}
use Rattle.meaning.specs.Runs.{Change, adds, removes, pair, after, moves, Run, end}
use Rattle.meaning.specs.Witnesses.{OnlyAdds, Each}
use Rattle.theory.specs.Reach.{◌⊑◌}
use Rattle.theory.specs.Bounds.{WithinMeasures}
use Rattle.theory.specs.Hire.{Tracking, TrackedOrHire, ClosedAmongTracked}
use Rattle.theory.specs.Delegation.{user_of, said_row, said, rule_number, slot_of, role_of, delegation, LawfulBelow, Shut, RunAmong, InSlots, IsRun}
use Rattle.meaning.proofs.Tests.{either, or_left, or_right, first, second, both, deny, clash, agree, is_it, as_true, as_test, as_denied}
use Rattle.theory.proofs.Tests.{some_at, some_gives}
use Rattle.theory.proofs.Growing as Growing
use Rattle.meaning.proofs.Numbered.{at_nth}
use Rattle.theory.proofs.Runs.{joined, ends}
use Rattle.theory.proofs.Floor.{each_joined}
use Rattle.theory.proofs.Closes.{trace_short}
use Rattle.theory.proofs.Places.{place, at_place, at_listed, one_place}

any_rule : AssignRule
any_rule = record { admin = 0; condition = everybody; targets = λ r. false }

-- who may add may add where actor and user have more
pub may_grow : (p : Policy) (t t' : State) (a u r n : ℕ) → t a ⊑ t' a → t u ⊑ t' u → MayAdd p t a u r n → MayAdd p t' a u r n
may_grow p t t' a u r n wide-a wide-u m = record {
  an_actor = m.an_actor;
  a_user = m.a_user;
  untrusted = m.untrusted;
  rule = m.rule;
  numbered = m.numbered;
  target = m.target;
  administers = Growing.member p.edge (t a) (t' a) wide-a m.rule.admin m.administers;
  meets = Growing.meets p.edge (t u) (t' u) wide-u m.rule.condition m.meets;
}

module _ (us : List User) where
  abbrev has : Facts → User → Role → ℕ → Bool
  has f u r i = eqb (user_of us i) u && said_row f i r

  -- who has a role has it in a slot
  pub said_in : (f : Facts) (u r : ℕ) → T (said us f u r) → (i : ℕ) × (i < length us) × (user_of us i ≡ u) × T (said_row f i r)
  said_in f u r h =
      let (i, l, t) = some_gives (length us) (has f u r) h in
      (i, l, eqb→eq (user_of us i) u (first (eqb (user_of us i) u) (said_row f i r) t), second (eqb (user_of us i) u) (said_row f i r) t)

  pub in_said : (f : Facts) (i r : ℕ) → i < length us → T (said_row f i r) → T (said us f (user_of us i) r)
  in_said f i r l h = some_at (length us) (has f (user_of us i) r) i l (both (eqb (user_of us i) (user_of us i)) (said_row f i r) (eqb_refl (user_of us i)) h)

  -- and is listed
  pub said_listed : (f : Facts) (u r : ℕ) → T (said us f u r) → T (listed us u)
  said_listed f u r h = let (i, l, e, t) = said_in f u r h in subst (λ (v : ℕ). T (listed us v)) e (at_listed us i l)

  pub said_grows : (f g : Facts) → Within f g → (u : User) → said us f u ⊑ said us g u
  said_grows f g up u r h =
      let (i, l, e, t) = said_in f u r h in
      let x : ℕ = roles * i + r in
      subst (λ (v : ℕ). T (said us g v r)) e (in_said g i r l (both (ltb r roles) (g x) (first (ltb r roles) (f x) t) (as_test (g x) (up x (as_true (f x) (second (ltb r roles) (f x) t))))))

  module _ (apart : Apart us) where
    -- the row of a slot's user
    pub said_at : (f : Facts) (i : ℕ) → i < length us → said us f (user_of us i) ≡ said_row f i
    said_at f i l = fun_ext (λ r. agree (said us f (user_of us i) r) (said_row f i r)
        (λ h. let (j, m, e, t) = said_in f (user_of us i) r h in subst (λ (k : ℕ). T (said_row f k r)) (one_place us apart j i m l e) t)
        (in_said f i r l))

    -- one more fact is one adding
    pub one_more : (f : Facts) (a i r n : ℕ) → i < length us → r < roles → said us (with f (roles * i + r)) ≡ after (adds a (user_of us i) r n) (said us f)
    one_more f a i r n l small = fun_ext (λ u. fun_ext (λ q. agree (said us g u q) (said us f u q || pair (user_of us i) r u q) (there u q) (back u q)))
      where
        g : Facts
        g = with f (roles * i + r)

        there : (u q : ℕ) → T (said us g u q) → T (said us f u q || pair (user_of us i) r u q)
        there u q h = go (said_in g u q h)
          where
            go : (j : ℕ) × (j < length us) × (user_of us j ≡ u) × T (said_row g j q) → T (said us f u q || pair (user_of us i) r u q)
            go (j, m, e, t) = pick (either (f x) (eqb x (roles * i + r)) (second (ltb q roles) (g x) t))
              where
                x : ℕ
                x = roles * j + q

                low : T (ltb q roles)
                low = first (ltb q roles) (g x) t

                pick : T (f x) ⊎ T (eqb x (roles * i + r)) → T (said us f u q || pair (user_of us i) r u q)
                pick (inl old) = or_left (said us f u q) (pair (user_of us i) r u q) (subst (λ (v : ℕ). T (said us f v q)) e (in_said f j q m (both (ltb q roles) (f x) low old)))
                pick (inr new) =
                    let q-small : q < roles = ltb→lt q roles low in
                    let same : roles * j + q ≡ roles * i + r = eqb→eq x (roles * i + r) new in
                    let e₁ : j ≡ i = omega arith in
                    let e₂ : q ≡ r = omega arith in
                    or_right (said us f u q) (pair (user_of us i) r u q) (both (eqb u (user_of us i)) (eqb q r)
                    (yes_eqb (sym e ∙ ap (user_of us) e₁)) (yes_eqb e₂))

        back : (u q : ℕ) → T (said us f u q || pair (user_of us i) r u q) → T (said us g u q)
        back u q h = elim (either (said us f u q) (pair (user_of us i) r u q) h) [
          | inl old ↦ said_grows f g (λ k t. as_true (g k) (or_left (f k) (eqb k (roles * i + r)) (as_test (f k) t))) u q old
          | inr new ↦
              let e = is_it (user_of us i) r u q new in
              subst₂ (λ (v w : ℕ). T (said us g v w)) (sym e.0) (sym e.1)
              (in_said g i r l (both (ltb r roles) (g (roles * i + r)) (lt→ltb r roles small) (or_right (f (roles * i + r)) (eqb (roles * i + r) (roles * i + r)) (eqb_refl (roles * i + r)))))
        ]

-- delegation keeps the law of step systems, whoever is listed
pub lawful : {R : Type 0} (change_of : R → Change) (p : Policy) (us : List User) → Lawful (delegation change_of p us)
lawful change_of p us = record {
  inside = λ n l. omega arith;
  grows = λ n f g up (l, (actor, (here, may))). (l, (actor, (here, may_grow p (said us f) (said us g) actor (user_of us (slot_of n)) (role_of n) (rule_number n) (said_grows us f g up actor) (said_grows us f g up (user_of us (slot_of n))) may)));
}

pub lawful_below : (p : Policy) (us : List User) → LawfulBelow (delegation (λ c. c) p us) list_places
lawful_below p us = record { law = lawful (λ c. c) p us; below = λ n l. omega arith }

adds_joined : (xs ys : List Change) → OnlyAdds xs → OnlyAdds ys → OnlyAdds (xs ++ ys)
adds_joined [] ys h k = k
adds_joined (adds a u r n ∷ xs) ys h k = adds_joined xs ys h k
adds_joined (removes a u r n ∷ xs) ys h k = absurd h

map_last : {A B : Type 0} (f : A → B) (xs : List A) (x : A) → map f (xs ++ (x ∷ [])) ≡ map f xs ++ (f x ∷ [])
map_last f [] x = refl
map_last f (y ∷ xs) x = ap (λ zs. f y ∷ zs) (map_last f xs x)

module _ {R : Type 0} (change_of : R → Change) (p : Policy) (us : List User) (few : length us ≤ tracked_users) (apart : Apart us) where
  abbrev Among : List Change → Type 0
  Among xs = Each (λ u. T (listed us u)) xs

  -- a run of addings so far
  pub record Made (s : State) (run : List Change) (t : State) : Type 0 where
    pub allowed : Run (moves p) s run
    pub adding : OnlyAdds run
    pub among : Among run
    pub leaves : end s run ≡ t

  -- a step taken is a permitted adding by and to listed users, and leaves what the facts then say
  step : (f : Facts) (n : ℕ) (x : R) → (delegation change_of p us).opens n f → f (n % list_places) ≡ false → (delegation change_of p us).records n f x
      → Made (said us f) (change_of x ∷ []) (said us (with f (n % list_places)))
  step f n x o fresh (actor, is, (here, may)) =
      let i : ℕ = slot_of n in
      let r : ℕ = role_of n in
      let l : i < length us = o.0 in
      let fact : n % list_places ≡ roles * i + r = omega arith in
      let small : r < roles = omega arith in
      let new : T (not (said us f (user_of us i) r)) = deny (said us f (user_of us i) r) (λ h.
      clash (f (n % list_places))
      (subst⁻¹ (λ (x : ℕ). T (f x)) fact (second (ltb r roles) (f (roles * i + r)) (subst (λ (row : ℕ → Bool). T (row r)) (said_at us apart f i l) h)))
      (as_denied (f (n % list_places)) fresh)) in
      let made : Made (said us f) (adds actor (user_of us i) r (rule_number n) ∷ []) (said us (with f (n % list_places))) = record {
        allowed = ((new, may), tt);
        adding = tt;
        among = (here, at_listed us i l, tt);
        leaves = sym (subst⁻¹ (λ (x : ℕ). said us (with f x) ≡ after (adds actor (user_of us i) r (rule_number n)) (said us f)) fact (one_more us apart f actor i r (rule_number n) l small));
      } in
      subst⁻¹ (λ (d : Change). Made (said us f) (d ∷ []) (said us (with f (n % list_places)))) is made

  pub traced : {start : Facts} {xs : List R} {f : Facts} → Trace (delegation change_of p us) start xs f → Made (said us start) (map change_of xs) (said us f)
  traced none = record { allowed = tt; adding = tt; among = tt; leaves = refl }
  traced {start} (more {rs = rs} {f = f} w n x lt o fresh is) =
      let s = said us start in
      let before = traced w in
      let now : Made (end s (map change_of rs)) (change_of x ∷ []) (said us (with f (n % list_places))) = subst⁻¹ (λ (t : State). Made t (change_of x ∷ []) (said us (with f (n % list_places)))) before.leaves (step f n x o fresh is) in
      subst⁻¹ (λ (cs : List Change). Made s cs (said us (with f (n % list_places)))) (map_last change_of rs x) (record {
        allowed = joined (moves p) s (map change_of rs) (change_of x ∷ []) before.allowed now.allowed;
        adding = adds_joined (map change_of rs) (change_of x ∷ []) before.adding now.adding;
        among = each_joined (λ u. T (listed us u)) (map change_of rs) (change_of x ∷ []) before.among now.among;
        leaves = ends s (map change_of rs) (change_of x ∷ []) ∙ now.leaves;
      })

  module _ (targets_inside : (k : ℕ) (rule : AssignRule) → Nth k rule p.assigns → (r : Role) → T (rule.targets r) → r < roles) where
    -- where no open step makes a new fact, nothing more can be added among the users listed
    pub closed : (f : Facts) → Shut (delegation change_of p us) f
        → (a u r n : ℕ) → T (listed us a) → T (listed us u) → MayAdd p (said us f) a u r n → T (said us f u r)
    closed f done a u r n la lu m = go (at_nth any_rule m.numbered) (at_place us u lu)
      where
        small : r < roles
        small = targets_inside n m.rule m.numbered r m.target

        go : (k : ℕ) × (n ≡ suc k) × (k < length p.assigns) × (get_or p.assigns k any_rule ≡ m.rule)
            → (place us u < length us) × (get_or us (place us u) 0 ≡ u) → T (said us f u r)
        go (k, number, below, same) (l, at) =
            let i : ℕ = place us u in
            let x : ℕ = list_places * k + (roles * i + r) in
            let low : r < roles = small in
            let e₁ : x / list_places ≡ k = omega arith in
            let e₂ : x % list_places ≡ roles * i + r = omega arith in
            let e₃ : slot_of x ≡ i = omega arith in
            let e₄ : role_of x ≡ r = omega arith in
            let e₅ : rule_number x ≡ n = omega arith in
            let who : user_of us (slot_of x) ≡ u = ap (user_of us) e₃ ∙ at in
            let may : MayAdd p (said us f) a (user_of us (slot_of x)) (role_of x) (rule_number x) =
            subst⁻¹ (λ (v : ℕ). MayAdd p (said us f) a v (role_of x) (rule_number x)) who (subst⁻¹ (λ (q : ℕ). MayAdd p (said us f) a u q (rule_number x)) e₄ (subst⁻¹ (λ (k : ℕ). MayAdd p (said us f) a u r k) e₅ m)) in
            let made : T (f (x % list_places)) = as_test (f (x % list_places)) (done x (omega arith) (omega arith, (a, (la, may)))) in
            subst (λ (v : ℕ). T (said us f v r)) at (in_said us f i r l (both (ltb r roles) (f (roles * i + r)) (lt→ltb r roles small) (subst (λ (y : ℕ). T (f y)) e₂ made)))

    pub run_among : {start : Facts} {xs : List R} {f : Facts} → Trace (delegation change_of p us) start xs f → Shut (delegation change_of p us) f → RunAmong p us (said us start) (map change_of xs) (said us f)
    run_among {f = f} w done =
        let x = traced w in
        record { lawful = x.allowed; adding = x.adding; among = x.among; ends = x.leaves; closed = closed f done }

each_more : (P Q : User → Type 0) → ((u : User) → P u → Q u) → (xs : List Change) → Each P xs → Each Q xs
each_more P Q f [] h = tt
each_more P Q f (adds a u r k ∷ xs) h = (f a h.0, f u h.1, each_more P Q f xs h.2)
each_more P Q f (removes a u r k ∷ xs) h = (f a h.0, f u h.1, each_more P Q f xs h.2)

map_same : {A : Type 0} (xs : List A) → map (λ x. x) xs ≡ xs
map_same [] = refl
map_same (x ∷ xs) = ap (λ ys. x ∷ ys) (map_same xs)

-- such a run from the present state is a closing
pub among_closing : {p : Policy} {s : State} (k : Tracking p s) (us : List User) → InSlots k us → (run : List Change) (f : Facts) (n : ℕ)
    → length run ≤ n → RunAmong p us s run (said us f) → IsRun k us run f n
among_closing {p} {s} k us z run f n short w = record {
  closing = record {
    lawful = w.lawful;
    adding = w.adding;
    closed = subst⁻¹ (λ (t : State). ClosedAmongTracked (moves p) k t) w.ends (λ a u r n la lu m. w.closed a u r n ((z.looked a).1 la) ((z.looked u).1 lu) m);
  };
  looked = each_more (λ u. T (listed us u)) (TrackedOrHire k) (λ u. (z.looked u).0) run w.among;
  ends = w.ends;
  short = short;
}

pub is_run : {p : Policy} {s : State} → WithinMeasures p s → (k : Tracking p s) (us : List User) → InSlots k us → (start : Facts) → ((u : User) (r : Role) → said us start u r ≡ s u r)
    → (run : List Change) (f : Facts) → Trace (delegation (λ c. c) p us) start run f → Shut (delegation (λ c. c) p us) f → IsRun k us run f list_places
is_run {p} {s} board k us z start starts run f w done =
    let x = run_among (λ c. c) p us z.few z.apart board.targets_inside w done in
    among_closing k us z run f list_places (trace_short (delegation (λ c. c) p us) (lawful (λ c. c) p us) start w)
    (subst (λ (t : State). RunAmong p us t run (said us f)) (fun_ext (λ u. fun_ext (λ r. starts u r))) (subst (λ (cs : List Change). RunAmong p us (said us start) cs (said us f)) (map_same run) x))
