-- Runs: what each change keeps, a run keeps.
use Rattle.std.proofs.Common.{◌≡◌, ℕ, not, T, ◌⊎◌, List, [], ◌∷◌, ◌++◌, sym, refl, subst, subst₂, inl, inr}
use mathlib.Core.Path.{subst⁻¹, fun_ext}
use Rattle.meaning.specs.Membership.{State}
use Rattle.meaning.specs.Rules.{Policy, MayAdd, MayRemove, RevokeRule}
use Rattle.meaning.specs.Runs.{Change, adds, removes, pair, after, Moves, moves, Permitted, Run, end, Always}
use Rattle.meaning.specs.Regimes.{Revocable, Aatu}
use Rattle.theory.specs.Reach.{◌⊑◌, ◌⊆◌, revocable, least_state, ClosedState, Reaches}
use Rattle.meaning.proofs.Tests.{either, or_left, or_right, first, second, both, clash, deny, decide, agree, is_it, it_is}
use Rattle.theory.proofs.Revocable.{gives_revocable}
use Rattle.theory.proofs.Growing as Growing

-- what the changes of a run keep, the run keeps
pub keeps :
    (m : Moves) (P : State → Type 0) → ((t : State) (x : Change) → Permitted m t x → P t → P (after x t))
    → (s : State) (run : List Change) → Run m s run → P s → P (end s run)
keeps m P step s [] r h = h
keeps m P step s (x ∷ xs) r h = keeps m P step (after x s) xs r.1 (step s x r.0 h)

pub add_above : (s : State) (a u r k : ℕ) → s ⊆ after (adds a u r k) s
add_above s a u r k v q h = or_left (s v q) (pair u r v q) h

pub add_below : (s c : State) (a u r k : ℕ) → s ⊆ c → T (c u r) → after (adds a u r k) s ⊆ c
add_below s c a u r k below h v q m = go (either (s v q) (pair u r v q) m)
  where
    go : T (s v q) ⊎ T (pair u r v q) → T (c v q)
    go (inl i) = below v q i
    go (inr i) = let e = is_it u r v q i in subst₂ (λ (v q : ℕ). T (c v q)) (sym e.0) (sym e.1) h

pub remove_below : (s : State) (a u r k : ℕ) → after (removes a u r k) s ⊆ s
remove_below s a u r k v q h = first (s v q) (not (pair u r v q)) h

-- one run after another
pub joined : (m : Moves) (s : State) (xs ys : List Change) → Run m s xs → Run m (end s xs) ys → Run m s (xs ++ ys)
joined m s [] ys r q = q
joined m s (x ∷ xs) ys r q = (r.0, joined m (after x s) xs ys r.1 q)

pub ends : (s : State) (xs ys : List Change) → end s (xs ++ ys) ≡ end (end s xs) ys
ends s [] ys = refl
ends s (x ∷ xs) ys = ends (after x s) xs ys

pub stay : (m : Moves) (P : State → Type 0) (s : State) → P s → Reaches m s P
stay m P s h = ([], tt, h)

pub onward :
    (m : Moves) (P Q : State → Type 0) (s : State) → Reaches m s P → ((t : State) → P t → Reaches m t Q) → Reaches m s Q
onward m P Q s (xs, r, h) more =
    let (ys, q, k) = more (end s xs) h in
    (xs ++ ys, joined m s xs ys r q, subst⁻¹ Q (ends s xs ys) k)

-- a run to a state in which the pair is assigned too
pub ensure :
    (m : Moves) (t : State) (a u r k : ℕ) → m.may_add t a u r k → Reaches m t (λ t'. (t ⊆ t') × T (t' u r))
ensure m t a u r k may = go (decide (t u r))
  where
    go : T (t u r) ⊎ T (not (t u r)) → Reaches m t (λ t'. (t ⊆ t') × T (t' u r))
    go (inl here) = ([], tt, ((λ v q h. h), here))
    go (inr new) = (
      adds a u r k ∷ [],
      ((new, may), tt),
      (add_above t a u r k, or_right (t u r) (pair u r u r) (it_is u r)),
    )

-- where addings grow with the state, no run leaves a closed state above the present one
module _ (m : Moves) (grows : (t t' : State) (a u r n : ℕ) → t ⊆ t' → m.may_add t a u r n → m.may_add t' a u r n) (c : State) (closed : ClosedState m c) where
  under : (t : State) (x : Change) → Permitted m t x → t ⊆ c → after x t ⊆ c
  under t (adds a u r k) h below = add_below t c a u r k below (closed a u r k (grows t c a u r k below h.1))
  under t (removes a u r k) h below = λ v q i. below v q (remove_below t a u r k v q i)

  pub enclosed : (s : State) → s ⊆ c → Always m s (λ t. t ⊆ c)
  enclosed s above run r = keeps m (λ t. t ⊆ c) under s run r above

-- where only what revoke rules target is removed, no run takes from the floor
module _ (m : Moves) (p : Policy) (removable : (t : State) (a u r n : ℕ) → m.may_remove t a u r n → Revocable p r) (s : State) where
  pub above_floor : (t : State) (x : Change) → Permitted m t x → least_state p s ⊆ t → least_state p s ⊆ after x t
  above_floor t (adds a u r k) h above v q i = add_above t a u r k v q (above v q i)
  above_floor t (removes a u r k) h above v q i = both (t v q) (not (pair u r v q)) (above v q i) (deny (pair u r v q) gone)
    where
      gone : T (pair u r v q) → ⊥
      gone j =
          let (n, rule, nth, target) = removable t a u r k h.1 in
          let out : T (revocable p.revokes q) = subst⁻¹ (λ (q : ℕ). T (revocable p.revokes q)) (is_it u r v q j).1 (gives_revocable nth r target) in
          clash (revocable p.revokes q) out (second (s v q) (not (revocable p.revokes q)) i)

  pub floored : Always m s (λ t. least_state p s ⊆ t)
  floored run r = keeps m (λ t. least_state p s ⊆ t) above_floor s run r (λ u q i. first (s u q) (not (revocable p.revokes q)) i)

-- with no revoke rule, the floor is the state
pub whole : (p : Policy) (s : State) → Aatu p → least_state p s ≡ s
whole p s none = fun_ext (λ u. fun_ext (λ r. agree (least_state p s u r) (s u r)
    (λ h. first (s u r) (not (revocable p.revokes r)) h)
    (λ h. both (s u r) (not (revocable p.revokes r)) h (deny (revocable p.revokes r) (λ t. subst (λ (rules : List RevokeRule). T (revocable rules r)) none t)))))

-- what the rules of a policy permit grows with the rows of actor and user
module _ (p : Policy) (s t : State) where
  pub still : (a u r k : ℕ) → s a ⊑ t a → s u ⊑ t u → MayAdd p s a u r k → MayAdd p t a u r k
  still a u r k actor user m = record {
    an_actor = m.an_actor;
    a_user = m.a_user;
    untrusted = m.untrusted;
    rule = m.rule;
    numbered = m.numbered;
    target = m.target;
    administers = Growing.member p.edge (s a) (t a) actor m.rule.admin m.administers;
    meets = Growing.meets p.edge (s u) (t u) user m.rule.condition m.meets;
  }

pub removed_revocable : (p : Policy) (t : State) (a u r n : ℕ) → MayRemove p t a u r n → Revocable p r
removed_revocable p t a u r n m = (n, m.rule, m.numbered, m.target)

pub between :
    (p : Policy) (s c : State) → s ⊆ c → ClosedState (moves p) c → Always (moves p) s (λ t. (least_state p s ⊆ t) × (t ⊆ c))
between p s c above closed run r = (
  floored (moves p) p (removed_revocable p) s run r,
  enclosed (moves p) (λ t t' a u q n more. still p t t' a u q n (more a) (more u)) c closed s above run r,
)

pub nothing_lost_lem : (p : Policy) (s : State) → Aatu p → Always (moves p) s (λ t. s ⊆ t)
nothing_lost_lem p s none run r = subst (λ (f : State). f ⊆ end s run) (whole p s none) (floored (moves p) p (removed_revocable p) s run r)
