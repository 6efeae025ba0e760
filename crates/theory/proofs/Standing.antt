-- One hire stands for all users that are not tracked.
use Rattle.std.proofs.Common.{◌≡◌, ℕ, Bool, true, false, cond, not, T, ◌⊎◌, List, [], ◌∷◌, sym, refl, subst, inl, inr}
use mathlib.Core.Path.{subst⁻¹}
use Rattle.std.proofs.lemmas.Bool.{cases_eq}
use Rattle.meaning.specs.Measures.{users}
use Rattle.meaning.specs.Membership.{User, IsUser, State}
use Rattle.meaning.specs.Rules.{Policy}
use Rattle.meaning.specs.Runs.{Change, adds, removes, pair, after, Moves, moves, Permitted, Run, end}
use Rattle.theory.specs.Reach.{◌⊑◌, ◌⊆◌, ClosedState, Reaches}
use Rattle.theory.specs.Hire.{Tracking, representative, by_representatives, TrackedOrHire, Closing, IsGreatestState}
use Rattle.meaning.specs.Witnesses.{OnlyAdds}
use Rattle.theory.specs.Laws.{Delegable}
use Rattle.meaning.proofs.Tests.{either, decide, is_it}
use Rattle.theory.proofs.Growing as Growing
use Rattle.theory.proofs.Runs.{add_above, add_below, still, stay, onward, ensure, removed_revocable}

pub grown : (s : State) (run : List Change) → OnlyAdds run → s ⊆ end s run
grown s [] o = λ u r h. h
grown s (adds a u r k ∷ xs) o = λ v q h. grown (after (adds a u r k) s) xs o v q (add_above s a u r k v q h)
grown s (removes a u r k ∷ xs) o = absurd o

-- the one that stands for a user
stand_old : (b : Bool) (u h : ℕ) → T b → cond b u h ≡ u
stand_old true u h t = refl
stand_old false u h t = absurd t

stand_new : (b : Bool) (u h : ℕ) → T (not b) → cond b u h ≡ h
stand_new true u h t = absurd t
stand_new false u h t = refl

module _ {p : Policy} {s : State} (k : Tracking p s) where
  pub old : (u : User) → T (k.tracked u) → representative k u ≡ u
  old u t = stand_old (k.tracked u) u k.hire t

  pub new : (u : User) → T (not (k.tracked u)) → representative k u ≡ k.hire
  new u t = stand_new (k.tracked u) u k.hire t

  -- what holds of a tracked user, and of the hire where u is not tracked, holds of who stands for u
  pub by_stand : (P : User → Type 0) (u : User) → (T (k.tracked u) → P u) → (T (not (k.tracked u)) → P k.hire) → P (representative k u)
  by_stand P u f g = go (decide (k.tracked u))
    where
      go : T (k.tracked u) ⊎ T (not (k.tracked u)) → P (representative k u)
      go (inl t) = subst⁻¹ P (old u t) (f t)
      go (inr t) = subst⁻¹ P (new u t) (g t)

  looked : (u : User) → TrackedOrHire k (representative k u)
  looked u = by_stand (TrackedOrHire k) u (λ t. inl t) (λ t. inr refl)

  module _ (m : Moves) (law : Delegable m k) where
    -- Along a run of addings from s, a state above s can be taken to one above the run's end, in which v has all that the hire has at the run's end.
    module _ (v : User) (v-user : IsUser v) (v-new : T (not (k.tracked v))) where
      abbrev h : User
      h = k.hire

      abbrev Ahead : State → State → Type 0
      Ahead s t = (s ⊆ t) × (s h ⊑ t v)

      step : (s t : State) (a u r n : ℕ) → Permitted m s (adds a u r n) → Ahead s t → Reaches m t (λ t'. Ahead (after (adds a u r n) s) t')
      step s t a u r n may ahead = onward m One Two t one (λ t₁ o. two t₁ o (cases_eq u h))
        where
          s' : State
          s' = after (adds a u r n) s

          One : State → Type 0
          One t₁ = (s' ⊆ t₁) × (t ⊆ t₁)

          Two : State → Type 0
          Two t₂ = Ahead s' t₂

          one : Reaches m t One
          one =
              onward m (λ t₁. (t ⊆ t₁) × T (t₁ u r)) One t
              (ensure m t a u r n (law.grows s t a u r n (ahead.0 a) (ahead.0 u) may.1))
              (λ t₁ e. stay m One t₁ (add_below s t₁ a u r n (λ w q i. e.0 w q (ahead.0 w q i)) e.1, e.0))

          two : (t₁ : State) → One t₁ → (u ≡ h) ⊎ (u ≡ h → ⊥) → Reaches m t₁ Two
          two t₁ o (inl e) =
              onward m (λ t₂. (t₁ ⊆ t₂) × T (t₂ v r)) Two t₁
              (ensure m t₁ a v r n (law.others_get s t₁ a u v r n (subst⁻¹ (λ (w : User). T (not (k.tracked w))) e k.hire_not_tracked) v-new v-user
              (λ q i. o.1 a q (ahead.0 a q i)) (λ q i. o.1 v q (ahead.1 q (subst (λ (w : User). T (s w q)) e i))) may.1))
              (λ t₂ g. stay m Two t₂ ((λ w q i. g.0 w q (o.0 w q i)), λ q i. row t₂ g q (either (s h q) (pair u r h q) i)))
            where
              row : (t₂ : State) → (t₁ ⊆ t₂) × T (t₂ v r) → (q : ℕ) → T (s h q) ⊎ T (pair u r h q) → T (t₂ v q)
              row t₂ g q (inl i) = g.0 v q (o.1 v q (ahead.1 q i))
              row t₂ g q (inr i) = subst⁻¹ (λ (q : ℕ). T (t₂ v q)) (is_it u r h q i).1 g.1
          two t₁ o (inr e) = stay m Two t₁ (o.0, λ q i. row q (either (s h q) (pair u r h q) i))
            where
              row : (q : ℕ) → T (s h q) ⊎ T (pair u r h q) → T (t₁ v q)
              row q (inl i) = o.1 v q (ahead.1 q i)
              row q (inr i) = absurd (e (sym (is_it u r h q i).0))

      pub replay : (run : List Change) (s t : State) → OnlyAdds run → Run m s run → Ahead s t → Reaches m t (λ t'. Ahead (end s run) t')
      replay [] s t o r ahead = stay m (λ t'. Ahead s t') t ahead
      replay (adds a u q n ∷ xs) s t o r ahead =
          onward m (λ t'. Ahead (after (adds a u q n) s) t') (λ t'. Ahead (end (after (adds a u q n) s) xs) t') t
          (step s t a u q n r.0 ahead)
          (λ t' more. replay xs (after (adds a u q n) s) t' o r.1 more)
      replay (removes a u q n ∷ xs) s t o r ahead = absurd o

    module _ (run : List Change) (c : Closing m k run) where
      abbrev top : State
      top = end s run

      above : s ⊆ by_representatives k top
      above u r h = by_stand (λ v. T (top v r)) u (λ t. grown s run c.adding u r h) (λ t. absurd (k.others_hold_nothing u r t h))

      -- users that are not tracked have the hire's row
      same : (u : User) → T (not (k.tracked u)) → by_representatives k top u ⊑ by_representatives k top k.hire
      same u t q i = subst⁻¹ (λ (w : User). T (top w q)) (new k.hire k.hire_not_tracked) (subst (λ (w : User). T (top w q)) (new u t) i)

      -- who may add something to whom after the closing, may do it as those who stand for them
      acts : (a u r n : ℕ) → m.may_add (by_representatives k top) a u r n → m.may_add (by_representatives k top) (representative k a) u r n
      acts a u r n may = by_stand (λ b. m.may_add (by_representatives k top) b u r n) a (λ t. may)
          (λ t. law.hire_acts (by_representatives k top) (by_representatives k top) a u r n t (same a t) (λ q i. i) may)

      gets : (a u r n : ℕ) → m.may_add (by_representatives k top) a u r n → m.may_add (by_representatives k top) a (representative k u) r n
      gets a u r n may = by_stand (λ b. m.may_add (by_representatives k top) a b r n) u (λ t. may)
          (λ t. law.others_get (by_representatives k top) (by_representatives k top) a u k.hire r n t k.hire_not_tracked k.hire_is_user (λ q i. i) (same u t) may)

      -- who stands for somebody stands for itself
      self : (u : User) → representative k (representative k u) ≡ representative k u
      self u = by_stand (λ v. representative k v ≡ v) u (λ t. old u t) (λ t. new k.hire k.hire_not_tracked)

      here : (u : User) → by_representatives k top (representative k u) ⊑ top (representative k u)
      here u q i = subst (λ (w : User). T (top w q)) (self u) i

      closed : ClosedState m (by_representatives k top)
      closed a u r n may = c.closed (representative k a) (representative k u) r n (looked a) (looked u)
          (law.grows (by_representatives k top) top (representative k a) (representative k u) r n (here a) (here u) (gets (representative k a) u r n (acts a u r n may)))

      each : (u : User) → IsUser u → Reaches m s (λ t. by_representatives k top u ⊑ t u)
      each u u-user = go (decide (k.tracked u))
        where
          go : T (k.tracked u) ⊎ T (not (k.tracked u)) → Reaches m s (λ t. by_representatives k top u ⊑ t u)
          go (inl t) = (run, c.lawful, λ r h. subst (λ (w : User). T (top w r)) (old u t) h)
          go (inr t) =
              onward m (λ t'. (top ⊆ t') × (top k.hire ⊑ t' u)) (λ t'. by_representatives k top u ⊑ t' u) s
              (replay u u-user t run s s c.adding c.lawful ((λ v r h. h), λ r h. absurd (k.others_hold_nothing k.hire r k.hire_not_tracked h)))
              (λ t' a. stay m (λ t'. by_representatives k top u ⊑ t' u) t' (λ r h. a.1 r (subst (λ (w : User). T (top w r)) (new u t) h)))

      pub for_everybody : IsGreatestState m k top users
      for_everybody = record { above = above; closed = closed; each = each }

-- the rules of a policy keep the laws
pub delegable : (p : Policy) (s : State) (k : Tracking p s) → Delegable (moves p) k
delegable p s k = record {
  grows = still p;
  hire_acts = λ t t' a u r n _ actor user may. record {
    an_actor = k.hire_is_user;
    a_user = may.a_user;
    untrusted = k.hire_not_trusted;
    rule = may.rule;
    numbered = may.numbered;
    target = may.target;
    administers = Growing.member p.edge (t a) (t' k.hire) actor may.rule.admin may.administers;
    meets = Growing.meets p.edge (t u) (t' u) user may.rule.condition may.meets;
  };
  others_get = λ t t' a u v r n _ _ v-user actor user may. record {
    an_actor = may.an_actor;
    a_user = v-user;
    untrusted = may.untrusted;
    rule = may.rule;
    numbered = may.numbered;
    target = may.target;
    administers = Growing.member p.edge (t a) (t' a) actor may.rule.admin may.administers;
    meets = Growing.meets p.edge (t u) (t' v) user may.rule.condition may.meets;
  };
  removable = removed_revocable p;
}
