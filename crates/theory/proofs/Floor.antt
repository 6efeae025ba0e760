-- A run of removings that leaves only what cannot be revoked.
use Rattle.std.proofs.Common.{ℕ, zero, suc, ◌+◌, ◌*◌, ◌<◌, ◌≤◌, Bool, not, ◌&&◌, T, eqb, ◌⊎◌, List, [], ◌∷◌, ◌++◌, length, sym, refl, subst, inl, inr, not-suc-le-zero, arith, eqb→eq, length-append}
use mathlib.Core.Path.{subst⁻¹, fun_ext}
use Rattle.std.proofs.lemmas.Bool.{cases_eq}
use Rattle.meaning.specs.Measures.{roles, rows}
use Rattle.meaning.specs.Lists.{listed}
use Rattle.meaning.specs.Membership.{User, Role, IsUser, State, Member, same}
use Rattle.meaning.specs.Rules.{Policy, MayRemove, Regime, aatu, aar}
use Rattle.meaning.specs.Runs.{Change, adds, removes, pair, moves, Run, end, Always}
use Rattle.meaning.specs.Regimes.{Administers, Aatu, Aar, ObeysRegime}
use Rattle.theory.specs.Reach.{◌⊆◌, revocable, least_state}
use Rattle.meaning.specs.Rows.{Holder}
use Rattle.theory.specs.Bounds.{WithinMeasures}
use Rattle.meaning.specs.Witnesses.{OnlyRemoves, Each}
use Rattle.theory.specs.Removing.{RunToLeastState}
use Rattle.meaning.proofs.Tests.{either, first, second, both, decide, deny, clash, agree, it_is}
use Rattle.theory.proofs.Revocable.{revocable_gives}
use Rattle.theory.proofs.Runs.{remove_below, above_floor, floored, joined, ends, whole, removed_revocable}

-- one list of changes after another
pub each_joined : (P : User → Type 0) (xs ys : List Change) → Each P xs → Each P ys → Each P (xs ++ ys)
each_joined P [] ys h k = k
each_joined P (adds a u r n ∷ xs) ys h k = (h.0, h.1, each_joined P xs ys h.2 k)
each_joined P (removes a u r n ∷ xs) ys h k = (h.0, h.1, each_joined P xs ys h.2 k)

pub removes_joined : (xs ys : List Change) → OnlyRemoves xs → OnlyRemoves ys → OnlyRemoves (xs ++ ys)
removes_joined [] ys h k = k
removes_joined (adds a u r n ∷ xs) ys h k = absurd h
removes_joined (removes a u r n ∷ xs) ys h k = removes_joined xs ys h k

-- the roles of aar that administer are never revoked
pub stays : (p : Policy) (s : State) → Aar p s → (r : Role) → Administers p r → T (not (revocable p.revokes r))
stays p s reg r admin = deny (revocable p.revokes r) (λ out. reg.no_targets r admin (inr (revocable_gives p.revokes r out)))

pub acted :
    (p : Policy) (s : State) → Aar p s → (r : Role) → Administers p r
    → Always (moves p) s (λ t. (a : User) × IsUser a × T (not (p.trusted a)) × Member p.edge (t a) r)
acted p s reg r admin run w =
    let (a, a_user, h) = reg.assigned r admin in
    (a, a_user, reg.nobody_trusted a, (r, same, floored (moves p) p (removed_revocable p) s run w a r (both (s a r) (not (revocable p.revokes r)) h (stays p s reg r admin))))

module _ (p : Policy) (s : State) (reg : Aar p s) (board : WithinMeasures p s) where
  abbrev out : Role → Bool
  out r = revocable p.revokes r

  -- a run down from t, in at most n steps, to a state of which P holds
  record Down (t : State) (n : ℕ) (P : State → Type 0) : Type 0 where
    run : List Change
    lawful : Run (moves p) t run
    removing : OnlyRemoves run
    rowed : Each (Holder s) run
    short : length run ≤ n
    above : least_state p s ⊆ end t run
    below : end t run ⊆ t
    at : P (end t run)

  stop : (t : State) (P : State → Type 0) → least_state p s ⊆ t → P t → Down t 0 P
  stop t P above h = record { run = []; lawful = tt; removing = tt; rowed = tt; short = omega arith; above = above; below = λ u r i. i; at = h }

  go_on : (t : State) (n k : ℕ) (P Q : State → Type 0) → Down t n P → ((t' : State) → least_state p s ⊆ t' → t' ⊆ t → P t' → Down t' k Q) → Down t (n + k) Q
  go_on t n k P Q d f =
      let e = f (end t d.run) d.above d.below d.at in
      let there = ends t d.run e.run in
      let l₁ = d.short in
      let l₂ = e.short in
      record {
        run = d.run ++ e.run;
        lawful = joined (moves p) t d.run e.run d.lawful e.lawful;
        removing = removes_joined d.run e.run d.removing e.removing;
        rowed = each_joined (Holder s) d.run e.run d.rowed e.rowed;
        short = simp length-append (omega arith);
        above = subst⁻¹ (λ (x : State). least_state p s ⊆ x) there e.above;
        below = subst⁻¹ (λ (x : State). x ⊆ t) there (λ u r i. d.below u r (e.below u r i));
        at = subst⁻¹ Q there e.at;
      }

  -- the same with room for more steps
  roomy : (t : State) (n k : ℕ) (P : State → Type 0) → n ≤ k → Down t n P → Down t k P
  roomy t n k P le d =
      let l = d.short in
      record { run = d.run; lawful = d.lawful; removing = d.removing; rowed = d.rowed; short = omega arith; above = d.above; below = d.below; at = d.at }

  -- one pair is taken away, in at most one step
  drop : (t : State) (u r : ℕ) → t ⊆ s → T (out r) → least_state p s ⊆ t → Down t 1 (λ t'. T (not (t' u r)))
  drop t u r below gone above = go (decide (t u r))
    where
      go : T (t u r) ⊎ T (not (t u r)) → Down t 1 (λ t'. T (not (t' u r)))
      go (inr new) = roomy t 0 1 (λ t'. T (not (t' u r))) (omega arith) (stop t (λ t'. T (not (t' u r))) above new)
      go (inl here) =
          let (n, rule, nth, target) = revocable_gives p.revokes r gone in
          let admin : Administers p rule.admin = inr (n, rule, nth, refl) in
          let (a, a_user, has) = reg.assigned rule.admin admin in
          let may : MayRemove p t a u r n = record {
            an_actor = a_user;
            a_user = (board.assigned_inside u r (below u r here)).0;
            rule = rule;
            numbered = nth;
            target = target;
            administers = (rule.admin, same, above a rule.admin (both (s a rule.admin) (not (out rule.admin)) has (stays p s reg rule.admin admin)));
          } in
          record {
            run = removes a u r n ∷ [];
            lawful = ((here, may), tt);
            removing = tt;
            rowed = ((rule.admin, has), (r, below u r here), tt);
            short = omega arith;
            above = above_floor (moves p) p (removed_revocable p) s t (removes a u r n) (here, may) above;
            below = remove_below t a u r n;
            at = deny (t u r && not (pair u r u r)) (λ h. clash (pair u r u r) (it_is u r) (second (t u r) (not (pair u r u r)) h));
          }

  -- the roles below n are taken from u; all roles are taken from these users
  abbrev RowDone : ℕ → ℕ → State → Type 0
  RowDone u n t = (r : ℕ) → r < n → T (out r) → T (not (t u r))

  abbrev Done : List ℕ → State → Type 0
  Done us t = (u : ℕ) → T (listed us u) → RowDone u roles t

  lower : (t t' : State) (u r : ℕ) → t' ⊆ t → T (not (t u r)) → T (not (t' u r))
  lower t t' u r below h = deny (t' u r) (λ i. clash (t u r) (below u r i) h)

  row : (n u : ℕ) (t : State) → t ⊆ s → least_state p s ⊆ t → Down t n (RowDone u n)
  row zero u t below above = stop t (RowDone u 0) above (λ r l. absurd (not-suc-le-zero l))
  row (suc n) u t below above =
      roomy t (n + 1) (suc n) (RowDone u (suc n)) (omega arith)
      (go_on t n 1 (RowDone u n) (RowDone u (suc n)) (row n u t below above) (λ t' above' below' h. one t' above' (λ v q i. below v q (below' v q i)) h (decide (out n))))
    where
      one : (t' : State) → least_state p s ⊆ t' → t' ⊆ s → RowDone u n t' → T (out n) ⊎ T (not (out n)) → Down t' 1 (RowDone u (suc n))
      one t' above' below' h (inr kept) = roomy t' 0 1 (RowDone u (suc n)) (omega arith) (stop t' (RowDone u (suc n)) above' all)
        where
          all : RowDone u (suc n) t'
          all r l gone = elim (cases_eq r n) [
            | inl e ↦ absurd (clash (out n) (subst (λ (r : ℕ). T (out r)) e gone) kept)
            | inr e ↦ h r (omega arith) gone
          ]
      one t' above' below' h (inl gone) =
          go_on t' 1 0 (λ t''. T (not (t'' u n))) (RowDone u (suc n)) (drop t' u n below' gone above')
          (λ t'' above'' below'' i. stop t'' (RowDone u (suc n)) above'' (all t'' below'' i))
        where
          all : (t'' : State) → t'' ⊆ t' → T (not (t'' u n)) → RowDone u (suc n) t''
          all t'' below'' i r l r-gone = elim (cases_eq r n) [
            | inl e ↦ subst⁻¹ (λ (r : ℕ). T (not (t'' u r))) e i
            | inr e ↦ lower t' t'' u r below'' (h r (omega arith) r-gone)
          ]

  users : (us : List ℕ) (t : State) → t ⊆ s → least_state p s ⊆ t → Down t (length us * roles) (Done us)
  users [] t below above = stop t (Done []) above (λ u l. absurd l)
  users (x ∷ us) t below above =
      roomy t (length us * roles + roles) (length (x ∷ us) * roles) (Done (x ∷ us)) (omega arith)
      (go_on t (length us * roles) roles (Done us) (Done (x ∷ us)) (users us t below above)
      (λ t' above' below' h. go_on t' roles 0 (RowDone x roles) (Done (x ∷ us)) (row roles x t' (λ v q i. below v q (below' v q i)) above')
      (λ t'' above'' below'' g. stop t'' (Done (x ∷ us)) above'' (all t' t'' below'' h g))))
    where
      all : (t' t'' : State) → t'' ⊆ t' → Done us t' → RowDone x roles t'' → Done (x ∷ us) t''
      all t' t'' below'' h g u i r l gone = elim (either (eqb u x) (listed us u) i) [
        | inl e ↦ subst⁻¹ (λ (u : ℕ). T (not (t'' u r))) (eqb→eq u x e) (g r l gone)
        | inr e ↦ lower t' t'' u r below'' (h u e r l gone)
      ]

  pub falls : (run : List Change) × RunToLeastState (moves p) p s (rows * roles) run
  falls =
      let d = users board.row_holders s (λ u r i. i) (λ u r i. first (s u r) (not (out r)) i) in
      let l₁ = d.short in
      let l₂ = board.few_rows in (
        d.run,
        record {
          lawful = d.lawful;
          removing = d.removing;
          rowed = d.rowed;
          short = omega arith;
          ends = fun_ext (λ u. fun_ext (λ r. agree (end s d.run u r) (least_state p s u r) (left (end s d.run) d.below d.at u r) (d.above u r)));
        },
      )
    where
      left : (t : State) → t ⊆ s → Done board.row_holders t → (u r : ℕ) → T (t u r) → T (least_state p s u r)
      left t below done u r i = both (s u r) (not (out r)) (below u r i) (deny (out r) (λ gone.
          clash (t u r) i (done u (board.all_row_holders u (r, below u r i)) r (board.assigned_inside u r (below u r i)).1 gone)))

-- which regime it is
pub by_regime : (p : Policy) (s : State) → ObeysRegime p s → Aatu p ⊎ Aar p s
by_regime p s h = go p.regime h
  where
    go : (r : Regime) → (let E : Type 0 = elim r [ aatu ↦ Aatu p | aar ↦ Aar p s ] in E) → Aatu p ⊎ Aar p s
    go aatu h = inl h
    go aar h = inr h

-- in both regimes the floor is reached by removing, under aatu at once
pub lowest : (p : Policy) (s : State) → WithinMeasures p s → ObeysRegime p s → (run : List Change) × RunToLeastState (moves p) p s (rows * roles) run
lowest p s board reg = go (by_regime p s reg)
  where
    go : Aatu p ⊎ Aar p s → (run : List Change) × RunToLeastState (moves p) p s (rows * roles) run
    go (inl none) = ([], record { lawful = tt; removing = tt; rowed = tt; short = omega arith; ends = sym (whole p s none) })
    go (inr reg) = falls p s reg board
