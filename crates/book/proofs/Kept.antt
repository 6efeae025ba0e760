-- What is put in and what is taken out keep a book orderly.
use Rattle.std.proofs.Common.{◌≡◌, ℕ, suc, ◌<◌, ◌≤◌, Bool, not, ◌&&◌, ◌||◌, T, eqb, List, [], ◌∷◌, ◌++◌, length, refl, inl, inr, ⊎_elim, arith, eqb→eq}
use mathlib.Core.Path.{subst⁻¹}
use Rattle.std.proofs.lemmas.Bool.{cases_lt}
use Rattle.meaning.specs.Measures as measures
use Rattle.meaning.specs.Membership.{User, Role, Permission, IsUser, State, Edges}
use Rattle.meaning.specs.Rules.{AssignRule, RevokeRule, aatu, aar, Policy, Regime as RegimeMeant}
use Rattle.meaning.specs.Lists.{Nth, listed, Apart}
use Rattle.meaning.specs.Requirements.{Requirement}
use Rattle.meaning.specs.Rows.{Holders}
use Rattle.meaning.proofs.Tests.{either, first, second}
use Rattle.book.specs.Book.{Book, Entry, pairs, gifts, edges, trusts, assigns, revokes, requires, put, Took, plus, minus, with_state, with_policy, with_requirements}
use Rattle.book.specs.Grounds.{NoRow, AllTrusted}
use Rattle.book.specs.Orderly.{Orderly, NoCircle, Said, Once}
use Rattle.book.specs.Refusals.{entered, NoneApplies}
use Rattle.texts.specs.declared.faults.Way.TheVariants.{Add}
use Rattle.book.proofs.Inside.{Inside, inside}
use Rattle.book.proofs.Listing.{snoc_split, snoc_once, snoc_length, still_there, without_once, without_length}
use Rattle.book.proofs.Ordered.{state_orderly}
use Rattle.book.proofs.Rowed.{few_after}
use Rattle.book.proofs.Seniority.{grown_no_circle, fewer_no_circle}
use Rattle.book.proofs.Trusting.{few_trusted_after}
use Rattle.book.proofs.Parts.{with_edges, with_gives, with_trusted, with_assigns, with_revokes}
use Rattle.book.proofs.Sayings.{RuleSaid, RevokeSaid}

module _ (b : Book) (o : Orderly b) where
  -- ---- pairs

  pub with_pairs : (u : User) (rs : List Role) → Inside (pairs u rs) → (NoRow b u → ⊥) → Orderly (put (pairs u rs) b)
  with_pairs u rs (a_user, small) room = state_orderly b (plus b.state u rs) o
      (λ v q t. ⊎_elim
      (λ h. o.assigned_inside v q h)
      (λ h. (subst⁻¹ IsUser (eqb→eq v u (first (eqb v u) (listed rs q) h)) a_user, small q (second (eqb v u) (listed rs q) h)))
      (either (b.state v q) (eqb v u && listed rs q) t))
      (few_after b.state (plus b.state u rs) u
      (λ v ne (q, t). ⊎_elim (λ h. (q, h)) (λ h. absurd (ne (eqb→eq v u (first (eqb v u) (listed rs q) h)))) (either (b.state v q) (eqb v u && listed rs q) t))
      o.few_rows
      (λ none us apart held. ⊎_elim
      (λ l. l)
      (λ (full : measures.rows ≤ length us). absurd (room (record { none = none; full = λ free. (let l : length us < measures.rows = free us apart held in impossible (length us) l full) })))
      (cases_lt (length us) measures.rows)))
    where
      impossible : (n : ℕ) → n < measures.rows → measures.rows ≤ n → ⊥
      impossible n l k = omega arith

  pub less_state : (s : State) → ((u : User) (r : Role) → T (s u r) → T (b.state u r)) → Orderly (with_state s b)
  less_state s sub = state_orderly b s o (λ u r t. o.assigned_inside u r (sub u r t)) (λ us apart held. o.few_rows us apart (still us held))
    where
      still : (us : List User) → Holders s us → Holders b.state us
      still [] h = tt
      still (v ∷ vs) ((q, t), h) = ((q, sub v q t), still vs h)

  -- ---- what a permission is given to

  pub other_gifts : (g : Permission → Role → Bool) → ((n : Permission) (r : Role) → T (g n r) → (n < measures.permissions) × (r < measures.roles)) → Orderly (with_policy (with_gives g b.policy) b)
  other_gifts g small = record {
    assigned_inside = o.assigned_inside;
    edges_inside = o.edges_inside;
    given_inside = small;
    trusted_inside = o.trusted_inside;
    few_rows = o.few_rows;
    few_trusted = o.few_trusted;
    few_assigns = o.few_assigns;
    few_revokes = o.few_revokes;
    few_requirements = o.few_requirements;
    no_circle = o.no_circle;
    regime = o.regime;
    assigns_once = o.assigns_once;
    revokes_once = o.revokes_once;
    requirements_once = o.requirements_once;
    assigns_said = o.assigns_said;
    revokes_said = o.revokes_said;
    requirements_said = o.requirements_said;
  }

  -- ---- edges

  pub other_edges : (e : Edges) → ((q r : Role) → T (e q r) → (q < measures.roles) × (r < measures.roles)) → NoCircle e → Orderly (with_policy (with_edges e b.policy) b)
  other_edges e small none = record {
    assigned_inside = o.assigned_inside;
    edges_inside = small;
    given_inside = o.given_inside;
    trusted_inside = o.trusted_inside;
    few_rows = o.few_rows;
    few_trusted = o.few_trusted;
    few_assigns = o.few_assigns;
    few_revokes = o.few_revokes;
    few_requirements = o.few_requirements;
    no_circle = none;
    regime = o.regime;
    assigns_once = o.assigns_once;
    revokes_once = o.revokes_once;
    requirements_once = o.requirements_once;
    assigns_said = o.assigns_said;
    revokes_said = o.revokes_said;
    requirements_said = o.requirements_said;
  }

  -- ---- trusted users

  -- what a regime asks of the lines it excludes
  abbrev Keeps : RegimeMeant → Policy → Type 0
  Keeps g p = elim g [ aatu ↦ ((k : ℕ) (rule : RevokeRule) → Nth k rule p.revokes → ⊥) | aar ↦ ((u : User) → T (p.trusted u) → ⊥) ]

  keeps_by : (p z : Policy) (g : RegimeMeant)
      → (g ≡ aatu → (k : ℕ) (rule : RevokeRule) → Nth k rule z.revokes → (j : ℕ) × (x : RevokeRule) × Nth j x p.revokes)
      → (g ≡ aar → (u : User) → T (z.trusted u) → T (p.trusted u)) → Keeps g p → Keeps g z
  keeps_by p z aatu r t h = λ k rule n. (let (j, x, m) = r refl k rule n in h j x m)
  keeps_by p z aar r t h = λ u n. h u (t refl u n)

  pub other_trusted : (f : User → Bool) → ((u : User) → T (f u) → IsUser u)
      → ((us : List User) → Apart us → AllTrusted (with_trusted f b.policy) us → length us ≤ measures.trusted_users)
      → (b.policy.regime ≡ aar → (u : User) → T (f u) → T (b.policy.trusted u)) → Orderly (with_policy (with_trusted f b.policy) b)
  other_trusted f small few aar_less = record {
    assigned_inside = o.assigned_inside;
    edges_inside = o.edges_inside;
    given_inside = o.given_inside;
    trusted_inside = small;
    few_rows = o.few_rows;
    few_trusted = few;
    few_assigns = o.few_assigns;
    few_revokes = o.few_revokes;
    few_requirements = o.few_requirements;
    no_circle = o.no_circle;
    regime = keeps_by b.policy (with_trusted f b.policy) b.policy.regime (λ e k rule n. (k, rule, n)) aar_less o.regime;
    assigns_once = o.assigns_once;
    revokes_once = o.revokes_once;
    requirements_once = o.requirements_once;
    assigns_said = o.assigns_said;
    revokes_said = o.revokes_said;
    requirements_said = o.requirements_said;
  }

  -- ---- rules and requirements

  pub other_assigns : (rules : List AssignRule) → length rules ≤ measures.assign_rules → Once rules → ((k : ℕ) (rule : AssignRule) → Nth k rule rules → RuleSaid rule)
      → Orderly (with_policy (with_assigns rules b.policy) b)
  other_assigns rules few once said = record {
    assigned_inside = o.assigned_inside;
    edges_inside = o.edges_inside;
    given_inside = o.given_inside;
    trusted_inside = o.trusted_inside;
    few_rows = o.few_rows;
    few_trusted = o.few_trusted;
    few_assigns = few;
    few_revokes = o.few_revokes;
    few_requirements = o.few_requirements;
    no_circle = o.no_circle;
    regime = o.regime;
    assigns_once = once;
    revokes_once = o.revokes_once;
    requirements_once = o.requirements_once;
    assigns_said = said;
    revokes_said = o.revokes_said;
    requirements_said = o.requirements_said;
  }

  pub other_revokes : (rules : List RevokeRule) → length rules ≤ measures.revoke_rules → Once rules → ((k : ℕ) (rule : RevokeRule) → Nth k rule rules → RevokeSaid rule)
      → (b.policy.regime ≡ aatu → (k : ℕ) (rule : RevokeRule) → Nth k rule rules → (j : ℕ) × (x : RevokeRule) × Nth j x b.policy.revokes)
      → Orderly (with_policy (with_revokes rules b.policy) b)
  other_revokes rules few once said aatu_none = record {
    assigned_inside = o.assigned_inside;
    edges_inside = o.edges_inside;
    given_inside = o.given_inside;
    trusted_inside = o.trusted_inside;
    few_rows = o.few_rows;
    few_trusted = o.few_trusted;
    few_assigns = o.few_assigns;
    few_revokes = few;
    few_requirements = o.few_requirements;
    no_circle = o.no_circle;
    regime = keeps_by b.policy (with_revokes rules b.policy) b.policy.regime aatu_none (λ e u t. t) o.regime;
    assigns_once = o.assigns_once;
    revokes_once = once;
    requirements_once = o.requirements_once;
    assigns_said = o.assigns_said;
    revokes_said = said;
    requirements_said = o.requirements_said;
  }

  pub other_requirements : (ds : List Requirement) → length ds ≤ measures.requirements → Once ds → ((k : ℕ) (d : Requirement) → Nth k d ds → Said (requires d))
      → Orderly (with_requirements ds b)
  other_requirements ds few once said = record {
    assigned_inside = o.assigned_inside;
    edges_inside = o.edges_inside;
    given_inside = o.given_inside;
    trusted_inside = o.trusted_inside;
    few_rows = o.few_rows;
    few_trusted = o.few_trusted;
    few_assigns = o.few_assigns;
    few_revokes = o.few_revokes;
    few_requirements = few;
    no_circle = o.no_circle;
    regime = o.regime;
    assigns_once = o.assigns_once;
    revokes_once = o.revokes_once;
    requirements_once = once;
    assigns_said = o.assigns_said;
    revokes_said = o.revokes_said;
    requirements_said = said;
  }

-- where there is room for one more, there are few enough with it
one_more : (n m top : ℕ) → m ≡ suc n → (top ≤ n → ⊥) → m ≤ top
one_more n m top e full = ⊎_elim (λ (l : n < top). omega arith) (λ (l : top ≤ n). absurd (full l)) (cases_lt n top)

-- ---- every entry

module _ (b : Book) (o : Orderly b) where
  pub put_orderly : (e : Entry) → Said e → NoneApplies (entered Add b e) → Orderly (put e b)
  put_orderly (pairs u rs) said none = with_pairs b o u rs (inside (pairs u rs) said) (λ h. none.none 13 (inr (inr (inl (refl, h)))))
  put_orderly (gifts n rs) said none =
      let (small, roles) = inside (gifts n rs) said in
      other_gifts b o (plus b.policy.gives n rs) (λ m r t. ⊎_elim
      (λ h. o.given_inside m r h)
      (λ h. (subst⁻¹ (λ (x : ℕ). x < measures.permissions) (eqb→eq m n (first (eqb m n) (listed rs r) h)) small, roles r (second (eqb m n) (listed rs r) h)))
      (either (b.policy.gives m r) (eqb m n && listed rs r) t))
  put_orderly (edges q rs) said none =
      let (small, roles) = inside (edges q rs) said in
      other_edges b o (plus b.policy.edge q rs)
      (λ m r t. ⊎_elim
      (λ h. o.edges_inside m r h)
      (λ h. (subst⁻¹ (λ (x : ℕ). x < measures.roles) (eqb→eq m q (first (eqb m q) (listed rs r) h)) small, roles r (second (eqb m q) (listed rs r) h)))
      (either (b.policy.edge m r) (eqb m q && listed rs r) t))
      (grown_no_circle b.policy.edge q rs o.no_circle (λ h. none.none 14 (inr (inr (inr (inl (refl, h)))))))
  put_orderly (trusts us) said none =
      other_trusted b o (λ v. b.policy.trusted v || listed us v)
      (λ v t. ⊎_elim (λ h. o.trusted_inside v h) (λ h. inside (trusts us) said v h) (either (b.policy.trusted v) (listed us v) t))
      (few_trusted_after b.policy us (λ h. none.none 13 (inr (inr (inl (refl, h))))))
      (λ e v t. absurd (none.none 8 (inl (refl, e))))
  put_orderly (assigns rule rs) said none =
      other_assigns b o (b.policy.assigns ++ rule ∷ [])
      (let l = snoc_length b.policy.assigns rule in one_more (length b.policy.assigns) (length (b.policy.assigns ++ rule ∷ [])) measures.assign_rules l (λ h. none.none 13 (inr (inr (inl (refl, h))))))
      (snoc_once b.policy.assigns rule (λ k n. none.none 10 (inr (inl (refl, inl (k, n))))) o.assigns_once)
      (λ k x n. ⊎_elim (λ m. o.assigns_said k x m) (λ e. subst⁻¹ RuleSaid e (rs, said)) (snoc_split b.policy.assigns rule n))
  put_orderly (revokes rule rs) said none =
      other_revokes b o (b.policy.revokes ++ rule ∷ [])
      (let l = snoc_length b.policy.revokes rule in one_more (length b.policy.revokes) (length (b.policy.revokes ++ rule ∷ [])) measures.revoke_rules l (λ h. none.none 13 (inr (inr (inl (refl, h))))))
      (snoc_once b.policy.revokes rule (λ k n. none.none 10 (inr (inl (refl, inl (k, n))))) o.revokes_once)
      (λ k x n. ⊎_elim (λ m. o.revokes_said k x m) (λ e. subst⁻¹ RevokeSaid e (rs, said)) (snoc_split b.policy.revokes rule n))
      (λ e k x n. absurd (none.none 8 (inl (refl, e))))
  put_orderly (requires d) said none =
      other_requirements b o (b.requirements ++ d ∷ [])
      (let l = snoc_length b.requirements d in one_more (length b.requirements) (length (b.requirements ++ d ∷ [])) measures.requirements l (λ h. none.none 13 (inr (inr (inl (refl, h))))))
      (snoc_once b.requirements d (λ k n. none.none 10 (inr (inl (refl, inl (k, n))))) o.requirements_once)
      (λ k x n. ⊎_elim (λ m. o.requirements_said k x m) (λ e. subst⁻¹ (λ (y : Requirement). Said (requires y)) e said) (snoc_split b.requirements d n))

  pub took_orderly : (e : Entry) (z : Book) → Took e b z → Orderly z
  took_orderly (pairs u rs) z is = subst⁻¹ Orderly is (less_state b o (minus b.state u rs) (λ v r t. first (b.state v r) (not (eqb v u && listed rs r)) t))
  took_orderly (gifts n rs) z is = subst⁻¹ Orderly is
      (other_gifts b o (minus b.policy.gives n rs) (λ m r t. o.given_inside m r (first (b.policy.gives m r) (not (eqb m n && listed rs r)) t)))
  took_orderly (edges q rs) z is = subst⁻¹ Orderly is
      (other_edges b o (minus b.policy.edge q rs) (λ m r t. o.edges_inside m r (less m r t)) (fewer_no_circle b.policy.edge (minus b.policy.edge q rs) less o.no_circle))
    where
      less : (m r : Role) → T (minus b.policy.edge q rs m r) → T (b.policy.edge m r)
      less m r t = first (b.policy.edge m r) (not (eqb m q && listed rs r)) t
  took_orderly (trusts us) z is = subst⁻¹ Orderly is
      (other_trusted b o (λ v. b.policy.trusted v && not (listed us v)) (λ v t. o.trusted_inside v (less v t)) (λ vs apart all. o.few_trusted vs apart (still vs all)) (λ e v t. less v t))
    where
      less : (v : User) → T (b.policy.trusted v && not (listed us v)) → T (b.policy.trusted v)
      less v t = first (b.policy.trusted v) (not (listed us v)) t

      still : (vs : List User) → AllTrusted (with_trusted (λ v. b.policy.trusted v && not (listed us v)) b.policy) vs → AllTrusted b.policy vs
      still [] h = tt
      still (v ∷ vs) (t, h) = (less v t, still vs h)
  took_orderly (assigns rule rs) z (rules, w, is) = subst⁻¹ Orderly is
      (other_assigns b o rules (let l = without_length w in omega (arith, l, o.few_assigns)) (without_once w o.assigns_once) (λ k x n. let (j, m) = still_there w n in o.assigns_said j x m))
  took_orderly (revokes rule rs) z (rules, w, is) = subst⁻¹ Orderly is
      (other_revokes b o rules (let l = without_length w in omega (arith, l, o.few_revokes)) (without_once w o.revokes_once) (λ k x n. let (j, m) = still_there w n in o.revokes_said j x m)
      (λ e k x n. let (j, m) = still_there w n in (j, x, m)))
  took_orderly (requires d) z (ds, w, is) = subst⁻¹ Orderly is
      (other_requirements b o ds (let l = without_length w in omega (arith, l, o.few_requirements)) (without_once w o.requirements_once) (λ k x n. let (j, m) = still_there w n in o.requirements_said j x m))
