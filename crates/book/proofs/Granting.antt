-- Permitted changes keep what the regime asks for, and the delegates' calls grant runs.
use Rattle.std.proofs.Common.{◌≡◌, ℕ, ◌<◌, not, T, List, [], ◌∷◌, refl, subst, inl, inr, arith}
use Rattle.meaning.specs.Measures as measures
use Rattle.meaning.specs.Membership.{User, Role, IsUser, State}
use Rattle.meaning.specs.Rules.{AssignRule, RevokeRule, aatu, aar, Policy, Regime as RegimeMeant}
use Rattle.meaning.specs.Lists.{Nth}
use Rattle.meaning.specs.Runs.{Change, adds, removes, pair, after, moves, Permitted, end}
use Rattle.meaning.specs.Regimes.{Administers, Aatu, Aar, ObeysRegime}
use Rattle.theory.specs.Granting.{CallsGranted, AddingGranted, RemovingGranted}
use Rattle.meaning.proofs.Tests.{or_left, both, deny, clash, is_it}
use Rattle.book.specs.Book.{Book, with_state}
use Rattle.book.specs.Calls.{additions, removals}
use Rattle.book.specs.Stories.{DoneInTurn, DelegatesGrant}
use Rattle.book.proofs.Coming.{added, removed}
use Rattle.meaning.specs.Runs.{Run}
use Rattle.meaning.specs.Witnesses.{OnlyRemoves}
use Rattle.theory.proofs.Turns.{regimes_apart, run_granted}
use Rattle.book.proofs.Ladder.{end as none_left, pass}
use Rattle.book.specs.Refusals.{NoneApplies}

-- ---- the regime

abbrev pub Asked : RegimeMeant → Policy → State → Type 0
Asked g p s = elim g [ aatu ↦ Aatu p | aar ↦ Aar p s ]

regular_in : (p : Policy) (s t : State)
    → ((r : Role) → Administers p r → ((u : User) × IsUser u × T (s u r)) → (u : User) × IsUser u × T (t u r))
    → (g : RegimeMeant) → Asked g p s → Asked g p t
regular_in p s t still aatu h = h
regular_in p s t still aar h = record {
  nobody_trusted = h.nobody_trusted;
  no_targets = h.no_targets;
  assigned = λ r a. still r a (h.assigned r a);
  revocable = h.revocable;
}

-- what administers is no target, so whoever holds it still does
removed_others : (p : Policy) (s : State) (a u : User) (r : Role) (k : ℕ) → Permitted (moves p) s (removes a u r k)
    → (g : RegimeMeant) → Asked g p s → Asked g p (after (removes a u r k) s)
removed_others p s a u r k x aatu h = h
removed_others p s a u r k x aar h =
    regular_in p s (after (removes a u r k) s)
    (λ q administers (v, inside, there). (
      v,
      inside,
      both (s v q) (not (pair u r v q)) there
          (deny (pair u r v q) (λ same. h.no_targets q administers (inr (k, x.1.rule, x.1.numbered, subst (λ (w : ℕ). T (x.1.rule.targets w)) (sym_of (is_it u r v q same).1) x.1.target)))),
    ))
    aar h
  where
    sym_of : {m n : ℕ} → m ≡ n → n ≡ m
    sym_of e = cc

pub keeps_regular : (p : Policy) (s : State) (x : Change) → Permitted (moves p) s x → ObeysRegime p s → ObeysRegime p (after x s)
keeps_regular p s (adds a u r k) x h =
    regular_in p s (after (adds a u r k) s) (λ q administers (v, inside, there). (v, inside, or_left (s v q) (pair u r v q) there)) p.regime h
keeps_regular p s (removes a u r k) x h = removed_others p s a u r k x p.regime h

-- ---- runs

-- all targets of rules are roles
pub record TargetsInside (p : Policy) : Type 0 where
  pub assigns : (k : ℕ) (rule : AssignRule) → Nth k rule p.assigns → (r : Role) → T (rule.targets r) → r < measures.roles
  pub revokes : (k : ℕ) (rule : RevokeRule) → Nth k rule p.revokes → (r : Role) → T (rule.targets r) → r < measures.roles

adding_done : (b : Book) → TargetsInside b.policy → (a u : User) (r : Role) → AddingGranted b.policy b.state a u r → NoneApplies (additions b a u r)
adding_done b inside a u r g =
    let (k, may) = g.permits in
    let small : r < measures.roles = inside.assigns k may.rule may.numbered r may.target in
    let actor : a < measures.users = may.an_actor in
    let user : u < measures.users = may.a_user in
    pass (λ o. elim o [ inl l ↦ omega arith | inr o2 ↦ elim o2 [ inl l ↦ omega arith | inr l ↦ omega arith ] ])
    (pass (λ t. clash (b.policy.trusted a) t g.untrusted)
    (pass (λ t. clash (b.state u r) t g.new) (pass (λ no. no k may) (pass (λ n. n.full (g.a_row n.none)) none_left))))

removing_done : (b : Book) → TargetsInside b.policy → (a u : User) (r : Role) → RemovingGranted b.policy b.state a u r → NoneApplies (removals b a u r)
removing_done b inside a u r g =
    let (k, may) = g.permits in
    let small : r < measures.roles = inside.revokes k may.rule may.numbered r may.target in
    let actor : a < measures.users = may.an_actor in
    let user : u < measures.users = may.a_user in
    pass (λ o. elim o [ inl l ↦ omega arith | inr o2 ↦ elim o2 [ inl l ↦ omega arith | inr l ↦ omega arith ] ])
    (pass (λ t. clash (b.policy.trusted a) t g.untrusted)
    (pass (λ t. clash (b.state u r) g.there t) (pass (λ no. no k may) none_left)))

pub in_turn : (b : Book) → TargetsInside b.policy → (run : List Change) → CallsGranted b.policy b.state run → DoneInTurn b run (with_state (end b.state run) b)
in_turn b inside [] g = refl
in_turn b inside (adds a u r k ∷ xs) (g, gs) =
    let m : Book = with_state (after (adds a u r k) b.state) b in (m, added b a u r (adding_done b inside a u r g), in_turn m inside xs gs)
in_turn b inside (removes a u r k ∷ xs) (g, gs) =
    let m : Book = with_state (after (removes a u r k) b.state) b in (m, removed b a u r (removing_done b inside a u r g), in_turn m inside xs gs)

-- a run that only removes is granted, whatever rows there are
removals_granted : (p : Policy) → ((k : ℕ) (rule : RevokeRule) → Nth k rule p.revokes → (u : User) → T (not (p.trusted u)))
    → (s : State) (run : List Change) → OnlyRemoves run → Run (moves p) s run → CallsGranted p s run
removals_granted p free s [] only w = tt
removals_granted p free s (adds a u r k ∷ xs) only w = absurd only
removals_granted p free s (removes a u r k ∷ xs) only (h, w) = (
  record { untrusted = free k h.1.rule h.1.numbered a; there = h.0; permits = (k, h.1) },
  removals_granted p free (after (removes a u r k) s) xs only w,
)

-- the delegates' calls grant a run that removes, and one that adds where rows suffice
pub delegates_grant : (b : Book) → TargetsInside b.policy → ObeysRegime b.policy b.state → (run : List Change) → Run (moves b.policy) b.state run → DelegatesGrant b run
delegates_grant b inside regular run lawful (inl only) = in_turn b inside run (removals_granted b.policy (regimes_apart b.policy b.state regular) b.state run only lawful)
delegates_grant b inside regular run lawful (inr free) = in_turn b inside run (run_granted b.policy b.state regular run lawful free)
