-- The delegates' calls grant a run, given free rows.
use Rattle.std.proofs.Common.{◌≡◌, ℕ, ◌<◌, ◌≤◌, not, T, eqb, ◌⊎◌, List, [], ◌∷◌, ◌++◌, length, subst, inl, inr, ⊎_elim, arith, eqb→eq, length-append}
use mathlib.Core.Path.{subst⁻¹}
use lib.Dec.{eqb_refl}
use Rattle.meaning.specs.Measures.{rows}
use Rattle.meaning.specs.Lists.{listed, Nth, Apart}
use Rattle.meaning.specs.Membership.{User, State}
use Rattle.meaning.specs.Rules.{Policy, RevokeRule}
use Rattle.meaning.specs.Runs.{Change, adds, removes, pair, after, moves, Run}
use Rattle.meaning.specs.Regimes.{Aatu, Aar, ObeysRegime}
use Rattle.meaning.specs.Rows.{Holder, Holders, FreeRow, AddsTo, FreeRows}
use Rattle.theory.specs.Granting.{CallsGranted}
use Rattle.meaning.proofs.Tests.{either, or_left, or_right, first, clash, deny, is_it, listed_left, listed_right}
use Rattle.theory.proofs.Room.{without, shorter, still_listed}
use Rattle.theory.proofs.Floor.{by_regime}

-- users who are apart and all in a list are no more than the list has
abbrev AllIn : List ℕ → List ℕ → Type 0
AllIn [] ys = Unit {0}
AllIn (x ∷ xs) ys = T (listed ys x) × AllIn xs ys

all_still_lem : (m : ℕ) (xs ys : List ℕ) → T (not (listed xs m)) → AllIn xs ys → AllIn xs (without m ys)
all_still_lem m [] ys n a = tt
all_still_lem m (x ∷ xs) ys n (h, a) = (
  still_listed m x other ys h,
  all_still_lem m xs ys (deny (listed xs m) (λ t. clash (listed (x ∷ xs) m) (or_right (eqb m x) (listed xs m) t) n)) a,
)
  where
    other : x ≡ m → ⊥
    other e = clash (listed (x ∷ xs) m) (or_left (eqb m x) (listed xs m) (subst⁻¹ (λ (k : ℕ). T (eqb m k)) e (eqb_refl m))) n

pub few : (xs ys : List ℕ) → Apart xs → AllIn xs ys → length xs ≤ length ys
few [] ys a i = omega arith
few (x ∷ xs) ys (n, a) (h, i) =
    let s : length (without x ys) < length ys = shorter x ys h in
    let t : length xs ≤ length (without x ys) = few xs (without x ys) a (all_still_lem x xs ys n i) in
    omega arith

all_listed : (s : State) (xs ys : List ℕ) → ((u : ℕ) → Holder s u → T (listed ys u)) → Holders s xs → AllIn xs ys
all_listed s [] ys f h = tt
all_listed s (x ∷ xs) ys f (h, k) = (f x h, all_listed s xs ys f k)

none_apart : (s : State) (u : ℕ) (xs : List ℕ) → (Holder s u → ⊥) → Holders s xs → T (not (listed xs u))
none_apart s u [] n h = tt
none_apart s u (x ∷ xs) n (h, k) = deny (listed (x ∷ xs) u) (λ t. ⊎_elim
    (λ (e : T (eqb u x)). n (subst⁻¹ (λ (v : ℕ). Holder s v) (eqb→eq u x e) h))
    (λ (e : T (listed xs u)). clash (listed xs u) e (none_apart s u xs n k))
    (either (eqb u x) (listed xs u) t))

-- where a list of no more users than there are rows has all holders and a user without a row, there is a free row
pub free_row : (s : State) (u : ℕ) (ys : List ℕ) → ((v : ℕ) → Holder s v → T (listed ys v)) → T (listed ys u) → length ys ≤ rows → (Holder s u → ⊥) → FreeRow s
free_row s u ys all here le none users apart hold =
    let n : length (u ∷ users) ≤ length ys = few (u ∷ users) ys (none_apart s u users none hold, apart) (here, all_listed s users ys all hold) in
    omega arith

-- the list of all holders stays one
adds_listed : (s : State) (a u r k : ℕ) (ys : List ℕ) → ((v : ℕ) → Holder s v → T (listed ys v)) → T (listed ys u)
    → (v : ℕ) → Holder (after (adds a u r k) s) v → T (listed ys v)
adds_listed s a u r k ys all here v (q, t) = ⊎_elim
    (λ (h : T (s v q)). all v (q, h))
    (λ (h : T (pair u r v q)). subst⁻¹ (λ (v : ℕ). T (listed ys v)) (is_it u r v q h).0 here)
    (either (s v q) (pair u r v q) t)

removes_listed : (s : State) (a u r k : ℕ) (ys : List ℕ) → ((v : ℕ) → Holder s v → T (listed ys v))
    → (v : ℕ) → Holder (after (removes a u r k) s) v → T (listed ys v)
removes_listed s a u r k ys all v (q, t) = all v (q, first (s v q) (not (pair u r v q)) t)

-- where a revoke rule is, nobody is trusted
abbrev ApartRegimes : Policy → Type 0
ApartRegimes p = (k : ℕ) (rule : RevokeRule) → Nth k rule p.revokes → (u : User) → T (not (p.trusted u))

pub regimes_apart : (p : Policy) (s : State) → ObeysRegime p s → ApartRegimes p
regimes_apart p s reg k rule nth u = go (by_regime p s reg)
  where
    no_rule_lem : {k : ℕ} {rule : RevokeRule} → Nth k rule [] → ⊥
    no_rule_lem n = elim n [ ]

    go : Aatu p ⊎ Aar p s → T (not (p.trusted u))
    go (inl none) = absurd (no_rule_lem (subst (λ (rules : List RevokeRule). Nth k rule rules) none nth))
    go (inr aar) = aar.nobody_trusted u

turns : (p : Policy) → ApartRegimes p → (s : State) (run : List Change) → Run (moves p) s run
    → (ys : List ℕ) → ((v : ℕ) → Holder s v → T (listed ys v)) → AddsTo (λ u. T (listed ys u)) run → length ys ≤ rows
    → CallsGranted p s run
turns p reg s [] w ys all to le = tt
turns p reg s (adds a u r k ∷ xs) (h, w) ys all (here, to) le = (
  record { untrusted = h.1.untrusted; new = h.0; permits = (k, h.1); a_row = free_row s u ys all here le },
  turns p reg (after (adds a u r k) s) xs w ys (adds_listed s a u r k ys all here) to le,
)
turns p reg s (removes a u r k ∷ xs) (h, w) ys all to le = (
  record { untrusted = reg k h.1.rule h.1.numbered a; there = h.0; permits = (k, h.1) },
  turns p reg (after (removes a u r k) s) xs w ys (removes_listed s a u r k ys all) to le,
)

listed_to : (s : State) (run : List Change) (held new : List ℕ) → ((u : ℕ) → Holder s u → T (listed held u))
    → AddsTo (λ u. Holder s u ⊎ T (listed new u)) run → AddsTo (λ u. T (listed (held ++ new) u)) run
listed_to s [] held new all to = tt
listed_to s (adds a u r k ∷ xs) held new all (h, to) = (
  ⊎_elim (λ (x : Holder s u). listed_left held new u (all u x)) (λ (x : T (listed new u)). listed_right held new u x) h,
  listed_to s xs held new all to,
)
listed_to s (removes a u r k ∷ xs) held new all to = listed_to s xs held new all to

pub run_granted : (p : Policy) (s : State) → ObeysRegime p s → (run : List Change) → Run (moves p) s run → FreeRows s run rows → CallsGranted p s run
run_granted p s reg run w f =
    turns p (regimes_apart p s reg) s run w (f.held ++ f.new) (λ v h. listed_left f.held f.new v (f.all_held v h))
    (listed_to s run f.held f.new f.all_held f.others_new) (omega (arith, length-append f.held f.new, f.room))
