-- The tests at the slots say whether the question is true in a state.
use Rattle.std.proofs.Common.{◌≡◌, ℕ, zero, suc, ◌+◌, ◌<◌, ◌≤◌, Bool, true, false, not, ◌&&◌, T, eqb, ◌⊎◌, ◌↔◌, List, Some, sym, refl, ap, ◌∙◌, ap₂, inl, inr, ⊎_elim, not-suc-le-zero, arith, eqb→eq}
use Rattle.meaning.specs.Measures.{roles}
use mathlib.Core.Path.{subst⁻¹}
use lib.Dec.{eqb_refl}
use Rattle.std.proofs.lemmas.Bool.{cases_eq}
use Rattle.steps.specs.Steps.{count}
use Rattle.meaning.specs.Membership.{User, Role, Row, State}
use Rattle.meaning.specs.Rules.{Policy}
use Rattle.meaning.specs.Sets.{UserSet, members, holders, only, nobody, union, intersection, In, HasPermission, Question, Holds, Static, SemiStatic}
use Rattle.theory.specs.Hire.{Tracking, TrackedOrHire}
use Rattle.theory.specs.Verdicts.{TracksNamedUsers, HoldsAmongTracked}
use Rattle.theory.specs.Reach.{◌⊑◌}
use Rattle.meaning.proofs.Tests.{either, first, second, both, or_left, or_right, clash, decide}
use Rattle.theory.proofs.Tests.{some_at, some_gives}
use Rattle.deciding.proofs.Telling.{member_test_lem}
use Rattle.theory.proofs.Growing.{inside}
use Rattle.theory.proofs.Exact.{static, static_widely, alike, wx, wy}
use Rattle.rbac.specs.declared.sets.RoleSet.{RoleSet}
use Rattle.rbac.specs.declared.users.User.{User as AUser}
use Rattle.deciding.specs.Masked.{member_test, down_of, in_test}
use Rattle.planning.specs.MasksTold.{MasksTell}
use Rattle.verdicts.specs.Looking.{passed, one}

-- by masks, a user is in a set
module _ (p : Policy) (seniors givers : List RoleSet) (masks : MasksTell p seniors givers) (u : AUser) (row : Row) (small : (r : Role) → T (row r) → r < roles) where
  abbrev test : UserSet → Bool
  test x = in_test seniors givers (Some u) row x

  has_given_lem : (m : ℕ) → T (member_test (down_of givers) row m) ↔ HasPermission p row m
  has_given_lem m = (
    (λ h. let (k, l, t) = some_gives roles (λ k. row k && down_of givers k m) h in
        let (r, g, s) = (masks.giver k m l).0 (second (row k) (down_of givers k m) t) in (r, g, (k, s, first (row k) (down_of givers k m) t))),
    λ (r, g, (k, s, t)). some_at roles (λ k. row k && down_of givers k m) k (small k t) (both (row k) (down_of givers k m) t ((masks.giver k m (small k t)).1 (r, g, s))),
  )

  pub test_in : (x : UserSet) → T (test x) → In p row u.number x
  test_in (members r) h = (member_test_lem p (down_of seniors) masks.senior row small r).0 h
  test_in (holders m) h = (has_given_lem m).0 h
  test_in (only v) h = eqb→eq u.number v h
  test_in nobody h = h
  test_in (union x y) h = elim (either (test x) (test y) h) [ inl i ↦ inl (test_in x i) | inr i ↦ inr (test_in y i) ]
  test_in (intersection x y) h = (test_in x (first (test x) (test y) h), test_in y (second (test x) (test y) h))

  pub in_test_lem : (x : UserSet) → In p row u.number x → T (test x)
  in_test_lem (members r) h = (member_test_lem p (down_of seniors) masks.senior row small r).1 h
  in_test_lem (holders m) h = (has_given_lem m).1 h
  in_test_lem (only v) h = subst⁻¹ (λ w. T (eqb w v)) h (eqb_refl v)
  in_test_lem nobody h = h
  in_test_lem (union x y) (inl h) = or_left (test x) (test y) (in_test_lem x h)
  in_test_lem (union x y) (inr h) = or_right (test x) (test y) (in_test_lem y h)
  in_test_lem (intersection x y) h = both (test x) (test y) (in_test_lem x h.0) (in_test_lem y h.1)

  pub pass_in : (q : Question) → T (passed seniors givers q u row) → In p row u.number q.smaller → In p row u.number q.larger
  pass_in q h i = ⊎_elim
      (λ (t : T (not (test q.smaller))). absurd (clash (test q.smaller) (in_test_lem q.smaller i) t))
      (λ (t : T (test q.larger)). test_in q.larger t)
      (either (not (test q.smaller)) (test q.larger) h)

  pub in_pass : (q : Question) → (In p row u.number q.smaller → In p row u.number q.larger) → T (passed seniors givers q u row)
  in_pass q f = ⊎_elim
      (λ (t : T (test q.smaller)). or_right (not (test q.smaller)) (test q.larger) (in_test_lem q.larger (f (test_in q.smaller t))))
      (λ (t : T (not (test q.smaller))). or_left (not (test q.smaller)) (test q.larger) t)
      (decide (test q.smaller))

-- counting
pub count_none : (f : ℕ → Bool) (n : ℕ) → count f n ≡ 0 → (i : ℕ) → i < n → f i ≡ false
count_none f zero e i l = absurd (not-suc-le-zero l)
count_none f (suc n) e i l = go (f n) refl (cases_eq i n) (λ h k. count_none f n h i k)
  where
    go : (b : Bool) → f n ≡ b → (i ≡ n) ⊎ (i ≡ n → ⊥) → (count f n ≡ 0 → i < n → f i ≡ false) → f i ≡ false
    go true eb d ih = absurd (let no : one (f n) ≡ 1 = ap one eb in omega arith)
    go false eb (inl d) ih = ap f d ∙ eb
    go false eb (inr d) ih = ih (let no : one (f n) ≡ 0 = ap one eb in omega arith) (omega arith)

pub none_count : (f : ℕ → Bool) (n : ℕ) → ((i : ℕ) → i < n → f i ≡ false) → count f n ≡ 0
none_count f zero h = refl
none_count f (suc n) h =
    let e : one (f n) ≡ 0 = ap one (h n (omega arith)) in
    let r : count f n ≡ 0 = none_count f n (λ i l. h i (omega arith)) in
    omega arith

pub count_few : (f : ℕ → Bool) (n : ℕ) → count f n ≤ n
count_few f zero = omega arith
count_few f (suc n) = let e = count_few f n in let b : one (f n) ≤ 1 = le (f n) in omega arith
  where
    le : (b : Bool) → one b ≤ 1
    le true = omega arith
    le false = omega arith

count_same : (f g : ℕ → Bool) (n : ℕ) → ((i : ℕ) → i < n → f i ≡ g i) → count f n ≡ count g n
count_same f g zero h = refl
count_same f g (suc n) h = ap₂ ◌+◌ (ap one (h n (omega arith))) (count_same f g n (λ i l. h i (omega arith)))

-- where two tests differ at one number alone, their counts differ by it
pub count_change : (f g : ℕ → Bool) (j n : ℕ) → j < n → ((i : ℕ) → (i ≡ j → ⊥) → f i ≡ g i) → count g n + one (f j) ≡ count f n + one (g j)
count_change f g j zero l same = absurd (not-suc-le-zero l)
count_change f g j (suc n) l same = ⊎_elim
    (λ (e : j ≡ n).
    let r : count f n ≡ count g n = count_same f g n (λ i l. same i (λ d. let no : ⊥ = omega arith in no)) in
    let a : one (f j) ≡ one (f n) = ap (λ i. one (f i)) e in
    let b : one (g j) ≡ one (g n) = ap (λ i. one (g i)) e in
    omega arith)
    (λ (e : j ≡ n → ⊥).
    let r = count_change f g j n (omega arith) same in
    let a : one (f n) ≡ one (g n) = ap one (same n (λ d. e (sym d))) in
    omega arith)
    (cases_eq j n)

-- where one side is static, and nobody outside the table has a role, the question is asked of those that are looked at alone
module _ {p : Policy} {s : State} (k : Tracking p s) (q : Question) (covers : TracksNamedUsers k q) (semi : SemiStatic q) (t : State)
    (others : (u : User) (r : Role) → T (t u r) → TrackedOrHire k u) where
  pub here_holds : HoldsAmongTracked k t q → Holds p t q
  here_holds here u u-user i = go semi (decide (k.tracked u))
    where
      go : Static q.larger ⊎ Static q.smaller → T (k.tracked u) ⊎ T (not (k.tracked u)) → In p (t u) u q.larger
      go (inr st) d = static_widely k q covers st t here u u-user i
      go (inl st) (inl old) = here u u-user (inl old) i
      go (inl st) (inr new) = hired (cases_eq u k.hire)
        where
          bare : (u ≡ k.hire → ⊥) → t u ⊑ t k.hire
          bare ne r h = elim (others u r h) [ inl old ↦ absurd (clash (k.tracked u) old new) | inr e ↦ absurd (ne e) ]

          hired : (u ≡ k.hire) ⊎ (u ≡ k.hire → ⊥) → In p (t u) u q.larger
          hired (inl e) = here u u-user (inr e) i
          hired (inr ne) =
              let a : In p (t u) k.hire q.smaller = alike p k.tracked (t u) u k.hire new q.smaller (wy k q covers) i in
              let b : In p (t k.hire) k.hire q.smaller = inside p (t u) (t k.hire) (bare ne) k.hire q.smaller a in
              let c : In p (t k.hire) k.hire q.larger = here k.hire k.hire_is_user (inr refl) b in
              let d : In p (t u) k.hire q.larger = static p (t k.hire) (t u) k.hire q.larger st c in
              alike p k.tracked (t u) k.hire u k.hire_not_tracked q.larger (wx k q covers) d
