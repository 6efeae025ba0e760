-- The places of users in a list.
use Rattle.std.proofs.Common.{◌≡◌, ℕ, zero, suc, ◌<◌, Bool, true, false, cond, not, ◌||◌, T, eqb, List, [], ◌∷◌, length, get_or, sym, refl, ap, ◌∙◌, subst, not-suc-le-zero, arith, eqb→eq}
use mathlib.Core.Path.{subst⁻¹}
use lib.Dec.{eqb_refl}
use Rattle.meaning.specs.Lists.{listed, Apart}
use Rattle.meaning.proofs.Tests.{or_left, or_right, deny, clash}

-- the place of a user in a list
abbrev pub place : List ℕ → ℕ → ℕ
place [] u = 0
place (x ∷ xs) u = cond (eqb u x) 0 (suc (place xs u))

pub at_place : (xs : List ℕ) (u : ℕ) → T (listed xs u) → (place xs u < length xs) × (get_or xs (place xs u) 0 ≡ u)
at_place [] u h = absurd h
at_place (x ∷ xs) u h = go (eqb u x) refl h (at_place xs u)
  where
    go : (b : Bool) → eqb u x ≡ b → T (b || listed xs u) → (T (listed xs u) → (place xs u < length xs) × (get_or xs (place xs u) 0 ≡ u))
        → (cond b 0 (suc (place xs u)) < suc (length xs)) × (get_or (x ∷ xs) (cond b 0 (suc (place xs u))) 0 ≡ u)
    go true e h ih = (omega arith, sym (eqb→eq u x (subst⁻¹ (λ (b : Bool). T b) e tt)))
    go false e h ih = let (l, g) = ih h in (omega arith, g)

pub at_listed : (xs : List ℕ) (i : ℕ) → i < length xs → T (listed xs (get_or xs i 0))
at_listed [] i l = absurd (not-suc-le-zero l)
at_listed (x ∷ xs) zero l = or_left (eqb x x) (listed xs x) (eqb_refl x)
at_listed (x ∷ xs) (suc i) l = or_right (eqb (get_or xs i 0) x) (listed xs (get_or xs i 0)) (at_listed xs i (omega arith))

pub place_at : (xs : List ℕ) → Apart xs → (i : ℕ) → i < length xs → place xs (get_or xs i 0) ≡ i
place_at [] a i l = absurd (not-suc-le-zero l)
place_at (x ∷ xs) a zero l = go (eqb x x) (eqb_refl x)
  where
    go : (b : Bool) → T b → cond b 0 (suc (place xs x)) ≡ 0
    go true t = refl
    go false t = absurd t
place_at (x ∷ xs) (new, a) (suc i) l = go (eqb (get_or xs i 0) x) other (place_at xs a i (omega arith))
  where
    other : T (not (eqb (get_or xs i 0) x))
    other = deny (eqb (get_or xs i 0) x) (λ e. clash (listed xs x) (subst (λ (v : ℕ). T (listed xs v)) (eqb→eq (get_or xs i 0) x e) (at_listed xs i (omega arith))) new)

    go : (b : Bool) → T (not b) → place xs (get_or xs i 0) ≡ i → cond b 0 (suc (place xs (get_or xs i 0))) ≡ suc i
    go true t e = absurd t
    go false t e = ap suc e

-- where no user is listed twice, a user has one place
pub one_place : (xs : List ℕ) → Apart xs → (i j : ℕ) → i < length xs → j < length xs → get_or xs i 0 ≡ get_or xs j 0 → i ≡ j
one_place xs a i j li lj e = sym (place_at xs a i li) ∙ ap (place xs) e ∙ place_at xs a j lj
