-- Tests as facts.
use Rattle.std.proofs.Common.{◌≡◌, ℕ, zero, suc, ◌<◌, Bool, true, false, not, ◌&&◌, ◌||◌, T, eqb, ◌⊎◌, List, [], ◌∷◌, ◌++◌, refl, subst, inl, inr, not-suc-le-zero, arith, eqb→eq}
use mathlib.Core.Path.{subst⁻¹}
use Rattle.std.proofs.lemmas.Bool.{cases_eq}
use lib.Dec.{eqb_refl}
use Rattle.meaning.specs.Lists.{listed}
use Rattle.meaning.specs.Runs.{pair}

pub either : (a b : Bool) → T (a || b) → T a ⊎ T b
either true b h = inl tt
either false b h = inr h

pub or_left : (a b : Bool) → T a → T (a || b)
or_left true b h = tt
or_left false b h = absurd h

pub or_right : (a b : Bool) → T b → T (a || b)
or_right true b h = tt
or_right false b h = h

pub first : (a b : Bool) → T (a && b) → T a
first true b h = tt
first false b h = h

pub second : (a b : Bool) → T (a && b) → T b
second true b h = h
second false b h = absurd h

pub both : (a b : Bool) → T a → T b → T (a && b)
both true b h k = k
both false b h k = h

pub decide : (a : Bool) → T a ⊎ T (not a)
decide true = inl tt
decide false = inr tt

pub clash : (a : Bool) → T a → T (not a) → ⊥
clash true h k = k
clash false h k = h

pub deny : (a : Bool) → (T a → ⊥) → T (not a)
deny true f = f tt
deny false f = tt

-- a test that is true, as an equation and as a fact
pub as_true : (b : Bool) → T b → b ≡ true
as_true true h = refl
as_true false h = absurd h

pub as_test : (b : Bool) → b ≡ true → T b
as_test b e = subst⁻¹ (λ (x : Bool). T x) e tt

pub as_false : (b : Bool) → T (not b) → b ≡ false
as_false true h = absurd h
as_false false h = refl

pub as_denied : (b : Bool) → b ≡ false → T (not b)
as_denied b e = subst⁻¹ (λ (x : Bool). T (not x)) e tt

-- two tests that imply each other are equal
pub agree : (a b : Bool) → (T a → T b) → (T b → T a) → a ≡ b
agree true true f g = refl
agree true false f g = absurd (f tt)
agree false true f g = absurd (g tt)
agree false false f g = refl

-- the pair that a change names
pub is_it : (u r v q : ℕ) → T (pair u r v q) → (v ≡ u) × (q ≡ r)
is_it u r v q h = (eqb→eq v u (first (eqb v u) (eqb q r) h), eqb→eq q r (second (eqb v u) (eqb q r) h))

pub it_is : (u r : ℕ) → T (pair u r u r)
it_is u r = both (eqb u u) (eqb r r) (eqb_refl u) (eqb_refl r)

-- of two lists one after the other
pub listed_left : (xs ys : List ℕ) (u : ℕ) → T (listed xs u) → T (listed (xs ++ ys) u)
listed_left [] ys u h = absurd h
listed_left (x ∷ xs) ys u h = elim (either (eqb u x) (listed xs u) h) [
  | inl e ↦ or_left (eqb u x) (listed (xs ++ ys) u) e
  | inr t ↦ or_right (eqb u x) (listed (xs ++ ys) u) (listed_left xs ys u t)
]

pub listed_right : (xs ys : List ℕ) (u : ℕ) → T (listed ys u) → T (listed (xs ++ ys) u)
listed_right [] ys u h = h
listed_right (x ∷ xs) ys u h = or_right (eqb u x) (listed (xs ++ ys) u) (listed_right xs ys u h)

pub listed_either : (xs ys : List ℕ) (u : ℕ) → T (listed (xs ++ ys) u) → T (listed xs u) ⊎ T (listed ys u)
listed_either [] ys u h = inr h
listed_either (x ∷ xs) ys u h = elim (either (eqb u x) (listed (xs ++ ys) u) h) [
  | inl e ↦ inl (or_left (eqb u x) (listed xs u) e)
  | inr t ↦ elim (listed_either xs ys u t) [ inl i ↦ inl (or_right (eqb u x) (listed xs u) i) | inr i ↦ inr i ]
]
