-- A test that some number passes.
use Rattle.std.proofs.Common.{◌≡◌, ℕ, zero, suc, ◌<◌, Bool, T, ◌⊎◌, subst, inl, inr, not-suc-le-zero, arith}
use Rattle.std.proofs.lemmas.Bool.{cases_eq}
use Rattle.theory.specs.Tests.{some}
use Rattle.meaning.proofs.Tests.{either, or_left, or_right}

pub some_at : (n : ℕ) (f : ℕ → Bool) (k : ℕ) → k < n → T (f k) → T (some n f)
some_at zero f k h t = absurd (not-suc-le-zero h)
some_at (suc n) f k h t = go (cases_eq k n) (λ l. some_at n f k l t)
  where
    go : (k ≡ n) ⊎ (k ≡ n → ⊥) → (k < n → T (some n f)) → T (some (suc n) f)
    go (inl e) below = or_left (f n) (some n f) (subst (λ (m : ℕ). T (f m)) e t)
    go (inr e) below = or_right (f n) (some n f) (below (omega arith))

pub some_gives : (n : ℕ) (f : ℕ → Bool) → T (some n f) → (k : ℕ) × (k < n) × T (f k)
some_gives zero f h = absurd h
some_gives (suc n) f h = go (either (f n) (some n f) h) (some_gives n f)
  where
    go : T (f n) ⊎ T (some n f) → (T (some n f) → (k : ℕ) × (k < n) × T (f k)) → (k : ℕ) × (k < suc n) × T (f k)
    go (inl t) below = (n, omega arith, t)
    go (inr t) below = let (k, l, i) = below t in (k, omega arith, i)
