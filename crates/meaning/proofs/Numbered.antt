-- Entries of a list by their number, counted from 1, and by their place, counted from 0.
use Rattle.std.proofs.Common.{◌≡◌, ℕ, zero, suc, ◌<◌, List, [], ◌∷◌, length, get_or, refl, not-suc-le-zero, arith}
use Rattle.meaning.specs.Lists.{Nth, first, later}

module _ {A : Type 0} (d : A) where
  -- the entry at a place has the next number
  pub nth_at : (xs : List A) (i : ℕ) → i < length xs → Nth (suc i) (get_or xs i d) xs
  nth_at [] i l = absurd (not-suc-le-zero l)
  nth_at (x ∷ xs) zero l = first
  nth_at (x ∷ xs) (suc i) l = later (nth_at xs i (omega arith))

  -- and a number has a place
  pub at_nth : {k : ℕ} {x : A} {xs : List A} → Nth k x xs → (i : ℕ) × (k ≡ suc i) × (i < length xs) × (get_or xs i d ≡ x)
  at_nth first = (0, refl, omega arith, refl)
  at_nth (later n) = let (i, e, l, g) = at_nth n in (suc i, omega arith, omega arith, g)
