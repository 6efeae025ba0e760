-- Numbers in ascending order.
use Rattle.std.specs.Prelude.{ℕ, zero, suc, Bool, cond, List, [], ◌∷◌, ◌++◌}

-- the numbers below a limit that pass, ascending
unfoldable pub ascending : (ℕ → Bool) → ℕ → List ℕ
ascending f zero = []
ascending f (suc k) = ascending f k ++ cond (f k) (k ∷ []) []
