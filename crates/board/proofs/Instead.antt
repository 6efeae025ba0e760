-- An error with another in its place.
use Rattle.std.proofs.Common.{◌≡◌, Ok, Err, Result, refl}
use Rattle.std.specs.Result.{result_or}

pub was_ok : {A E D : Type 0} (r : Result A E) (d : D) (a : A) → Ok a ≡ result_or r (Err d) → r ≡ Ok a
was_ok (Ok b) d a e = cc
was_ok (Err x) d a e = cc

pub was_err : {A E D : Type 0} (r : Result A E) (d f : D) → Err f ≡ result_or r (Err d) → (x : E) × (r ≡ Err x) × (f ≡ d)
was_err (Ok b) d f e = cc
was_err (Err x) d f e = (x, refl, cc)
