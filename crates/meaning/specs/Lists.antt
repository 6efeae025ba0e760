-- Entries of lists.
use Rattle.std.specs.Prelude.{ℕ, suc, Bool, false, ◌||◌, List, [], ◌∷◌, ◌==◌, not, T}
use Rattle.meaning.specs.Membership.{User}

-- the number stands in the list
abbrev pub listed : List ℕ → ℕ → Bool
listed [] u = false
listed (x ∷ xs) u = u == x || listed xs u

-- the entry with this number in a list, counted from 1
pub data Nth {A : Type 0} : ℕ → A → List A → Type 0 where
  first : {x : A} {xs : List A} → Nth 1 x (x ∷ xs)
  later : {k : ℕ} {x y : A} {xs : List A} → Nth k x xs → Nth (suc k) x (y ∷ xs)

-- no user stands twice
abbrev pub Apart : List User → Type 0
Apart [] = Unit {0}
Apart (u ∷ us) = T (not (listed us u)) × Apart us
