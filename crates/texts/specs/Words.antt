-- The words that lines and questions begin with.
use Rattle.std.specs.Prelude.{◌≡◌, ℕ, Bool, List, ◌∷◌, ◌++◌, Some, Option, ◌==◌}
use Rattle.std.specs.Cmp.Lexicographic.{pointwise}
use Rattle.lines.specs.declared.keyword.Keyword.{Keyword}
use Rattle.lines.specs.Lines.{word}

-- whether the keyword is spelt so
abbrev pub spells : List ℕ → Keyword → Bool
spells w k = pointwise (λ a b. a == b) (word k) w

-- the keyword that is spelt so
pub record Keywords (w : List ℕ) (r : Option Keyword) : Type 0 where
  pub found : (k : Keyword) → w ≡ word k → r ≡ Some k
  pub real : (k : Keyword) → r ≡ Some k → w ≡ word k

-- a keyword that stands there before a blank is taken, and what is taken stood there
pub record Starts (s : List ℕ) (r : Option Keyword) (after : List ℕ) : Type 0 where
  pub found : (k : Keyword) (x : List ℕ) → s ≡ word k ++ 32 ∷ x → (r ≡ Some k) × (after ≡ 32 ∷ x)
  pub real : (k : Keyword) → r ≡ Some k → s ≡ word k ++ after
