-- Where an entry stands in a list.
use Rattle.std.specs.Prelude.{ℕ, ◌+◌, List, Option, MatchOption}
use Rattle.meaning.specs.Lists.{Nth}

-- it has the number that follows this place, or none
abbrev pub Place : {A : Type 0} → A → List A → Option ℕ → Type 0
Place x xs place = MatchOption place ((k : ℕ) → Nth k x xs → ⊥) (λ i. Nth (i + 1) x xs)
