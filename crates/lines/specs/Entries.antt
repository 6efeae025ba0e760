-- Lists of numbers in a line: how they are written, and what they name.
use Rattle.std.specs.Prelude.{ℕ, ◌<◌, Bool, true, false, cond, ◌&&◌, ◌||◌, List, [], ◌∷◌, ◌++◌, decimal, ◌==◌, nat_lt}
use Rattle.meaning.specs.Lists.{listed as named}
use Rattle.grammar.specs.Text.{number_limit, Read, none, number}

-- each entry is a blank, a letter and a number
abbrev pub entry_bytes : ℕ → List ℕ → List ℕ
entry_bytes c [] = []
entry_bytes c (n ∷ ns) = 32 ∷ c ∷ (decimal n ++ entry_bytes c ns)

-- every number is short enough to be written
abbrev pub AllShort : List ℕ → Type 0
AllShort [] = Unit {0}
AllShort (n ∷ ns) = (n < number_limit) × AllShort ns

-- every number is below the limit
abbrev pub all_below : ℕ → List ℕ → Bool
all_below limit [] = true
all_below limit (n ∷ ns) = nat_lt n limit && all_below limit ns

-- the list names some number twice
abbrev pub repeats : List ℕ → Bool
repeats [] = false
repeats (n ∷ ns) = named ns n || repeats ns

-- a sign that is asked for, and then a number
abbrev pub after : ℕ → List ℕ → (List ℕ → Read) → Read
after c [] f = none
after c (b ∷ bs) f = cond (b == c) (f bs) none

-- the entry that stands at the front, with what follows it
unfoldable pub entry_at : ℕ → List ℕ → Read
entry_at c s = after 32 s (λ s1. after c s1 number)
