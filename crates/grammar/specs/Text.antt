-- What is left to read, and what a reader takes from it.
use Rattle.std.specs.Prelude.{◌≡◌, ℕ, suc, ◌+◌, ◌-◌, ◌*◌, Bool, true, false, cond, not, ◌&&◌, ◌||◌, List, [], ◌∷◌, ◌++◌, take, drop, Some, None, Option, ◌==◌, nat_le, nat_lt}
use Rattle.grammar.specs.declared.tokens.Part.{Part}
use Rattle.grammar.specs.declared.tokens.Part.TheVariants.{Word, Number, Sign, End}

-- what a clause sees of a reader: the bytes that are left, and the number of the line
pub record Left : Type 0 where
  pub bytes : List ℕ
  pub line : ℕ

-- what is left
abbrev pub rest : Left → List ℕ
rest r = r.bytes

-- whether nothing is left
abbrev pub is_nil : List ℕ → Bool
is_nil [] = true
is_nil (b ∷ bs) = false

-- the byte that stands first, if there is one, and what follows it
abbrev pub ahead : List ℕ → Option ℕ
ahead [] = None
ahead (b ∷ bs) = Some b

abbrev pub behind : List ℕ → List ℕ
behind [] = []
behind (b ∷ bs) = bs

-- whether the text begins with the sign
abbrev pub begins : ℕ → List ℕ → Bool
begins c [] = false
begins c (b ∷ bs) = b == c

abbrev pub is_digit : ℕ → Bool
is_digit b = nat_le 48 b && nat_le b 57

abbrev pub is_letter : ℕ → Bool
is_letter b = nat_le 97 b && nat_le b 122

-- whether the text begins with a byte that passes
abbrev pub passes : (ℕ → Bool) → List ℕ → Bool
passes p [] = false
passes p (b ∷ bs) = p b

-- whether the text begins with a digit
abbrev pub begins_digit : List ℕ → Bool
begins_digit [] = false
begins_digit (b ∷ bs) = is_digit b

-- how many bytes at the front pass the test
abbrev pub run : (ℕ → Bool) → List ℕ → ℕ
run p [] = 0
run p (b ∷ bs) = cond (p b) (suc (run p bs)) 0

-- the number that digits write, after a number that is already read
abbrev pub value : ℕ → List ℕ → ℕ
value n [] = n
value n (b ∷ bs) = value (n * 10 + (b - 48)) bs

-- a number at the front, with what follows it
pub data Read : Type 0 where
  got : ℕ → List ℕ → Read
  none : Read

abbrev pub begins_zero : List ℕ → Bool
begins_zero [] = false
begins_zero (b ∷ bs) = b == 48

-- a number is written with at most so many digits, and so it is below the limit
abbrev pub most_digits : ℕ
most_digits = 5

abbrev pub number_limit : ℕ
number_limit = 100000

-- the digits at the front are one or more and not too many, and the first is no zero unless it is alone
abbrev pub well_formed : ℕ → List ℕ → Bool
well_formed k s = nat_lt 0 k && (nat_le k most_digits && (nat_le k 1 || not (begins_zero s)))

unfoldable pub number : List ℕ → Read
number s = cond (well_formed (run is_digit s) s) (got (value 0 (take (run is_digit s) s)) (drop (run is_digit s) s)) none

-- a number that a call answers, with what follows it
abbrev pub taken : Option ℕ → List ℕ → Read
taken (Some n) x = got n x
taken None x = none

-- the part that a token holds is exactly the front of what was left, and the rest follows it
abbrev pub Cut : ℕ → List ℕ → List ℕ → List ℕ → Type 0
Cut n p s after = (p ≡ take n s) × (after ≡ drop n s)

abbrev pub Reads : Part → List ℕ → List ℕ → Type 0
Reads (Word p) s after = (passes is_letter s ≡ true) × (Cut (run is_letter s) p.now s after)
Reads (Number p) s after = (passes is_digit s ≡ true) × (Cut (run is_digit s) p.now s after)
Reads (Sign p) s after = (passes is_letter s ≡ false) × (passes is_digit s ≡ false) × (Cut 1 p.now s after)
Reads End s after = (s ≡ []) × (after ≡ [])

-- a word that stands there is taken, and nothing else is
pub record Takes (w s : List ℕ) (r : Bool) (after : List ℕ) : Type 0 where
  pub found : (x : List ℕ) → s ≡ w ++ x → (r ≡ true) × (after ≡ x)
  pub real : r ≡ true → s ≡ w ++ after
  pub kept : r ≡ false → after ≡ s
