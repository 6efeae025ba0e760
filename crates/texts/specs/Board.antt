-- A board text: its first two lines, and one line after the other.
use Rattle.std.specs.Prelude.{◌≡◌, ℕ, ◌+◌, ◌<◌, ◌≤◌, min, Bool, true, not, ◌&&◌, ◌⊎◌, List, [], ◌∷◌, ◌++◌, length, Some, None, Ok, Err, codes, Option, Result, ◌==◌, ◌≢◌}
use Rattle.std.specs.Borrow.{Bor}
use Rattle.grammar.specs.declared.grounds.Ground.{Ground}
use Rattle.grammar.specs.declared.grounds.Ground.TheVariants.{Syntax}
use Rattle.lines.specs.declared.change.Extra.{Extra}
use Rattle.lines.specs.Languages.{Least}
use Rattle.lines.specs.Lines.{lines}
use Rattle.texts.specs.Lengths.{longest_text}
use Rattle.texts.specs.declared.faults.Fault.{Fault}
use Rattle.texts.specs.declared.faults.Fault.TheVariants.{TooLong, Mark, InLine}
use Rattle.lines.specs.declared.change.Change.{Change}
use Rattle.meaning.specs.declared.terms.Regime.{Regime}
use Rattle.meaning.specs.declared.terms.Regime.TheVariants.{Aatu, Aar}
use Rattle.lines.specs.Changes.{Line}

-- a byte that does not end a line
abbrev pub goes_on : ℕ → Bool
goes_on b = not (b == 10)

-- no byte of it ends a line
abbrev pub unbroken : List ℕ → Bool
unbroken [] = true
unbroken (b ∷ bs) = goes_on b && unbroken bs

-- the text begins with that line and its end, and the rest follows
pub record Cut (s l after : List ℕ) : Type 0 where
  pub text : s ≡ l ++ 10 ∷ after
  pub one : unbroken l ≡ true

-- the part that is cut off; none where nothing ends a line, and then nothing is read
abbrev pub Cuts : List ℕ → Option (Bor (List ℕ)) → List ℕ → Type 0
Cuts s (Some p) after = Cut s p.now after
Cuts s None after = (unbroken s ≡ true) × (after ≡ s)

-- the mark with its version, and the regime
abbrev pub mark_line : List ℕ
mark_line = codes "RBD 1" ++ 10 ∷ []

abbrev pub regime_line : Regime → List ℕ
regime_line Aatu = codes "regime aatu" ++ 10 ∷ []
regime_line Aar = codes "regime aar" ++ 10 ∷ []

-- the length is tested first, then the mark, then the second line
abbrev pub Begins : List ℕ → Result Regime Fault → List ℕ → Type 0
Begins s (Ok g) after = (length s ≤ longest_text) × (s ≡ mark_line ++ (regime_line g ++ after))
Begins s (Err TooLong) after = longest_text < length s
Begins s (Err Mark) after = (length s ≤ longest_text) × ((x : List ℕ) → s ≢ mark_line ++ x)
Begins s (Err (InLine g n)) after = (length s ≤ longest_text) × (g ≡ Syntax) × (n ≡ 2) × ((x : List ℕ) × (s ≡ mark_line ++ x)) × ((r : Regime) (x : List ℕ) → s ≢ mark_line ++ (regime_line r ++ x))

-- what follows the first two lines is line 3
abbrev pub Third : Result Regime Fault → ℕ → Type 0
Third (Ok g) n = n ≡ 3
Third (Err f) n = Unit {0}

-- the ground to refuse the next line: no byte ends it, or the smallest ground of the line
abbrev pub BadLine : List ℕ → Ground → Type 0
BadLine s g = ((unbroken s ≡ true) × (s ≢ []) × (g ≡ Syntax)) ⊎ ((l : List ℕ) × (x : List ℕ) × (Cut s l x) × (Least lines l g))

-- what comes next in a text whose line of this number begins here
abbrev pub Comes : ℕ → List ℕ → Result (Option Change) Fault → List ℕ → Extra → Type 0
Comes n s (Ok None) after e = (s ≡ []) × (after ≡ [])
Comes n s (Ok (Some c)) after e = (l : List ℕ) × (Cut s l after) × (Line l (Ok c) e)
Comes n s (Err TooLong) after e = ⊥
Comes n s (Err Mark) after e = ⊥
Comes n s (Err (InLine g m)) after e = (m ≡ n) × BadLine s g

-- a line that was read is counted
abbrev pub Counts : Result (Option Change) Fault → ℕ → ℕ → Type 0
Counts (Ok None) n m = Unit {0}
Counts (Ok (Some c)) n m = m ≡ min (n + 1) 18446744073709551615
Counts (Err f) n m = Unit {0}
