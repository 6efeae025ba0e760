-- The faults of a whole board text, and which of them is answered.
use Rattle.std.specs.Prelude.{◌≡◌, ℕ, suc, ◌<◌, true, ◌⊎◌, List, [], ◌++◌, length, Ok, Err, Result, ◌≢◌}
use Rattle.grammar.specs.declared.grounds.Ground.{Ground}
use Rattle.grammar.specs.declared.grounds.Ground.TheVariants.{Syntax}
use Rattle.lines.specs.Languages.{Refuses, number_of}
use Rattle.lines.specs.Lines.{lines}
use Rattle.texts.specs.declared.faults.Fault.{Fault}
use Rattle.texts.specs.declared.faults.Fault.TheVariants.{TooLong, Mark, InLine}
use Rattle.meaning.specs.declared.terms.Regime.{Regime}
use Rattle.texts.specs.Board.{unbroken, Cut, mark_line, regime_line}
use Rattle.texts.specs.Lengths.{longest_text}

-- in a text whose line n begins here, line m is refused on this ground: it is no line, or nothing ends it
pub data Refused : ℕ → List ℕ → Ground → ℕ → Type 0 where
  here : {n : ℕ} {s : List ℕ} {g : Ground} (l x : List ℕ) → Cut s l x → Refuses lines l g → Refused n s g n
  endless : {n : ℕ} {s : List ℕ} → unbroken s ≡ true → (s ≢ []) → Refused n s Syntax n
  later : {n m : ℕ} {s : List ℕ} {g : Ground} (l x : List ℕ) → Cut s l x → Refused (suc n) x g m → Refused n s g m

-- the second line is no regime line
pub record NoRegime (s : List ℕ) : Type 0 where
  pub marked : (x : List ℕ) × (s ≡ mark_line ++ x)
  pub none : (r : Regime) (x : List ℕ) → s ≢ mark_line ++ (regime_line r ++ x)

-- each fault on its own
abbrev pub WholeFault : List ℕ → Fault → Type 0
WholeFault s TooLong = longest_text < length s
WholeFault s Mark = (x : List ℕ) → s ≢ mark_line ++ x
WholeFault s (InLine g n) = ((n ≡ 2) × (g ≡ Syntax) × NoRegime s) ⊎ ((r : Regime) × (x : List ℕ) × (s ≡ mark_line ++ (regime_line r ++ x)) × Refused 3 x g n)

-- the length comes first, then the mark, then lines in their order, and in a line the smallest number
abbrev pub Before : Fault → Fault → Type 0
Before TooLong TooLong = ⊥
Before TooLong Mark = Unit {0}
Before TooLong (InLine g n) = Unit {0}
Before Mark TooLong = ⊥
Before Mark Mark = ⊥
Before Mark (InLine g n) = Unit {0}
Before (InLine g n) TooLong = ⊥
Before (InLine g n) Mark = ⊥
Before (InLine g n) (InLine h m) = (n < m) ⊎ ((n ≡ m) × (number_of g < number_of h))

-- the first fault, or the regime of a text that has none
abbrev pub WholeText : List ℕ → Result Regime Fault → Type 0
WholeText s (Ok r) = ((d : Fault) → WholeFault s d → ⊥) × ((x : List ℕ) × (s ≡ mark_line ++ (regime_line r ++ x)))
WholeText s (Err f) = (WholeFault s f) × ((d : Fault) → Before d f → WholeFault s d → ⊥)
