-- Languages: what may be written, and on which ground a text is refused.
use Rattle.std.specs.Prelude.{◌≡◌, ℕ, ◌<◌, Bool, false, cond, List, Ok, Err, Result}
use Rattle.grammar.specs.declared.grounds.Ground.{Ground}
use Rattle.grammar.specs.declared.grounds.Ground.TheVariants.{Syntax, Range, Measure, NotSemiStatic}

-- the forms of a language, the bytes of each, which of them are proper, and what is asked of a proper form
pub record Language : Type 1 where
  pub Form : Type 0
  pub bytes : Form → List ℕ
  pub proper : Form → Type 0
  pub ranged : Form → Bool
  pub small : Form → Bool
  pub semi_static : Form → Bool

-- the text is this form
abbrev pub Says : (L : Language) → List ℕ → L.Form → Type 0
Says L s f = (s ≡ L.bytes f) × L.proper f

-- a form that is refused on a ground: out of range, too large, or not semi-static
abbrev pub Fails : (L : Language) → L.Form → Ground → Type 0
Fails L f Syntax = ⊥
Fails L f Range = L.ranged f ≡ false
Fails L f Measure = L.small f ≡ false
Fails L f NotSemiStatic = L.semi_static f ≡ false

-- each ground to refuse a text, on its own: no form says it, or one does that is refused
abbrev pub Refuses : Language → List ℕ → Ground → Type 0
Refuses L s Syntax = (f : L.Form) → Says L s f → ⊥
Refuses L s Range = (f : L.Form) × (Says L s f) × (L.ranged f ≡ false)
Refuses L s Measure = (f : L.Form) × (Says L s f) × (L.small f ≡ false)
Refuses L s NotSemiStatic = (f : L.Form) × (Says L s f) × (L.semi_static f ≡ false)

-- the numbers by which grounds rank
abbrev pub number_of : Ground → ℕ
number_of Syntax = 3
number_of Range = 4
number_of Measure = 5
number_of NotSemiStatic = 6

-- the ground of the smallest number that applies, to every form that the text is; and that none applies
abbrev pub Least : Language → List ℕ → Ground → Type 0
Least L s g = (Refuses L s g) × ((d : Ground) → number_of d < number_of g → Refuses L s d → ⊥) × ((f : L.Form) → Says L s f → Fails L f g)

abbrev pub Unrefused : Language → List ℕ → Type 0
Unrefused L s = (d : Ground) → Refuses L s d → ⊥

-- what a text says: some form says it, and so does every form that the text is
pub record Told (L : Language) (s : List ℕ) (Means : L.Form → Type 0) : Type 0 where
  pub some : (f : L.Form) × (Says L s f) × Means f
  pub every : (f : L.Form) → Says L s f → Means f

-- whether to refuse a form of which these three are known, and on which ground
abbrev pub judged : Bool → Bool → Bool → Result (Unit {0}) Ground
judged ranged small semi_static = cond ranged (cond small (cond semi_static (Ok tt) (Err NotSemiStatic)) (Err Measure)) (Err Range)
