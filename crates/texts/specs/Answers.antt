-- Questions and changes that stand alone, and when they are refused.
use Rattle.std.specs.Prelude.{◌≡◌, ℕ, ◌<◌, List, ◌∷◌, length, Ok, Err, Result}
use Rattle.lines.specs.declared.keyword.Keyword.TheVariants as keyword
use Rattle.lines.specs.declared.change.Extra.{Extra}
use Rattle.lines.specs.Languages.{Language, Refuses, number_of, Told}
use Rattle.lines.specs.Lines.{bodies, Sentence, lines}
use Rattle.texts.specs.Lengths.{longest_line}
use Rattle.texts.specs.declared.faults.Fault.{Fault}
use Rattle.texts.specs.declared.faults.Fault.TheVariants.{TooLong, Mark, InLine}
use Rattle.texts.specs.declared.faults.Order.{Order}
use Rattle.meaning.specs.declared.terms.Kind.{Kind}
use Rattle.meaning.specs.declared.terms.Kind.TheVariants.{Possible, Necessary}
use Rattle.texts.specs.declared.faults.Way.{Way}
use Rattle.texts.specs.declared.faults.Way.TheVariants.{Add, Remove}
use Rattle.lines.specs.Changes.{Sided, Means}

-- the number of a fault and the line that it names
pub record Report : Type 0 where
  pub number : ℕ
  pub line : ℕ

abbrev pub told : Fault → Report
told TooLong = record { number = 1; line = 0 }
told Mark = record { number = 2; line = 1 }
told (InLine g n) = record { number = number_of g; line = n }

-- each fault of a text that is one form of a language, on its own; its line is line 1
abbrev pub Faulty : Language → List ℕ → Fault → Type 0
Faulty L s TooLong = longest_line < length s
Faulty L s Mark = ⊥
Faulty L s (InLine g n) = (n ≡ 1) × Refuses L s g

-- the answer: what the text says where nothing is to be refused, else the fault of the smallest number
abbrev pub Answer : (L : Language) → List ℕ → {A : Type 0} → (A → L.Form → Type 0) → Result A Fault → Type 0
Answer L s M (Ok a) = ((d : Fault) → Faulty L s d → ⊥) × Told L s (M a)
Answer L s M (Err f) = (Faulty L s f) × ((d : Fault) → (told d).number < (told f).number → Faulty L s d → ⊥)

-- a change is `+` or `-` and a line
pub record Changing : Type 0 where
  pub way : Way
  pub line : Sentence

abbrev pub sign_of : Way → ℕ
sign_of Add = 43
sign_of Remove = 45

abbrev pub changes : Language
changes = record {
  Form = Changing;
  bytes = λ x. sign_of x.way ∷ lines.bytes x.line;
  proper = λ x. lines.proper x.line;
  ranged = λ x. lines.ranged x.line;
  small = λ x. lines.small x.line;
  semi_static = λ x. lines.semi_static x.line;
}
