-- What a sentence asks or orders, and what its readers answer, its length put aside.
use Rattle.std.specs.Prelude.{ℕ, List, Ok, Err, Result, ◌≡◌}
use Rattle.grammar.specs.declared.grounds.Ground.{Ground}
use Rattle.lines.specs.declared.change.Extra.{Extra}
use Rattle.lines.specs.Languages.{Language, Least, Unrefused, Told}
use Rattle.lines.specs.Lines.{questions, bodies, Sentence}
use Rattle.texts.specs.declared.faults.Order.{Order}
use Rattle.meaning.specs.declared.terms.Kind.{Kind}
use Rattle.lines.specs.declared.keyword.Keyword.TheVariants as keyword
use Rattle.texts.specs.Answers.{Changing, changes}
use Rattle.meaning.specs.declared.terms.Kind.TheVariants.{Possible, Necessary}
use Rattle.lines.specs.Changes.{Sided, Means}

-- the question that a sentence asks, with its two sets beside it
pub data Asks (e : Extra) : Kind → (f : Sentence) → Type 0 where
  asks_possible : {x : (bodies keyword.Possible).Form} → Sided x e → Asks e Possible (record { keyword = keyword.Possible; body = x })
  asks_necessary : {x : (bodies keyword.Necessary).Form} → Sided x e → Asks e Necessary (record { keyword = keyword.Necessary; body = x })

-- the order that a change gives
pub record Orders (e : Extra) (o : Order) (x : Changing) : Type 0 where
  pub way : o.way ≡ x.way
  pub change : Means x.line.keyword x.line.body o.change e

-- the answer to a text that is one form of a language
abbrev pub Lined : (L : Language) → List ℕ → {A : Type 0} → (A → L.Form → Type 0) → Result A Ground → Type 0
Lined L s M (Ok a) = (Unrefused L s) × Told L s (M a)
Lined L s M (Err g) = Least L s g

abbrev pub Asked : List ℕ → Result Kind Ground → Extra → Type 0
Asked s r e = Lined questions s (Asks e) r

abbrev pub Changed : List ℕ → Result Order Ground → Extra → Type 0
Changed s r e = Lined changes s (Orders e) r
