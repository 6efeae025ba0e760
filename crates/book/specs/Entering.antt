-- What putting a line's entry in, or taking it out, answers.
use Rattle.std.specs.Prelude.{◌≡◌, Ok, Err, Result}
use Rattle.lines.specs.Lines.{Sentence, Fine}
use Rattle.lines.specs.declared.change.Change.{Change}
use Rattle.lines.specs.declared.change.Extra.{Extra}
use Rattle.texts.specs.declared.faults.Way.{Way}
use Rattle.book.specs.declared.refusal.Cause.{Cause}
use Rattle.book.specs.Numbers.{number_of}
use Rattle.book.specs.Book.{Book, Entry}
use Rattle.book.specs.Refusals.{Least, entered, NoneApplies}
use Rattle.book.specs.Calls.{Makes}
use Rattle.lines.specs.Changes.{Means}

-- where nothing refuses the entry, what it makes of the book; else the least number that does, and the book as it was
abbrev pub Entered : Way → Book → Entry → Result (Unit {0}) Cause → Book → Type 0
Entered w b e (Ok u) z = NoneApplies (entered w b e) × Makes w e b z
Entered w b e (Err c) z = Least (entered w b e) (number_of c) × (z ≡ b)

-- some line that nothing refuses says this change, with what lies beside it
pub record Readable (change : Change) (extra : Extra) : Type 0 where
  pub line : Sentence
  pub fine : Fine line
  pub means : Means line.keyword line.body change extra
