-- What reading a whole board text into a draft answers.
use Rattle.std.specs.Prelude.{◌≡◌, ℕ, ◌+◌, ◌<◌, min, Bool, true, false, List, [], Ok, Err, Result}
use Rattle.drafts.specs.declared.draft.Draft.{Draft}
use Rattle.drafts.specs.View.{book_of}
use Rattle.book.specs.declared.refusal.Refusal.{Refusal}
use Rattle.book.specs.Numbers.{number_of}
use Rattle.book.specs.Book.{Book}
use Rattle.book.specs.Calls.{Puts, Feeds, Stops, Reads, OpeningRefused, FaultyLine}

-- the refusal is none of those that only a whole board is weighed for
abbrev pub Early : Refusal → Type 0
Early e = number_of e.cause < 15

-- the next line is put in, or there is none, or it is faulty
abbrev pub OneLine : ℕ → List ℕ → Book → Result Bool Refusal → List ℕ → Book → Type 0
OneLine k s b (Ok true) rest z = Puts b s z rest
OneLine k s b (Ok false) rest z = (s ≡ []) × (z ≡ b)
OneLine k s b (Err e) rest z = FaultyLine b s (number_of e.cause) × (e.line ≡ k) × Early e

-- a line that was put in is counted
abbrev pub Counted : Result Bool Refusal → ℕ → ℕ → Type 0
Counted (Ok true) k after = after ≡ min (k + 1) 18446744073709551615
Counted (Ok false) k after = Unit {0}
Counted (Err e) k after = Unit {0}

-- the lines are all put in, or the first faulty one decides
abbrev pub LinesPut : ℕ → List ℕ → Book → Result (Unit {0}) Refusal → Book → Type 0
LinesPut k s b (Ok u) z = Feeds b s z
LinesPut k s b (Err e) z = Stops k b s (number_of e.cause) e.line × Early e

-- the text leads to the book that the draft says, before it is weighed as a whole; or it is refused, whatever is lent
abbrev pub Opened : List ℕ → Result Draft Refusal → Type 0
Opened text (Ok d) = Reads text (book_of d.tables)
Opened text (Err e) = ((list work : ℕ) → OpeningRefused text list work (number_of e.cause) e.line) × Early e
