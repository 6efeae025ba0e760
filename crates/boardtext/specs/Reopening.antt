-- What stands of the canonical text of a board: it is no longer than a board text may be, reading it comes back to the book that it was written from, and to no other.
use Rattle.std.specs.Prelude.{◌≡◌, ℕ, ◌≤◌, List, ◌++◌, length}
use Rattle.texts.specs.Lengths.{longest_text}
use Rattle.book.specs.Book.{Book}
use Rattle.book.specs.Orderly.{Orderly}
use Rattle.book.specs.Refusals.{whole, lent, NoneApplies}
use Rattle.book.specs.Calls.{opening, Reads}
use Rattle.book.specs.Outcomes.{done, Outcome}
use Rattle.boardtext.specs.Canonical.{canonical_board}

abbrev pub Fits : Type 0
Fits = (b : Book) → Orderly b → length (canonical_board b) ≤ longest_text

-- every line is one that nothing refuses on the board that those before it made, and together they make this book
abbrev pub ReadsBack : Type 0
ReadsBack = (b : Book) → Orderly b → Reads (canonical_board b) b

-- so opening it makes this book whatever stood before, where the whole of it is refused for nothing
abbrev pub Reopens : Type 0
Reopens = (before b : Book) (list work : ℕ) → Orderly b → NoneApplies (lent list work ++ whole b) → Outcome before (opening (canonical_board b) list work) done b

-- a text is read as one book only, and so two books of one canonical text are the same
abbrev pub OneBook : Type 0
OneBook = (text : List ℕ) (b c : Book) → Reads text b → Reads text c → b ≡ c
