-- What an officer's change makes of a draft, before it is weighed as a whole.
use Rattle.std.specs.Prelude.{◌≡◌, ℕ, List, Ok, Err, Result}
use Rattle.lines.specs.Languages.{Says}
use Rattle.texts.specs.Answers.{Changing, changes}
use Rattle.book.specs.declared.refusal.Refusal.{Refusal}
use Rattle.book.specs.Numbers.{number_of}
use Rattle.book.specs.Book.{Book}
use Rattle.book.specs.Calls.{LeastOf, ChangeRefuses, Makes, line_of}
use Rattle.book.specs.Refusals.{Any, whole}
use Rattle.drafts.specs.declared.draft.Draft.{Draft}
use Rattle.drafts.specs.View.{book_of}
use Rattle.entering.specs.Opening.{Early}
use Rattle.book.specs.Says.{line_entry}

-- the text is a change that makes this book, and nothing but what a whole board is weighed for can refuse it
pub record Makeable (b : Book) (text : List ℕ) (list work : ℕ) (z : Book) : Type 0 where
  pub change : Changing
  pub said : Says changes text change
  pub makes : Makes change.way (line_entry change.line) b z
  pub left : (n : ℕ) → ChangeRefuses b text list work n → Any (whole z) n

-- the draft as the change makes it; else the least number that refuses the change, whatever a whole board is weighed for
abbrev pub Changed : Book → List ℕ → ℕ → ℕ → Result Draft Refusal → Type 0
Changed b text list work (Ok d) = Makeable b text list work (book_of d.tables)
Changed b text list work (Err e) = LeastOf (ChangeRefuses b text list work) (number_of e.cause) × (e.line ≡ line_of (number_of e.cause)) × Early e
