-- What saving a board answers.
use Rattle.std.specs.Prelude.{◌≡◌, ℕ, ◌≤◌, List, [], ◌++◌, length, drop, Ok, Err, Result}
use Rattle.meaning.specs.Measures.{list_places, work_words}
use Rattle.boardtext.specs.Canonical.{canonical_board}
use Rattle.book.specs.declared.refusal.Refusal.{Refusal}
use Rattle.book.specs.Book.{Book}
use Rattle.book.specs.Calls.{opening, saving}
use Rattle.book.specs.Outcomes.{Answer, done, Outcome}
use Rattle.board.specs.Answers.{refusal_by}

abbrev pub saved_by : Result ℕ Refusal → Answer
saved_by (Ok n) = done
saved_by (Err e) = refusal_by e []

-- the canonical text stands at the front of the place, as long as the answer says, and all behind it is as it was; a refusal leaves the place as it was
abbrev pub Placed : Book → List ℕ → Result ℕ Refusal → List ℕ → Type 0
Placed b place (Ok n) left = (n ≡ length (canonical_board b)) × (left ≡ canonical_board b ++ drop n place)
Placed b place (Err e) left = left ≡ place

-- saving the one canonical text of the book
pub record SavedAs (b : Book) (place : List ℕ) (result : Result ℕ Refusal) (left : List ℕ) : Type 0 where
  pub outcome : Outcome b (saving (canonical_board b) (length place)) (saved_by result) b
  pub placed : Placed b place result left

-- opening the canonical text makes an equal board of any board, where the list and the work table are long enough
abbrev pub Restores : Book → Type 0
Restores b = (before : Book) (list work : ℕ) → list_places ≤ list → work_words ≤ work → Outcome before (opening (canonical_board b) list work) done b
