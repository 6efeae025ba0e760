-- What is promised of every call of a story, and of the runs that it hands out.
use Rattle.std.specs.Prelude.{◌≡◌, ℕ, Bool, ◌⊎◌, List, [], ◌∷◌, Some, None}
use Rattle.meaning.specs.Measures.{rows}
use Rattle.meaning.specs.Lists.{Nth}
use Rattle.meaning.specs.Rows.{FreeRows}
use Rattle.meaning.specs.Runs.{Change, adds, removes, end}
use Rattle.meaning.specs.Regimes.{ObeysRegime}
use Rattle.meaning.specs.Requirements.{Requirement, Stands}
use Rattle.meaning.specs.Witnesses.{OnlyRemoves}
use Rattle.book.specs.Book.{Book, new_book, with_state}
use Rattle.book.specs.Orderly.{Orderly}
use Rattle.book.specs.Calls.{Call, adding, removing}
use Rattle.book.specs.Outcomes.{Answer, done, truth, verdict, refused, Outcome}

-- ---- the runs that are handed out

-- the delegates' call that asks for a change; by which rule it is permitted is not asked
abbrev pub call_of : Change → Call
call_of (adds a u r k) = adding a u r
call_of (removes a u r k) = removing a u r

-- the delegates' calls that ask for the changes are done, each on the board that those before it left, and come to this board
abbrev pub DoneInTurn : Book → List Change → Book → Type 0
DoneInTurn b [] z = z ≡ b
DoneInTurn b (x ∷ xs) z = (m : Book) × Outcome b (call_of x) done m × DoneInTurn m xs z

-- so the calls come to the end of a run that removes; of one that adds, where there is a free row for each user that it adds to who has none
abbrev pub DelegatesGrant : Book → List Change → Type 0
DelegatesGrant b run = OnlyRemoves run ⊎ FreeRows b.state run rows → DoneInTurn b run (with_state (end b.state run) b)

abbrev pub AnswerGranted : Book → Answer → Type 0
AnswerGranted b (verdict kind is_so (Some run)) = DelegatesGrant b run
AnswerGranted b a = Unit {0}

-- ---- the board that is left

-- in the present and in every state that delegates can reach, each 'always' is true and no 'never' is
abbrev pub AllStand : Book → Type 0
AllStand b = (k : ℕ) (d : Requirement) → Nth k d b.requirements → Stands b.policy b.state d

-- in order, with the properties of its regime, and with every requirement standing
pub record Secure (b : Book) : Type 0 where
  pub orderly : Orderly b
  pub regular : ObeysRegime b.policy b.state
  pub stand : AllStand b

-- ---- one outcome

-- both are done, both say one truth, both are a verdict (exact, by its outcome), or both refuse with one number, line and requirement
abbrev pub Agree : Answer → Answer → Type 0
Agree (refused d run) (refused e other) = (d.number ≡ e.number) × (d.line ≡ e.line) × (d.requirement ≡ e.requirement)
Agree done done = Unit {0}
Agree (truth is_so) (truth holds) = is_so ≡ holds
Agree (verdict kind is_so run) (verdict other holds shown) = Unit {0}
Agree a c = ⊥

-- whatever else the call could come to, it is answered alike and leaves the same book
abbrev pub OnlyOutcome : Book → Call → Answer → Book → Type 0
OnlyOutcome b c a z = (other : Answer) (y : Book) → Outcome b c other y → Agree other a × (y ≡ z)

-- ---- the promise

-- a call of a story comes to this and to nothing else, the board that it leaves is secure, and the delegates' calls grant the run that shows its answer
pub record Promised (b : Book) (c : Call) (a : Answer) (z : Book) : Type 0 where
  pub outcome : Outcome b c a z
  pub only : OnlyOutcome b c a z
  pub secure : Secure z
  pub granted : AnswerGranted b a

-- the calls, each with its answer, lead from one book to another: each is made on the book that those before it left, and is promised
abbrev pub Leads : Book → List (Call × Answer) → Book → Type 0
Leads b [] z = z ≡ b
Leads b (x ∷ xs) z = (m : Book) × Promised b x.0 x.1 m × Leads m xs z

-- some calls lead to this book from a new board
abbrev pub IsReached : Book → Type 0
IsReached z = (calls : List (Call × Answer)) × Leads new_book calls z
