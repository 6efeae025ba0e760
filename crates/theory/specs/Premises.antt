-- What the theorems ask for is there: closings for every board within its measures, and boards.
use Rattle.std.specs.Prelude.{◌≡◌, ℕ, ◌≤◌, T, ◌⊎◌, List, [], ◌∷◌, length}
use Rattle.steps.specs.Steps.{Facts, Trace}
use Rattle.meaning.specs.Lists.{listed}
use Rattle.meaning.specs.Membership.{User, Role, State}
use Rattle.meaning.specs.Rules.{Policy}
use Rattle.meaning.specs.Sets.{members, only, Question, names, Askable}
use Rattle.meaning.specs.Runs.{Change, adds, moves, Permitted, Run}
use Rattle.meaning.specs.Regimes.{Administers, ObeysRegime}
use Rattle.theory.specs.Reach.{◌⊆◌, ClosedState}
use Rattle.meaning.specs.Rows.{Holder, FreeRows}
use Rattle.theory.specs.Bounds.{WithinMeasures}
use Rattle.theory.specs.Hire.{Tracking}
use Rattle.theory.specs.Verdicts.{TracksNamedUsers}
use Rattle.theory.specs.Delegation.{said, delegation, Shut, InSlots}
use Rattle.meaning.specs.Requirements.{always, never, Stands}
use Rattle.theory.specs.Worked.{state_of_pairs, three_users, first_board, open_board, revoking_board, asks, one_in_4, only_one_in_4}

-- what a delegation for the question starts from: the users with a row, those named and a hire, in slots, with the facts of the present state
pub record Prepared (p : Policy) (s : State) (q : Question) : Type 0 where
  pub looks_at : Tracking p s
  pub covered : TracksNamedUsers looks_at q
  pub users : List User
  pub slotted : InSlots looks_at users
  pub present : Facts
  pub says_present : (u : User) (r : Role) → said users present u r ≡ s u r
  pub few_tracked : (u : User) → T (looks_at.tracked u) → Holder s u ⊎ T (listed (names q) u)

-- and a closing of it, in at most n steps
pub record Closable (p : Policy) (s : State) (q : Question) (n : ℕ) : Type 0 where
  pub prepared : Prepared p s q
  pub run : List Change
  pub facts : Facts
  pub trace : Trace (delegation (λ c. c) p prepared.users) prepared.present run facts
  pub shut : Shut (delegation (λ c. c) p prepared.users) facts
  pub short : length run ≤ n

abbrev pub ClosingExists : ℕ → Type 0
ClosingExists n = (p : Policy) (s : State) → WithinMeasures p s → (q : Question) → Askable q → Closable p s q n

-- all that can be added on the first worked board
abbrev pub all_added : State
all_added = state_of_pairs ((1, 1) ∷ (2, 2) ∷ (3, 3) ∷ (1, 5) ∷ (1, 4) ∷ [])

-- the worked boards meet what the theorems ask of a board, a state, a question, a change and a run
pub record PremisesMet (n : ℕ) : Type 0 where
  pub measured_b1 : WithinMeasures first_board three_users
  pub regular_b1 : ObeysRegime first_board three_users
  pub measured_b2 : WithinMeasures revoking_board three_users
  pub regular_b2 : ObeysRegime revoking_board three_users
  pub administers_b2 : Administers revoking_board 2
  pub above : three_users ⊆ all_added
  pub closed : ClosedState (moves first_board) all_added
  pub smaller_static : Askable one_in_4
  pub larger_static : Askable only_one_in_4
  pub permitted : Permitted (moves first_board) three_users (adds 2 1 5 1)
  pub always_stands : Stands first_board three_users (always only_one_in_4)
  pub never_stands : Stands first_board three_users (never (asks (members 4) (only 2)))
  -- a run that adds to a user without a row, with room for it in n rows
  pub hiring : Run (moves open_board) three_users (adds 2 9 1 3 ∷ adds 2 9 5 1 ∷ adds 3 9 4 2 ∷ [])
  pub room : FreeRows three_users (adds 2 9 1 3 ∷ adds 2 9 5 1 ∷ adds 3 9 4 2 ∷ []) n
