-- The users that a question tracks, and the one hire that represents all others.
use Rattle.std.specs.Prelude.{◌≡◌, ℕ, ◌+◌, ◌<◌, Bool, cond, not, T, ◌⊎◌, List, length}
use Rattle.meaning.specs.Lists.{listed}
use Rattle.meaning.specs.Membership.{User, Role, IsUser, State}
use Rattle.meaning.specs.Rules.{Policy}
use Rattle.meaning.specs.Sets.{Question, names, Askable}
use Rattle.meaning.specs.Runs.{Change, Moves, moves, Run, end}
use Rattle.theory.specs.Bounds.{WithinMeasures}
use Rattle.theory.specs.Reach.{◌⊑◌, ◌⊆◌, ClosedState, Reaches}
use Rattle.meaning.specs.Rows.{Holder}
use Rattle.meaning.specs.Witnesses.{OnlyAdds}

-- a hire for a question: an untrusted user without a row whom the question does not name
pub record IsHire (p : Policy) (s : State) (q : Question) (hire : User) : Type 0 where
  pub a_user : IsUser hire
  pub untrusted : T (not (p.trusted hire))
  pub no_row : Holder s hire → ⊥
  pub not_named : T (not (listed (names q) hire))

-- where users with a row, users named and trusted users are fewer than n in all, there is a hire
abbrev pub HireAmong : ℕ → Type 0
HireAmong n =
    (p : Policy) (s : State) (q : Question) (row_holders trusted_list : List User)
    → ((u : User) → Holder s u → T (listed row_holders u)) → ((u : User) → T (p.trusted u) → T (listed trusted_list u))
    → length row_holders + length (names q) + length trusted_list < n
    → (hire : User) × IsHire p s q hire

-- so it is with n users, and so there is a hire on every board within its measures, for every question within its own
pub record HireExists (n : ℕ) : Type 0 where
  pub among : HireAmong n
  pub on_board : (p : Policy) (s : State) → WithinMeasures p s → (q : Question) → Askable q → (hire : User) × IsHire p s q hire

-- the tracked users, and a hire who is none of them; users who are not tracked have no row
pub record Tracking (p : Policy) (s : State) : Type 0 where
  pub tracked : User → Bool
  pub hire : User
  pub hire_is_user : IsUser hire
  pub hire_not_tracked : T (not (tracked hire))
  pub hire_not_trusted : T (not (p.trusted hire))
  pub others_hold_nothing : (u : User) (r : Role) → T (not (tracked u)) → T (s u r) → ⊥

-- a tracked user's representative is that user, everybody else's is the hire
abbrev pub representative : {p : Policy} {s : State} → Tracking p s → User → User
representative k u = cond (k.tracked u) u k.hire

-- everybody has what their representative has
abbrev pub by_representatives : {p : Policy} {s : State} → Tracking p s → State → State
by_representatives k t = λ u. t (representative k u)

-- the tracked users and the hire
abbrev pub TrackedOrHire : {p : Policy} {s : State} → Tracking p s → User → Type 0
TrackedOrHire k u = T (k.tracked u) ⊎ (u ≡ k.hire)

-- nothing more can be added by and to tracked users and the hire
abbrev pub ClosedAmongTracked : {p : Policy} {s : State} → Moves → Tracking p s → State → Type 0
ClosedAmongTracked m k t = (actor user : User) (role : Role) (number : ℕ) → TrackedOrHire k actor → TrackedOrHire k user → m.may_add t actor user role number → T (t user role)

-- a closing: a run of addings after which nothing more can be added by and to them
pub record Closing {p : Policy} {s : State} (m : Moves) (k : Tracking p s) (run : List Change) : Type 0 where
  pub lawful : Run m s run
  pub adding : OnlyAdds run
  pub closed : ClosedAmongTracked m k (end s run)

-- where everybody has what their representative has at a closing's end, the present state is held and nobody may add anything more; and each single user below n can come to have so much
pub record IsGreatestState {p : Policy} {s : State} (m : Moves) (k : Tracking p s) (top : State) (n : ℕ) : Type 0 where
  pub above : s ⊆ by_representatives k top
  pub closed : ClosedState m (by_representatives k top)
  pub each : (u : User) → u < n → Reaches m s (λ t. by_representatives k top u ⊑ t u)

-- one hire represents all users who are not tracked, among n users
abbrev pub HireRepresentsOthers : ℕ → Type 0
HireRepresentsOthers n =
    (p : Policy) (s : State) (k : Tracking p s) (run : List Change)
    → Closing (moves p) k run → IsGreatestState (moves p) k (end s run) n
