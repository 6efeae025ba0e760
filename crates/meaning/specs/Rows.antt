-- Who has a row, and when rows are free.
use Rattle.std.specs.Prelude.{ℕ, ◌<◌, ◌≤◌, T, List, length, ◌+◌, ◌⊎◌, [], ◌∷◌}
use Rattle.meaning.specs.Measures.{rows}
use Rattle.meaning.specs.Lists.{listed, Apart}
use Rattle.meaning.specs.Membership.{User, Role, State}
use Rattle.meaning.specs.Runs.{Change, adds, removes}

-- some role is assigned to the user, who so has a row
abbrev pub Holder : State → User → Type 0
Holder s u = (r : Role) × T (s u r)

abbrev pub Holders : State → List User → Type 0
Holders s [] = Unit {0}
Holders s (u ∷ us) = Holder s u × Holders s us

-- there is a free row: fewer users have one than there are
abbrev pub FreeRow : State → Type 0
FreeRow s = (users : List User) → Apart users → Holders s users → length users < rows

-- this is so of each user that the run adds to
abbrev pub AddsTo : (User → Type 0) → List Change → Type 0
AddsTo P [] = Unit {0}
AddsTo P (adds a u r k ∷ xs) = P u × AddsTo P xs
AddsTo P (removes a u r k ∷ xs) = AddsTo P xs

-- among n rows there is a free one for each user that the run adds to who has none: `held` lists the users with a row, `new` those others
pub record FreeRows (s : State) (run : List Change) (n : ℕ) : Type 0 where
  pub held : List User
  pub new : List User
  pub all_held : (u : User) → Holder s u → T (listed held u)
  pub others_new : AddsTo (λ u. Holder s u ⊎ T (listed new u)) run
  pub room : length held + length new ≤ n
