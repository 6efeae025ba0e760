-- The rows of a board: which are in use and whose they are, and what happens to them when one of them is changed.
use Rattle.std.specs.Prelude.{◌≡◌, ℕ, ◌<◌, ◌*◌, Bool, false, ◌&&◌, T, List, length, ◌==◌, slice_index_or, slice_set}
use Rattle.words.specs.Words.{bits}
use Rattle.meaning.specs.Measures.{users, roles}
use Rattle.meaning.specs.Membership.{User as UserNumber, Role as RoleNumber}
use Rattle.theory.specs.Tests.{some}
use Rattle.rbac.specs.declared.users.User.{User}
use Rattle.rbac.specs.declared.sets.RoleSet.{RoleSet}
use Rattle.rbac.specs.Roles.{roles_of, of_either, of_first}
use Rattle.tables.specs.declared.entries.Row.{Row}

-- what is read past the last row
abbrev pub no_row : Row
no_row = record { user = record { number = 0 }; roles = record { word = 0 } }

-- the row at a place, counted from 0
abbrev pub row_at : List Row → ℕ → Row
row_at list i = slice_index_or list i no_row

-- some role stands in the row
abbrev pub Used : Row → Type 0
Used x = (r : RoleNumber) × T (roles_of x.roles r)

-- two rows in use have one user
abbrev pub Clash : List Row → ℕ → ℕ → Type 0
Clash list i j = (i < j) × (j < length list) × Used (row_at list i) × Used (row_at list j) × ((row_at list i).user.number ≡ (row_at list j).user.number)

-- no user has two rows
abbrev pub OneRowEach : List Row → Type 0
OneRowEach list = (i j : ℕ) → Clash list i j → ⊥

-- a row is in use while some role stands in it, and it is this user's where it is in use and has that number
unfoldable pub is_used : Row → Bool
is_used x = some roles (roles_of x.roles)

abbrev pub is_of : UserNumber → Row → Bool
is_of u x = is_used x && x.user.number == u

-- the row after a change: these roles more, for this user
abbrev pub Given : User → RoleSet → Row → Row → Type 0
Given u rs x y = (y.user ≡ u) × (roles_of y.roles ≡ of_either (roles_of x.roles) (roles_of rs))

-- or these roles less
abbrev pub Taken : RoleSet → Row → Row → Type 0
Taken rs x y = (y.user ≡ x.user) × (roles_of y.roles ≡ of_first (roles_of x.roles) (roles_of rs))

-- only the row at this place was changed, and so
pub record Lent (change : Row → Row → Type 0) (list : List Row) (place : ℕ) (after : List Row) : Type 0 where
  pub row : Row
  pub changed : change (row_at list place) row
  pub others : after ≡ slice_set list place row

-- whatever row the change of the one at this place makes, no user has two
abbrev pub LeavesOneRowEach : (Row → Row → Type 0) → List Row → ℕ → Type 0
LeavesOneRowEach change list place = (x : Row) → change (row_at list place) x → OneRowEach (slice_set list place x)

-- a table with a bit for each user, none of them set
pub record Blank (words : List ℕ) : Type 0 where
  pub long : length words * 64 ≡ users
  pub clear : (u : ℕ) → bits words u ≡ false
