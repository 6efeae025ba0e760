-- What a call on rows makes of the tables, and of the state that they say.
use Rattle.std.specs.Prelude.{◌≡◌, ℕ, not, ◌&&◌, ◌||◌, Result, MatchResult, ◌==◌, slice_set}
use Rattle.meaning.specs.Membership.{State, User as UserNumber, Role as RoleNumber, Row as RoleRow}
use Rattle.meaning.specs.Rows.{Holder, FreeRow}
use Rattle.rbac.specs.Roles.{one_role}
use Rattle.tables.specs.declared.entries.Row.{Row}
use Rattle.tables.specs.declared.rows.Rows.{Rows}
use Rattle.tables.specs.declared.calls.RowsFull.{RowsFull}
use Rattle.tables.specs.declared.tables.Tables.{Tables}
use Rattle.tables.specs.View.{rows_of, state_of}
use Rattle.tables.specs.Rows.{row_at, Used}

-- the tables with other rows, and all else as it was
abbrev pub with_rows : Tables → Rows → Tables
with_rows t other = record t { rows = other }

-- a user's pairs with these roles
abbrev pub pairs : UserNumber → RoleRow → State
pairs u rs v q = v == u && rs q

-- the state with them, and without them
abbrev pub plus : State → UserNumber → RoleRow → State
plus s u rs v q = s v q || pairs u rs v q

abbrev pub minus : State → UserNumber → RoleRow → State
minus s u rs v q = s v q && not (pairs u rs v q)

-- the roles were assigned to the user in one row, and nothing else changed; where the user had no row, one was free
pub record Done (t : Tables) (u : UserNumber) (rs : RoleRow) (after : Tables) : Type 0 where
  pub place : ℕ
  pub row : Row
  pub one_row : rows_of after ≡ slice_set (rows_of t) place row
  pub others : after ≡ with_rows t after.rows
  pub state : state_of after ≡ plus (state_of t) u rs
  pub room : (Holder (state_of t) u → ⊥) → FreeRow (state_of t)

-- every row is in use, by other users: nothing changed
pub record Full (t : Tables) (u : UserNumber) (after : Tables) : Type 0 where
  pub same : after ≡ t
  pub no_row : Holder (state_of t) u → ⊥
  pub no_room : FreeRow (state_of t) → ⊥

abbrev pub AllAssigned : Tables → UserNumber → RoleRow → Result (Unit {0}) RowsFull → Tables → Type 0
AllAssigned t u rs done after = MatchResult done (λ _. Done t u rs after) (λ _. Full t u after)

-- the row is this user's
abbrev pub IsOf : UserNumber → Row → Type 0
IsOf u x = Used x × (x.user.number ≡ u)

-- the roles were taken from the user, and nothing else changed: no row of another user, and no row that is free
pub record AllUnassigned (t : Tables) (u : UserNumber) (rs : RoleRow) (after : Tables) : Type 0 where
  pub other_rows : (i : ℕ) → (IsOf u (row_at (rows_of t) i) → ⊥) → row_at (rows_of after) i ≡ row_at (rows_of t) i
  pub others : after ≡ with_rows t after.rows
  pub state : state_of after ≡ minus (state_of t) u rs

-- the same of one role
abbrev pub Assigned : Tables → UserNumber → RoleNumber → Result (Unit {0}) RowsFull → Tables → Type 0
Assigned t u r done after = AllAssigned t u (one_role r) done after

abbrev pub Unassigned : Tables → UserNumber → RoleNumber → Tables → Type 0
Unassigned t u r after = AllUnassigned t u (one_role r) after
