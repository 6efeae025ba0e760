-- The least user from a number on who has a row.
use Rattle.std.specs.Prelude.{ℕ, ◌<◌, ◌≤◌, List, length}
use Rattle.meaning.specs.Measures.{users}
use Rattle.tables.specs.declared.entries.Row.{Row}
use Rattle.tables.specs.Rows.{row_at, Used}

-- it is not past the number that no user has, and no row in use is of a user in between
pub record Next (rows : List Row) (from next : ℕ) : Type 0 where
  pub onward : from ≤ users → from ≤ next
  pub inside : next ≤ users
  pub least : (i : ℕ) → i < length rows → Used (row_at rows i) → from ≤ (row_at rows i).user.number → next ≤ (row_at rows i).user.number
