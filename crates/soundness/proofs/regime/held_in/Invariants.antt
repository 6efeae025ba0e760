use Rattle.std.proofs.Common.{◌≡◌, ℕ, ◌<◌, true, take}
use Rattle.meaning.specs.Measures.{users}
use Rattle.rbac.specs.Roles.{roles_of}
use Rattle.tables.specs.Rows.{is_used, row_at}
use Rattle.tables.proofs.Listing.{any}
use Rattle.soundness.proofs.Naming.{row_roles}
use Rattle.soundness.proofs.regime.held_in.Given as goal

abbrev pub invariant-loop-row : goal.invariant-loop-row
invariant-loop-row l =
    ((r : ℕ) → roles_of l.held r ≡ any row_roles (take l.row-index l.rows) r)
    × ((k : ℕ) → k < l.row-index → is_used (row_at l.rows k) ≡ true → (row_at l.rows k).user.number < users)
