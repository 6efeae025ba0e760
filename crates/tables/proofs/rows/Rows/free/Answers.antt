use Rattle.std.proofs.Common.{refl}
use Rattle.tables.specs.declared.entries.Row.{Row}
use Rattle.tables.proofs.Freeing.{blank_free, blank_apart}
use Rattle.tables.proofs.rows.Rows.free.Goals as goal

pub invariant_of-result : goal.invariant_of-result
invariant_of-result c =
    let row : Row = record { user = c.from.result; roles = c.empty.result } in
    record { full = refl; apart = blank_apart _ row c.empty.ensures refl }

pub returns : goal.returns
returns c =
    let row : Row = record { user = c.from.result; roles = c.empty.result } in
    blank_free _ row c.empty.ensures refl
