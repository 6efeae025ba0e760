use Rattle.std.proofs.Common.{refl}
use Rattle.tables.proofs.Marking.{all_clear}
use Rattle.tables.proofs.rows.Rows.new.Goals as goal

pub apart_in-requires : goal.apart_in-requires
apart_in-requires c = record { long = refl; clear = all_clear 1024 }
