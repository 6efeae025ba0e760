use Rattle.soundness.proofs.Freshness.{sound_new}
use Rattle.soundness.proofs.valid.Valid.new_board.Goals as goal

pub invariant_of-result : goal.invariant_of-result
invariant_of-result c = record { sound = λ unsound. unsound (sound_new c.new-tables.result c.new-tables.ensures.policy) }
