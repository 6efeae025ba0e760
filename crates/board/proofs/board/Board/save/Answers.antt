use Rattle.std.proofs.Common.{◌≡◌, ◌∙◌, ap}
use mathlib.Core.Path.{subst⁻¹}
use Rattle.std.specs.Option.{ok_or}
use Rattle.board.specs.View.{says}
use Rattle.board.specs.Saving.{SavedAs}
use Rattle.board.proofs.Reopening.{always_fits, always_restores}
use Rattle.board.proofs.Storing.{concluded}
use Rattle.board.proofs.board.Board.save.Goals as goal

pub returns-clause-saved : goal.returns-clause-saved
returns-clause-saved c =
    let b = says c.args.self.now in
    subst⁻¹ (λ r. SavedAs b c.args.place.now r c.save.new.place) (c.ok_or.ensures.value ∙ ap (ok_or c.save.result) c.from.ensures) (concluded b c.args.place.now c.save.new.place c.save.result (c.save.ensures c.args.self.now.neat))

pub returns-clause-fits : goal.returns-clause-fits
returns-clause-fits c = always_fits c.args.self.now

pub returns-clause-restores : goal.returns-clause-restores
returns-clause-restores c = always_restores c.args.self.now
