use Rattle.planning.proofs.Masking.{ranked}
use Rattle.planning.proofs.masks.masks_of.Goals as goal

pub returns : goal.returns
returns c =
    ranked c.args.tables.now c.juniors-below.result c.seniors-seniors.result c.givers-givers.result
    c.juniors-below.ensures.full c.seniors-seniors.ensures.full c.givers-givers.ensures.full c.givers-givers.ensures.given
    c.juniors-below.ensures.says c.seniors-seniors.ensures.says c.givers-givers.ensures.says
