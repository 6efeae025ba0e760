use Rattle.questions.proofs.Stillness.{static_told}
use Rattle.questions.proofs.statics.is_static.Goals as goal

pub returns : goal.returns
returns c = static_told c.args.set.now.nodes c.args.set.now.whole c.all_still.result c.entries.result.now c.entries.ensures.all c.all_still.ensures
