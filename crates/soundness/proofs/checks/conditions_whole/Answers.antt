use Rattle.std.proofs.Common.{ℕ, List, Decides, subst}
use Rattle.meaning.specs.Lists.{Nth}
use Rattle.tables.specs.declared.entries.AssignEntry.{AssignEntry}
use Rattle.soundness.specs.Valid.{Whole}
use Rattle.soundness.proofs.checks.conditions_whole.Goals as goal

pub returns : goal.returns
returns c = subst (λ (es : List AssignEntry). Decides c.all_whole.result ((k : ℕ) (e : AssignEntry) → Nth k e es → Whole e.needs)) c.entries.ensures.all c.all_whole.ensures
