use Rattle.std.proofs.Common.{sym}
use borrow.Author.Tests.{clash}
use Rattle.entering.proofs.Sameness.{not_everybody, asks_same}
use Rattle.entering.proofs.assigns.ask_same.Goals as goal

pub returns-in-Roles-other : goal.returns-in-Roles-other
returns-in-Roles-other c f g = (λ e. absurd (clash e), λ e. absurd (not_everybody _ _ _ c.in-Everybody.is c.in-Roles-other.is e))

pub returns-in-Everybody-other-2 : goal.returns-in-Everybody-other-2
returns-in-Everybody-other-2 c f g = (λ e. absurd (clash e), λ e. absurd (not_everybody _ _ _ c.in-Everybody-other-2.is c.in-Roles.is (sym e)))

pub returns-in-Roles-other-2 : goal.returns-in-Roles-other-2
returns-in-Roles-other-2 c f g = asks_same c.args.one.now c.args.other.now c.in-Roles.ones c.in-Roles-other-2.others c.in-Roles.is c.in-Roles-other-2.is f g c.are_same.result c.are_same.ensures
