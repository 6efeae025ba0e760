use Rattle.std.proofs.Common.{option_copied, sym, ap, ◌∙◌, rules}
use Rattle.tables.proofs.Looking.{row_roles, no_row_roles}
use Rattle.tables.proofs.tables.Tables.assigned.Goals as goal

pub returns-in-Some : goal.returns-in-Some
returns-in-Some c = row_roles c.args.self.now c.args.user.number c.in-Some.row.now (search rules) (sym c.row_of.ensures ∙ ap option_copied c.in-Some.is)

pub returns-in-None : goal.returns-in-None
returns-in-None c = c.empty.ensures ∙ no_row_roles c.args.self.now c.args.user.number (sym c.row_of.ensures ∙ ap option_copied c.in-None.is)
