use Rattle.std.proofs.Common.{[], ◌∷◌, ◌++◌, sym, subst}
use Rattle.lines.specs.Lists.{Noted}
use Rattle.lines.proofs.Naming.{note_role, note_none}
use Rattle.lines.proofs.parts.Names.with.Goals as goal

pub returns-in_err-role : goal.returns-in_err-role
returns-in_err-role c ms h = subst (λ o. Noted o (ms ++ c.args.number ∷ [])) (sym c.from_residual.ensures) (note_none ms _ c.in_err-role.ensures)

pub returns : goal.returns
returns c ms h = note_role c.args.self ms _ c.in_ok-role.role.number _ c.contains.result h c.in_ok-role.ensures c.in_ok-role.role.small c.insert.ensures c.contains.ensures
