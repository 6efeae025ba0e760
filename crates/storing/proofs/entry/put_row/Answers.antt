use Rattle.std.proofs.Common.{sym, ap, ◌∙◌}
use Rattle.meaning.specs.Measures.{roles as all_roles}
use Rattle.rbac.specs.Roles.{roles_of}
use Rattle.pen.specs.Ascending.{ascending}
use Rattle.pen.proofs.Join.{none, to}
use Rattle.boardtext.specs.Canonical.{ended, row_line}
use Rattle.storing.proofs.Walking.{empty_row, full_row, line_of}
use Rattle.storing.proofs.entry.put_row.Goals as goal

pub returns-then-not-is_empty : goal.returns-then-not-is_empty
returns-then-not-is_empty c word n h =
    let (e, t) = h c.new.result in
    to _ _ _ _ (ap ended e ∙ line_of word n (ascending (roles_of c.args.roles) all_roles) (full_row c.args.roles c.is_empty.result c.is_empty.ensures c.if-not-is_empty.true)) (c.put.ensures t)

pub returns-else-not-is_empty : goal.returns-else-not-is_empty
returns-else-not-is_empty c word n h = to _ _ _ _ (sym (ap (row_line word n) (empty_row c.args.roles c.is_empty.result c.is_empty.ensures c.if-not-is_empty.false))) (none c.args.w.now)
