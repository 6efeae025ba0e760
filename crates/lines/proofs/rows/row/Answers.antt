use Rattle.std.proofs.Common.{◌≡◌, Some, Err, sym, ap, ◌∙◌, subst, rules, arith}
use Rattle.grammar.specs.Text.{rest, taken}
use Rattle.grammar.specs.declared.grounds.Ground.TheVariants.{Syntax, Range}
use Rattle.lines.specs.Lists.{Listed, Noted}
use Rattle.lines.specs.Readings.{RowRead}
use Rattle.lines.proofs.Rowing.{row_no_number, row_no_middle, row_no_roles, row_range_roles, row_range_number, row_read}
use Rattle.lines.proofs.rows.row.Goals as goal

pub returns-in_err-number : goal.returns-in_err-number
returns-in_err-number g c limit of m ok =
    let q : c.from_residual.result ≡ Err Syntax = grind arith in
    let e = c.entry.ensures.read ∙ ap (λ o. taken o (rest c.entry.new.r)) c.in_err-number.ensures.ok_part in
    subst (RowRead c.args.letter limit c.args.between.now (rest c.args.r.now) of) (sym q) (row_no_number _ limit _ _ ok e)

pub returns-then-not-takes : goal.returns-then-not-takes
returns-then-not-takes g c limit of m ok =
    let e = c.entry.ensures.read ∙ ap (λ o. taken o (rest c.entry.new.r)) c.in_ok-number.ensures.ok_part in
    row_no_middle _ limit _ _ ok c.in_ok-number.number _ e _ c.if-not-takes.ensures.read

pub returns-in_err-named : goal.returns-in_err-named
returns-in_err-named g c limit of m ok =
    let q : c.from_residual-in_err-named.result ≡ Err Syntax = search rules in
    let e = c.entry.ensures.read ∙ ap (λ o. taken o (rest c.entry.new.r)) c.in_ok-number.ensures.ok_part in
    let l = subst (Listed 114 Noted (rest c.takes.new.self)) c.in_err-named.ensures.ok_part c.roles.ensures.read in
    subst (RowRead c.args.letter limit c.args.between.now (rest c.args.r.now) of) (sym q) (row_no_roles _ limit _ _ ok _ _ e _ c.if-not-takes.ensures.read l)

pub returns-in_err-names : goal.returns-in_err-names
returns-in_err-names g c limit of m ok =
    let q : c.from_residual-in_err-names.result ≡ Err Range = search rules in
    let e = c.entry.ensures.read ∙ ap (λ o. taken o (rest c.entry.new.r)) c.in_ok-number.ensures.ok_part in
    let l = subst (Listed 114 Noted (rest c.takes.new.self)) (c.in_ok-named.ensures.ok_part ∙ ap Some c.in_err-names.ensures.ok_part) c.roles.ensures.read in
    subst (RowRead c.args.letter limit c.args.between.now (rest c.args.r.now) of) (sym q) (row_range_roles _ limit _ _ ok _ _ e _ c.if-not-takes.ensures.read l)

pub returns-in_err-subject : goal.returns-in_err-subject
returns-in_err-subject g c limit of m ok =
    let q : c.from_residual-in_err-subject.result ≡ Err Range = search rules in
    let e = c.entry.ensures.read ∙ ap (λ o. taken o (rest c.entry.new.r)) c.in_ok-number.ensures.ok_part in
    let l = subst (Listed 114 Noted (rest c.takes.new.self)) c.in_ok-named.ensures.ok_part c.roles.ensures.read in
    let n = rw c.in_err-subject.ensures.ok_part at (m c.in_ok-number.number c.subject.result c.subject.ensures) in
    subst (RowRead c.args.letter limit c.args.between.now (rest c.args.r.now) of) (sym q) (row_range_number _ limit _ _ ok _ _ e _ c.if-not-takes.ensures.read _ l n)

pub returns : goal.returns
returns g c limit of m ok =
    let e = c.entry.ensures.read ∙ ap (λ o. taken o (rest c.entry.new.r)) c.in_ok-number.ensures.ok_part in
    let l = subst (Listed 114 Noted (rest c.takes.new.self)) (c.in_ok-named.ensures.ok_part ∙ ap Some c.in_ok-names.ensures.ok_part) c.roles.ensures.read in
    let n = rw c.in_ok-subject.ensures.ok_part at (m c.in_ok-number.number c.subject.result c.subject.ensures) in
    row_read _ limit _ _ ok _ _ e _ c.if-not-takes.ensures.read _ l of _ n
