use Rattle.std.proofs.Common.{◌≡◌, Err, rules, sym, subst}
use Rattle.grammar.specs.Text.{rest}
use Rattle.drafts.specs.View.{book_of}
use Rattle.entering.specs.Opening.{LinesPut}
use Rattle.entering.proofs.Feeding.{one_more, stopped, ended}
use Rattle.entering.proofs.opening.put_lines.Goals as goal

pub returns-in_err-put_line : goal.returns-in_err-put_line
returns-in_err-put_line c =
    let q : c.from_residual.result ≡ Err c.in_err-put_line.field-0.0 = search rules in
    subst (λ r. LinesPut c.args.r.now.line (rest c.args.r.now) (book_of c.args.draft.now.tables) r (book_of c.put_line.new.draft.tables)) (sym q)
    (stopped c.args.r.now.line (book_of c.args.draft.now.tables) (rest c.args.r.now) c.lines.r.line (book_of c.lines.draft.tables) (rest c.lines.r) c.lines.invariant.1
    (book_of c.put_line.new.draft.tables) (book_of c.put_line.new.draft.tables) (rest c.put_line.new.r) c.in_err-put_line.field-0.0 c.in_err-put_line.ensures.put)

pub lines-preserved : goal.lines-preserved
lines-preserved c =
    one_more c.args.r.now.line (book_of c.args.draft.now.tables) (rest c.args.r.now) c.lines.r.line (book_of c.lines.draft.tables) (rest c.lines.r) c.lines.invariant.1
    (book_of c.put_line.new.draft.tables) (rest c.put_line.new.r) c.put_line.new.r.line c.in_ok-put_line.field-0 c.if-branch.true c.in_ok-put_line.ensures.put c.in_ok-put_line.ensures.line
    c.lines.invariant.0

pub returns : goal.returns
returns c =
    ended c.args.r.now.line (book_of c.args.draft.now.tables) (rest c.args.r.now) c.lines.r.line (book_of c.lines.draft.tables) (rest c.lines.r) c.lines.invariant.1
    (book_of c.put_line.new.draft.tables) (rest c.put_line.new.r) c.in_ok-put_line.field-0 c.if-branch.false c.in_ok-put_line.ensures.put
