use Rattle.std.proofs.Common.{◌≡◌, ◌<◌}
use mathlib.Core.Path.{subst⁻¹}
use Rattle.grammar.specs.Text.{rest}
use Rattle.book.specs.declared.refusal.Refusal.{Refusal}
use Rattle.book.specs.Numbers.{number_of}
use Rattle.drafts.specs.View.{book_of}
use Rattle.entering.proofs.Lined.{came, readable, puts, faulty, early, faulty_line}
use Rattle.entering.proofs.opening.put_line.Goals as goal
use Rattle.book.specs.Calls.{FaultyLine}

pub enter_in-requires : goal.enter_in-requires
enter_in-requires c = let (l, cut, line) = came c.args.r.now.line (rest c.args.r.now) (rest c.next.new.r) c.in-Ok-Some.field-0 c.in-Ok-Some.change c.next.new.extra c.in-Ok-Some.field-0-is c.in-Ok-Some.ensures.read in readable l c.in-Ok-Some.change c.next.new.extra line

pub returns-in-Ok-clause-put : goal.returns-in-Ok-clause-put
returns-in-Ok-clause-put c =
    let (l, cut, line) = came c.args.r.now.line (rest c.args.r.now) (rest c.next.new.r) c.in-Ok-Some.field-0 c.in-Ok-Some.change c.next.new.extra c.in-Ok-Some.field-0-is c.in-Ok-Some.ensures.read in
    puts l c.in-Ok-Some.change c.next.new.extra line (book_of c.args.draft.now.tables) (book_of c.enter_in.new.draft.tables) (rest c.args.r.now) (rest c.next.new.r) cut c.in-Ok.ensures

pub returns-in-Err-enter_in-clause-put : goal.returns-in-Err-enter_in-clause-put
returns-in-Err-enter_in-clause-put c =
    let (l, cut, line) = came c.args.r.now.line (rest c.args.r.now) (rest c.next.new.r) c.in-Ok-Some.field-0 c.in-Ok-Some.change c.next.new.extra c.in-Ok-Some.field-0-is c.in-Ok-Some.ensures.read in
    let b = book_of c.args.draft.now.tables in
    let z = book_of c.enter_in.new.draft.tables in
    let cause = c.in-Err-enter_in.cause in (
      faulty l c.in-Ok-Some.change c.next.new.extra line b z (rest c.args.r.now) (rest c.next.new.r) cut cause c.in-Err-enter_in.ensures,
      c.line-line.ensures,
      early l c.in-Ok-Some.change c.next.new.extra line b z (rest c.args.r.now) (rest c.next.new.r) cut cause c.in-Err-enter_in.ensures,
    )

pub returns-in-Err-clause-put : goal.returns-in-Err-clause-put
returns-in-Err-clause-put c =
    let b = book_of c.args.draft.now.tables in
    let s = rest c.args.r.now in
    let k = c.args.r.now.line in
    subst⁻¹ (λ (e : Refusal). FaultyLine b s (number_of e.cause) × (e.line ≡ k) × (number_of e.cause < 15)) c.from.ensures
    (faulty_line k b s (rest c.next.new.r) c.next.new.extra c.in-Err.fault c.in-Err.ensures.read)
