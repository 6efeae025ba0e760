use Rattle.std.proofs.Common.{rules, ◌≡◌, ℕ, ◌+◌, ◌≤◌, List, length, Ok, Err, Result, subst, subst₂}
use mathlib.Core.Path.{subst⁻¹}
use Rattle.grammar.specs.Text.{rest}
use Rattle.meaning.specs.declared.terms.Regime.{Regime}
use Rattle.texts.specs.declared.faults.Fault.{Fault}
use Rattle.texts.specs.Board.{Begins}
use Rattle.drafts.specs.View.{book_of}
use Rattle.book.specs.Book.{Book}
use Rattle.book.specs.Faults.{refusal_of}
use Rattle.book.specs.Calls.{Feeds}
use Rattle.entering.specs.Opening.{Opened, LinesPut}
use Rattle.entering.proofs.Beginning.{begin_refused, short, line_refused, reads}
use Rattle.entering.proofs.opening.opened.Goals as goal

-- the text begins as it is read
begins : (s text : List ℕ) (r : Result Regime Fault) (after : List ℕ) → s ≡ text → Begins s r after → Begins text r after
begins s text r after e h = subst (λ (x : List ℕ). Begins x r after) e h

pub returns-in_err-regime : goal.returns-in_err-regime
returns-in_err-regime c =
    let f = c.in_err-regime.field-0.0 in
    let q : c.from_residual.result ≡ Err (refusal_of f) = search rules in
    subst⁻¹ (Opened c.args.text.now) q
    (begin_refused c.args.text.now f (rest c.begin.new.r) (begins (rest c.new-r.result) c.args.text.now (Err f) (rest c.begin.new.r) c.new-r.ensures.rest c.in_err-regime.ensures.read))

pub put_lines-requires : goal.put_lines-requires
put_lines-requires c =
    let text = c.args.text.now in
    let begun = begins (rest c.new-r.result) text (Ok c.in_ok-regime.regime) (rest c.begin.new.r) c.new-r.ensures.rest c.in_ok-regime.ensures.read in
    subst⁻¹ (λ (k : ℕ). k + length (rest c.begin.new.r) ≤ 100000) c.in_ok-regime.ensures.line (short text c.in_ok-regime.regime (rest c.begin.new.r) begun)

pub returns-in_err-put_lines : goal.returns-in_err-put_lines
returns-in_err-put_lines c =
    let q : c.from_residual-in_err-put_lines.result ≡ Err c.in_err-put_lines.field-0.0 = search rules in
    let text = c.args.text.now in
    let begun = begins (rest c.new-r.result) text (Ok c.in_ok-regime.regime) (rest c.begin.new.r) c.new-r.ensures.rest c.in_ok-regime.ensures.read in
    let e = c.in_err-put_lines.field-0.0 in
    let z = book_of c.put_lines.new.draft.tables in
    subst⁻¹ (Opened text) q
    (line_refused text c.in_ok-regime.regime (rest c.begin.new.r) begun e z
    (subst₂ (λ (k : ℕ) (b : Book). LinesPut k (rest c.begin.new.r) b (Err e) z) c.in_ok-regime.ensures.line c.blank-draft.ensures c.in_err-put_lines.ensures))

pub returns : goal.returns
returns c =
    let text = c.args.text.now in
    let begun = begins (rest c.new-r.result) text (Ok c.in_ok-regime.regime) (rest c.begin.new.r) c.new-r.ensures.rest c.in_ok-regime.ensures.read in
    let z = book_of c.put_lines.new.draft.tables in
    reads text c.in_ok-regime.regime (rest c.begin.new.r) begun z (subst (λ (b : Book). Feeds b (rest c.begin.new.r) z) c.blank-draft.ensures c.in_ok-put_lines.ensures)
