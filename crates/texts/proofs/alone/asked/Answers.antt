use Rattle.std.proofs.Common.{◌≡◌, true, Err, Some, sym, ap, ◌∙◌, subst, rules}
use Rattle.grammar.specs.Text.{rest}
use Rattle.lines.specs.declared.keyword.Keyword.{Keyword}
use Rattle.texts.specs.Words.{Starts}
use Rattle.texts.specs.Sentences.{Asked}
use Rattle.texts.proofs.Starting.{wordless, misplaced}
use Rattle.texts.proofs.Single.{no_question, asks_by, asks_for, asks_in_vain}
use Rattle.texts.proofs.alone.asked.Goals as goal
use Rattle.texts.proofs.alone.asked.Goals.{After-sides, in-Possible, in-Necessary}

pub returns-in_default : goal.returns-in_default
returns-in_default c = wordless true _ _ c.in_default.ensures

pub returns-in_default-word : goal.returns-in_default-word
returns-in_default-word c = misplaced true _ (rest c.begins.new.r) c.in-Some.word c.in-Some.ensures (no_question c.in-Some.word c.in_default-word.not-Possible c.in_default-word.not-Necessary)

-- the word that was read is that of the question
starts : (c : After-sides) → Starts (rest c.args.r.now) (Some (asks_by c.match-word.kind)) (rest c.begins.new.r)
starts c =
    let word : c.in-Some.word ≡ asks_by c.match-word.kind = elim c.match-word.branch [
      | in-Possible w ↦ w.in-Possible.is ∙ ap asks_by (sym w.kind-is)
      | in-Necessary w ↦ w.in-Necessary.is ∙ ap asks_by (sym w.kind-is)
    ] in
    subst (λ (k : Keyword). Starts (rest c.args.r.now) (Some k) (rest c.begins.new.r)) word c.in-Some.ensures

pub returns-in_err-sides : goal.returns-in_err-sides
returns-in_err-sides c =
    let q : c.from_residual.result ≡ Err c.in_err-sides.field-0.0 = search rules in
    subst (λ a. Asked (rest c.args.r.now) a c.sides.new.extra) (sym q) (asks_in_vain _ _ c.sides.new.extra c.match-word.kind (starts (goal.at.returns-in_err-sides c).After-sides) _ c.in_err-sides.ensures)

pub returns : goal.returns
returns c = asks_for _ _ _ c.match-word.kind (starts (goal.at.returns c).After-sides) c.in_ok-sides.ensures
