use Rattle.std.proofs.Common.{◌≡◌, ◌∷◌, Some, Err, sym, ap, ◌∙◌, subst, rules}
use Rattle.grammar.specs.Text.{rest}
use Rattle.trees.proofs.Steps.{passed}
use Rattle.texts.specs.Answers.{sign_of}
use Rattle.texts.specs.Sentences.{Changed}
use Rattle.texts.proofs.Single.{change_refused, change_read}
use Rattle.texts.proofs.alone.changed.Goals as goal
use Rattle.texts.proofs.alone.changed.Goals.{After-read_line, in-Some-eq43, in-Some-eq45}

-- the sign of the way was seen and passed
signed : (c : After-read_line) → rest c.args.r.now ≡ sign_of c.match-sign-2.way' ∷ rest c.skip.new.self
signed c =
    let seen : c.sign.result ≡ Some (sign_of c.match-sign-2.way') = elim c.match-sign-2.branch [
      | in-Some-eq43 w ↦ let s : c.sign.result ≡ Some 43 = search rules in s ∙ ap (λ v. Some (sign_of v)) (sym w.way'-is)
      | in-Some-eq45 w ↦ let s : c.sign.result ≡ Some 45 = search rules in s ∙ ap (λ v. Some (sign_of v)) (sym w.way'-is)
    ] in
    passed _ _ _ _ c.sign.ensures seen c.skip.ensures.read

pub returns-in_err-change : goal.returns-in_err-change
returns-in_err-change c =
    let q : c.from_residual.result ≡ Err c.in_err-change.field-0.0 = search rules in
    subst (λ a. Changed (rest c.args.r.now) a c.read_line.new.extra) (sym q) (change_refused _ _ _ (signed (goal.at.returns-in_err-change c).After-read_line) _ c.read_line.new.extra c.in_err-change.ensures)

pub returns : goal.returns
returns c = change_read _ _ _ (signed (goal.at.returns c).After-read_line) _ _ c.in_ok-change.ensures
