use Rattle.std.proofs.Common.{◌≡◌, false, sym, refl, ap, ◌∙◌, ⊎_elim, rules}
use borrow.Author.Tests.{clash}
use Rattle.grammar.specs.Text.{rest}
use Rattle.lines.specs.declared.keyword.Keyword.TheVariants.{Ua, Pa, Rh, Trust, Assign, Revoke, Always, Never, Possible, Necessary}
use Rattle.lines.specs.Lines.{asks}
use Rattle.texts.proofs.Starting.{wordless, misplaced, line_by}
use Rattle.texts.proofs.line.read_line.Goals as goal

pub returns-in_default : goal.returns-in_default
returns-in_default c = wordless false _ _ c.in_default.ensures

pub returns-in-Ua : goal.returns-in-Ua
returns-in-Ua c = line_by _ _ _ Ua c.in-Some.ensures c.in-Ua.is refl _ _ c.ua.ensures

pub returns-in-Pa : goal.returns-in-Pa
returns-in-Pa c = line_by _ _ _ Pa c.in-Some.ensures c.in-Pa.is refl _ _ (search rules)

pub returns-in-Rh : goal.returns-in-Rh
returns-in-Rh c = line_by _ _ _ Rh c.in-Some.ensures c.in-Rh.is refl _ _ c.rh.ensures

pub returns-in-Trust : goal.returns-in-Trust
returns-in-Trust c = line_by _ _ _ Trust c.in-Some.ensures c.in-Trust.is refl _ _ c.trust.ensures

pub returns-in-Assign : goal.returns-in-Assign
returns-in-Assign c = line_by _ _ _ Assign c.in-Some.ensures c.in-Assign.is refl _ _ c.assign.ensures

pub returns-in-Revoke : goal.returns-in-Revoke
returns-in-Revoke c = line_by _ _ _ Revoke c.in-Some.ensures c.in-Revoke.is refl _ _ c.revoke.ensures

pub returns-in-Always : goal.returns-in-Always
returns-in-Always c = line_by _ _ _ Always c.in-Some.ensures c.in-Always.is refl _ _ c.always.ensures

pub returns-in-Never : goal.returns-in-Never
returns-in-Never c = line_by _ _ _ Never c.in-Some.ensures c.in-Never.is refl _ _ c.never.ensures

pub returns-in-Possible : goal.returns-in-Possible
returns-in-Possible c = misplaced false _ (rest c.begins.new.r) c.in-Some.word c.in-Some.ensures (⊎_elim (λ (e : c.in-Some.word ≡ Possible). λ f. clash (sym f ∙ ap asks e)) (λ (e : c.in-Some.word ≡ Necessary). λ f. clash (sym f ∙ ap asks e)) c.in-Possible.is)
