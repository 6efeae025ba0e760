use Rattle.std.proofs.Common.{◌≡◌, ℕ, ◌+◌, ◌<◌, ◌/◌, ◌^◌, ◌∙◌, sym, ap, subst, arith, rules, w64}
use Rattle.std.specs.Int.{trailing_zeros}
use Rattle.std.proofs.lemmas.Nat.{trailing_le, shr-shr}
use Rattle.words.specs.Words.{bit, bits}
use Rattle.words.proofs.Rows.{first_word}
use Rattle.words.proofs.Bits.{FirstFrom, first_from}
use Rattle.hierarchy.proofs.seniority.next_fact.Goals as goal
use Rattle.hierarchy.proofs.seniority.next_fact.Goals.{After-word}

found : (c : After-word) → FirstFrom c.word.result (c.args.role + 1) (c.args.role + 1 + trailing_zeros w64 (c.word.result / 2 ^ c.args.role / 2 ^ 1))
found c =
    let w = c.word.result in
    let n = c.args.role in
    subst (λ v. FirstFrom w (n + 1) (n + 1 + trailing_zeros w64 v)) (sym (shr-shr w n 1)) (first_from w (n + 1) (search rules))

in_word : (c : After-word) (k : ℕ) → k < 64 → bits c.args.facts.now k ≡ bit c.word.result k
in_word c k low = first_word c.args.facts.now k low ∙ ap (λ w. bit w k) (sym c.word.ensures)

pub returns-clause-near : goal.returns-clause-near
returns-clause-near c = let most = trailing_le 64 (c.word.result / 2 ^ c.args.role / 2 ^ 1) in omega (arith, c.requires)

pub returns-clause-first : goal.returns-clause-first
returns-clause-first c = λ k after to low. in_word (goal.at.returns-clause-first c).After-word k low ∙ (found (goal.at.returns-clause-first c).After-word).first k (omega (arith, after)) to

pub returns-clause-fact : goal.returns-clause-fact
returns-clause-fact c = λ low. in_word (goal.at.returns-clause-fact c).After-word _ low ∙ (found (goal.at.returns-clause-fact c).After-word).there low
