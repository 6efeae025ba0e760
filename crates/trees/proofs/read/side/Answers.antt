use Rattle.std.proofs.Common.{◌≡◌, ℕ, List, [], sym, ap₂, ◌∙◌, subst, rules}
use Rattle.grammar.specs.Text.{rest}
use Rattle.trees.specs.Reading.{LeftOf, set_at, nodes_in}
use Rattle.trees.proofs.Build.{read_ok, read_bad}
use Rattle.trees.proofs.Single.{one_reading}
use Rattle.trees.proofs.Leaving.{all_left, set_left}
use Rattle.trees.proofs.read.side.Goals as goal
use Rattle.trees.proofs.read.side.Goals.{After-set}

begins : (c : After-set) → set_at c.args.levels (rest c.args.r.now) [] ≡ set_at c.args.levels (rest c.new.result) (nodes_in c.no_nodes.result)
begins c = ap₂ (set_at c.args.levels) (sym (c.new.ensures.rest ∙ c.rest.ensures)) (sym c.no_nodes.ensures)

pub returns-in-Ok : goal.returns-in-Ok
returns-in-Ok c = record { built = λ p y w e g. read_ok p _ _ _ _ _ w e g (begins (goal.at.returns-in-Ok c).After-set ∙ c.in-Ok.ensures.read); left = subst (λ (z : List ℕ). LeftOf z (rest c.set.new.self.reader)) (c.new.ensures.rest ∙ c.rest.ensures) (set_left _ _ _ _ _ c.in-Ok.ensures.read); one = one_reading _ _ }

pub returns-in-Err : goal.returns-in-Err
returns-in-Err c = record { built = λ p y w e g. absurd (read_bad p _ _ _ w e g (begins (goal.at.returns-in-Err c).After-set ∙ c.in-Err.ensures.read)); left = search (rules, all_left); one = one_reading _ _ }
