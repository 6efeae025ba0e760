use Rattle.std.proofs.Common.{length, sym, ap, ◌∙◌, arith}
use Rattle.grammar.specs.Text.{rest}
use Rattle.trees.specs.Reading.{ok, bad, braces_at, nodes_in}
use Rattle.trees.proofs.Steps.{exit, pick_take, pick_not, brace_users}
use Rattle.trees.proofs.read.Builder.braces.Goals as goal

pub returns-then-take : goal.returns-then-take
unfolding braces_at
returns-then-take c =
    let t = c.if-take.ensures.read in
    record { read = pick_take 125 _ _ _ _ t ∙ c.push.ensures (rest c.take.new.self); less = omega (arith, ap length t) }

pub returns-in_err-users : goal.returns-in_err-users
returns-in_err-users c =
    let t = c.if-take.ensures.read in
    let k = c.in_err-users.ensures in
    record { read = exit _ _ _ _ _ c.from_residual.ensures.1 (brace_users _ _ _ _ t.0 (sym t.1) k.read); less = omega (arith, ap length t.1, k.less) }

pub returns-then-take-2 : goal.returns-then-take-2
returns-then-take-2 c =
    let t = c.if-take.ensures.read in
    let k = c.in_ok-users.ensures in
    let l = c.if-take-2.ensures.read in
    record { read = brace_users _ _ _ _ t.0 (sym t.1) k.read ∙ pick_take 125 _ _ _ _ l; less = omega (arith, ap length t.1, k.less, ap length l) }

pub returns-else-take-2 : goal.returns-else-take-2
returns-else-take-2 c =
    let t = c.if-take.ensures.read in
    let k = c.in_ok-users.ensures in
    let l = c.if-take-2.ensures.read in
    record { read = brace_users _ _ _ _ t.0 (sym t.1) k.read ∙ pick_not 125 (rest c.users.new.self.reader) (λ s1. ok s1 (nodes_in c.users.new.self.nodes)) bad l.0; less = omega (arith, ap length t.1, k.less, ap length l.1) }
