use Rattle.std.proofs.Common.{length, refl, ap, ◌∙◌, arith, rules}
use Rattle.trees.specs.declared.nodes.Node.TheVariants.{Or, And, Role, Permission}
use Rattle.grammar.specs.Text.{rest, begins}
use Rattle.trees.specs.Reading.{ok, bad, set_at, term_at, factor_at, nodes_in}
use Rattle.trees.proofs.Steps.{exit, opens, is_role, is_permission, is_braces, is_none, inside_none, inside_some, pick_take, pick_not, passed, unlike}
use Rattle.trees.proofs.Turns.{begun, begun_bad, item_bad, turned, add_bad, ended}
use Rattle.trees.proofs.read.Builder.+factor_set_term.Goals as goal

pub set-returns-in_err-term : goal.set-returns-in_err-term
unfolding set_at
set-returns-in_err-term t c = begun_bad 124 Or (term_at c.args.levels) _ _ _ _ _ c.in_err-term.ensures c.from_residual.ensures.1

pub set-terms-init : goal.set-terms-init
set-terms-init t c = begun 124 Or (term_at c.args.levels) _ _ _ c.in_ok-term.ensures

pub set-returns-in_err-term-in-Some-eq124 : goal.set-returns-in_err-term-in-Some-eq124
unfolding set_at
set-returns-in_err-term-in-Some-eq124 t c =
    item_bad 124 Or (term_at c.args.levels) _ _ c.terms.invariant _ (passed _ _ _ 124 c.sign.ensures (search rules) c.skip.ensures.read) _ _ _ _ c.in_err-term-in-Some-eq124.ensures c.from_residual-in_err-term-in-Some-eq124.ensures.1

pub set-terms-preserved : goal.set-terms-preserved
set-terms-preserved t c =
    turned 124 Or (term_at c.args.levels) _ _ c.terms.invariant _ (passed _ _ _ 124 c.sign.ensures (search rules) c.skip.ensures.read) _ _ c.in_ok-term-in-Some-eq124.ensures _ _ (c.in_ok-push-in-Some-eq124.ensures (rest c.term-in-Some-eq124.new.self.reader))

pub set-returns-in_err-push-in-Some-eq124 : goal.set-returns-in_err-push-in-Some-eq124
unfolding set_at
set-returns-in_err-push-in-Some-eq124 t c =
    add_bad 124 Or (term_at c.args.levels) _ _ c.terms.invariant _ (passed _ _ _ 124 c.sign.ensures (search rules) c.skip.ensures.read) _ _ c.in_ok-term-in-Some-eq124.ensures _ _ _ (c.in_err-push-in-Some-eq124.ensures (rest c.term-in-Some-eq124.new.self.reader)) c.from_residual-in_err-push-in-Some-eq124.ensures.1

pub set-returns-in_default : goal.set-returns-in_default
unfolding set_at
set-returns-in_default t c = ended 124 Or (term_at c.args.levels) _ _ c.terms.invariant (unlike _ _ 124 c.sign.ensures (search rules)) _ refl

pub set-returns-in_default-2 : goal.set-returns-in_default-2
unfolding set_at
set-returns-in_default-2 t c = ended 124 Or (term_at c.args.levels) _ _ c.terms.invariant (unlike _ _ 124 c.sign.ensures (search rules)) _ refl

pub term-returns-in_err-factor : goal.term-returns-in_err-factor
unfolding term_at
term-returns-in_err-factor t c = begun_bad 38 And (factor_at c.args.levels) _ _ _ _ _ c.in_err-factor.ensures c.from_residual.ensures.1

pub term-factors-init : goal.term-factors-init
term-factors-init t c = begun 38 And (factor_at c.args.levels) _ _ _ c.in_ok-factor.ensures

pub term-returns-in_err-factor-in-Some-eq38 : goal.term-returns-in_err-factor-in-Some-eq38
unfolding term_at
term-returns-in_err-factor-in-Some-eq38 t c =
    item_bad 38 And (factor_at c.args.levels) _ _ c.factors.invariant _ (passed _ _ _ 38 c.sign.ensures (search rules) c.skip.ensures.read) _ _ _ _ c.in_err-factor-in-Some-eq38.ensures c.from_residual-in_err-factor-in-Some-eq38.ensures.1

pub term-factors-preserved : goal.term-factors-preserved
term-factors-preserved t c =
    turned 38 And (factor_at c.args.levels) _ _ c.factors.invariant _ (passed _ _ _ 38 c.sign.ensures (search rules) c.skip.ensures.read) _ _ c.in_ok-factor-in-Some-eq38.ensures _ _ (c.in_ok-push-in-Some-eq38.ensures (rest c.factor-in-Some-eq38.new.self.reader))

pub term-returns-in_err-push-in-Some-eq38 : goal.term-returns-in_err-push-in-Some-eq38
unfolding term_at
term-returns-in_err-push-in-Some-eq38 t c =
    add_bad 38 And (factor_at c.args.levels) _ _ c.factors.invariant _ (passed _ _ _ 38 c.sign.ensures (search rules) c.skip.ensures.read) _ _ c.in_ok-factor-in-Some-eq38.ensures _ _ _ (c.in_err-push-in-Some-eq38.ensures (rest c.factor-in-Some-eq38.new.self.reader)) c.from_residual-in_err-push-in-Some-eq38.ensures.1

pub term-returns-in_default : goal.term-returns-in_default
unfolding term_at
term-returns-in_default t c = ended 38 And (factor_at c.args.levels) _ _ c.factors.invariant (unlike _ _ 38 c.sign.ensures (search rules)) _ refl

pub term-returns-in_default-2 : goal.term-returns-in_default-2
unfolding term_at
term-returns-in_default-2 t c = ended 38 And (factor_at c.args.levels) _ _ c.factors.invariant (unlike _ _ 38 c.sign.ensures (search rules)) _ refl

pub factor-returns-then-levels-eq0 : goal.factor-returns-then-levels-eq0
factor-returns-then-levels-eq0 t c =
    let k = passed _ _ _ 40 c.sign.ensures (search rules) c.skip.ensures.read in
    record { read = opens _ _ _ _ _ k (inside_none _ _ _ c.if-levels-eq0.true); less = omega (arith, ap length k) }

pub factor-returns-in_err-set-in-Some-eq40 : goal.factor-returns-in_err-set-in-Some-eq40
factor-returns-in_err-set-in-Some-eq40 t c =
    let k = passed _ _ _ 40 c.sign.ensures (search rules) c.skip.ensures.read in
    let h = c.in_err-set-in-Some-eq40.ensures in
    record { read = exit _ _ _ _ _ c.from_residual.ensures.1 (opens _ _ _ _ _ k (inside_some _ _ _ c.if-levels-eq0.false ∙ h.read)); less = omega (arith, ap length k, h.less) }

pub factor-returns-then-take : goal.factor-returns-then-take
factor-returns-then-take t c =
    let k = passed _ _ _ 40 c.sign.ensures (search rules) c.skip.ensures.read in
    let h = c.in_ok-set-in-Some-eq40.ensures in
    let l = c.if-take.ensures.read in
    record { read = opens _ _ _ _ _ k (inside_some _ _ _ c.if-levels-eq0.false ∙ h.read) ∙ pick_take 41 _ _ _ _ l; less = omega (arith, ap length k, h.less, ap length l) }

pub factor-returns-else-take : goal.factor-returns-else-take
factor-returns-else-take t c =
    let k = passed _ _ _ 40 c.sign.ensures (search rules) c.skip.ensures.read in
    let h = c.in_ok-set-in-Some-eq40.ensures in
    let l = c.if-take.ensures.read in
    record {
      read = opens _ _ _ _ _ k (inside_some _ _ _ c.if-levels-eq0.false ∙ h.read) ∙ pick_not 41 (rest c.set.new.self.reader) (λ s1. ok s1 (nodes_in c.set.new.self.nodes)) bad l.0;
      less = omega (arith, ap length k, h.less, ap length l.1);
    }

pub factor-returns-in-Some-r : goal.factor-returns-in-Some-r
factor-returns-in-Some-r t c =
    let k = passed _ _ _ 114 c.sign.ensures (search rules) c.skip-in-Some-r.ensures.read in
    let h = c.leaf.ensures Role (search rules) in
    record { read = is_role c.args.levels (rest c.args.self.now.reader) (nodes_in c.args.self.now.nodes) _ (ap (begins 40) k) k ∙ h.read; less = omega (arith, ap length k, h.less) }

pub factor-returns-in-Some-p : goal.factor-returns-in-Some-p
factor-returns-in-Some-p t c =
    let k = passed _ _ _ 112 c.sign.ensures (search rules) c.skip-in-Some-p.ensures.read in
    let h = c.leaf-in-Some-p.ensures Permission (search rules) in
    record { read = is_permission c.args.levels (rest c.args.self.now.reader) (nodes_in c.args.self.now.nodes) _ (ap (begins 40) k) (ap (begins 114) k) k ∙ h.read; less = omega (arith, ap length k, h.less) }

pub factor-returns-in-Some-eq123 : goal.factor-returns-in-Some-eq123
factor-returns-in-Some-eq123 t c =
    let k = passed _ _ _ 123 c.sign.ensures (search rules) c.skip-in-Some-eq123.ensures.read in
    let h = c.braces.ensures in
    record { read = is_braces c.args.levels (rest c.args.self.now.reader) (nodes_in c.args.self.now.nodes) _ (ap (begins 40) k) (ap (begins 114) k) (ap (begins 112) k) k ∙ h.read; less = omega (arith, ap length k, h.less) }

pub factor-returns-in_default : goal.factor-returns-in_default
factor-returns-in_default t c =
    let no = unlike (rest c.args.self.now.reader) c.sign.result in
    record { read = is_none c.args.levels (rest c.args.self.now.reader) (nodes_in c.args.self.now.nodes) (no 40 c.sign.ensures (search rules)) (no 114 c.sign.ensures (search rules)) (no 112 c.sign.ensures (search rules)) (no 123 c.sign.ensures (search rules)); less = omega arith }

pub factor-returns-in_default-2 : goal.factor-returns-in_default-2
factor-returns-in_default-2 t c =
    let no = unlike (rest c.args.self.now.reader) c.sign.result in
    record { read = is_none c.args.levels (rest c.args.self.now.reader) (nodes_in c.args.self.now.nodes) (no 40 c.sign.ensures (search rules)) (no 114 c.sign.ensures (search rules)) (no 112 c.sign.ensures (search rules)) (no 123 c.sign.ensures (search rules)); less = omega arith }
