use Rattle.std.proofs.Common.{◌≡◌, [], ◌∷◌, length, refl, ap, ◌∙◌, arith, rules, inl, inr}
use Rattle.std.proofs.lemmas.List.{length_push}
use Rattle.pen.proofs.Shapes.{Read, step, at_end}
use Rattle.pen.proofs.write.begin.Goals as goal
use Rattle.pen.proofs.write.begin.Goals.{in_default, in-Or}

pub loop-i-init : goal.loop-i-init
loop-i-init c =
    let r : c.into_iter-i-iterator.result.iter.iter.rest.now ≡ c.args.nodes.now = search rules in
    (search rules, omega arith, omega (arith, ap length r), λ front t e. (t ∷ [], refl, r ∙ e))

pub returns-then-need-eq0 : goal.returns-then-need-eq0
returns-then-need-eq0 c =
    let (_, (s, i, _)) = c.in-Some.ensures.steps in
    let n = length_push c.next.new.self.iter.iter.rest.now c.in-Some.node.now in
    let r : Read c.in-Some.node.now c.loop-i.need c.match-node.need = elim c.match-node.branch [
      | in_default w ↦ inr (w.in_default.not-Or, w.in_default.not-And, w.need-is)
      | in-Or w ↦ inl (w.in-Or.is, w.need-is)
    ] in
    record {
      within = omega (arith, c.loop-i.invariant, ap length s);
      last = λ front t e.
          let (ts, k, l) = step _ _ front _ _ _ s c.loop-i.invariant.1 r (c.loop-i.invariant.3 front t e) in
          let m = at_end _ front (ts, k ∙ c.if-need-eq0.true, l) in
          omega arith;
    }

pub loop-i-preserved : goal.loop-i-preserved
loop-i-preserved c =
    let (z, (s, i, _)) = c.in-Some.ensures.steps in
    let n = length_push c.next.new.self.iter.iter.rest.now c.in-Some.node.now in
    let r : Read c.in-Some.node.now c.loop-i.need c.match-node.need = elim c.match-node.branch [
      | in_default w ↦ inr (w.in_default.not-Or, w.in_default.not-And, w.need-is)
      | in-Or w ↦ inl (w.in-Or.is, w.need-is)
    ] in
    (z ∙ c.loop-i.invariant.0, omega arith, omega (arith, r, ap length s), λ front t e. step _ _ front _ _ _ s c.loop-i.invariant.1 r (c.loop-i.invariant.3 front t e))
