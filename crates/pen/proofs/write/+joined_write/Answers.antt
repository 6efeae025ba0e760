use Rattle.std.proofs.Common.{sym, ap, ◌∙◌, not}
use Rattle.pen.proofs.Join.{join}
use Rattle.pen.proofs.Sets.{wrote}
use Rattle.trees.specs.Reading.{postfix}
use Rattle.pen.proofs.Shapes.{sides, rooted_is, signed_or, signed_and, leaf_is, none_of}
use Rattle.pen.proofs.write.+joined_write.Goals as goal

pub joined-returns : goal.joined-returns
joined-returns t c a b e =
    let s = sides _ (postfix a) (postfix b) _ e (c.begin-mid.ensures.last (postfix a) b e) in
    join _ _ _ _ _ (c.write.ensures a s.left).bytes (join _ _ _ _ _ c.byte.ensures (c.write-2.ensures b s.right).bytes)

pub write-returns-in_default : goal.write-returns-in_default
write-returns-in_default t c u e = absurd (none_of _ u c.in_default.ensures.cases e)

pub write-returns-then-eq : goal.write-returns-then-eq
write-returns-then-eq t c u e =
    let r = rooted_is _ _ _ u c.in-Some.ensures.cases.0 e in
    let s = signed_or u c.args.spot (sym c.in-Or.is ∙ r.1) in
    wrote _ _ _ _ _ (s.loose (sym c.if-eq.ensures)) (c.joined.ensures s.one s.two (r.0 ∙ s.nodes))

pub write-returns-else-eq : goal.write-returns-else-eq
write-returns-else-eq t c u e =
    let r = rooted_is _ _ _ u c.in-Some.ensures.cases.0 e in
    let s = signed_or u c.args.spot (sym c.in-Or.is ∙ r.1) in
    wrote _ _ _ _ _ (s.tight (sym c.if-eq.ensures))
    (join _ _ _ _ _ c.byte.ensures (join _ _ _ _ _ (c.joined-else-eq.ensures s.one s.two (r.0 ∙ s.nodes)) c.byte-else-eq.ensures))

pub write-returns-then-eq-2 : goal.write-returns-then-eq-2
write-returns-then-eq-2 t c u e =
    let r = rooted_is _ _ _ u c.in-Some.ensures.cases.0 e in
    let s = signed_and u c.args.spot (sym c.in-And.is ∙ r.1) in
    wrote _ _ _ _ _ (s.tight (ap not (sym c.if-eq-2.ensures)))
    (join _ _ _ _ _ c.byte-then-eq-2.ensures (join _ _ _ _ _ (c.joined-then-eq-2.ensures s.one s.two (r.0 ∙ s.nodes)) c.byte-then-eq-2-2.ensures))

pub write-returns-else-eq-2 : goal.write-returns-else-eq-2
write-returns-else-eq-2 t c u e =
    let r = rooted_is _ _ _ u c.in-Some.ensures.cases.0 e in
    let s = signed_and u c.args.spot (sym c.in-And.is ∙ r.1) in
    wrote _ _ _ _ _ (s.loose (ap not (sym c.if-eq-2.ensures))) (c.joined-else-eq-2.ensures s.one s.two (r.0 ∙ s.nodes))

pub write-returns-in_default-node : goal.write-returns-in_default-node
write-returns-in_default-node t c u e =
    let r = rooted_is _ _ _ u c.in-Some.ensures.cases.0 e in
    wrote _ _ _ _ _ (leaf_is u _ c.args.spot r.1 c.in_default-node.not-Or c.in_default-node.not-And) c.operand.ensures
