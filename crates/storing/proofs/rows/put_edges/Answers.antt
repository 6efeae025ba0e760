use Rattle.std.proofs.Common.{codes, add-one, sym, refl, ap, ◌∙◌, arith}
use Rattle.meaning.specs.Measures.{roles as all_roles}
use Rattle.pen.specs.Ascending.{ascending}
use Rattle.pen.proofs.Join.{none, to, here}
use Rattle.hierarchy.specs.Edges.{edges_of}
use Rattle.tables.specs.View.{policy_of}
use Rattle.boardtext.specs.Canonical.{row_line}
use Rattle.storing.proofs.Walking.{none_before, one_more}
use Rattle.storing.proofs.Parts.{edge_at}
use Rattle.storing.proofs.rows.put_edges.Goals as goal
use Rattle.storing.proofs.rows.put_edges.Goals.{in-Some, in_default}

pub loop-n-init : goal.loop-n-init
loop-n-init c = to _ _ _ _ (sym (none_before (codes "rh r") (policy_of c.args.tables.now).edge)) (none c.args.w.now)

pub loop-n-preserved : goal.loop-n-preserved
loop-n-preserved c =
    let t = c.args.tables.now in
    let n = c.loop-n.n in
    let word = codes "rh r" in
    elim c.match-new.branch [
      | in-Some w ↦
          let s = w.in-Some.senior.number in
          let line = ap (λ f. row_line word s (ascending f all_roles)) w.direct-juniors.ensures ∙ ap (λ k. row_line word k (ascending (edges_of t.hierarchy k) all_roles)) w.in-Some.ensures ∙ ap (λ f. row_line word n (ascending f all_roles)) (sym (edge_at t n)) in
          here _ _ _ _ w.w-is (rw add-one (one_more word (policy_of t).edge _ _ _ n c.loop-n.invariant (to _ _ _ _ line (w.put_row.ensures word s (λ x. (refl, tt))))))
      | in_default w ↦ absurd (let small = c.loop-n-test.true in let k = w.in_default.ensures in omega (arith, small, k))
    ]
