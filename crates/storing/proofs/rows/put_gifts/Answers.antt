use Rattle.std.proofs.Common.{get_or, codes, add-one, sym, refl, ap, ◌∙◌, arith}
use Rattle.meaning.specs.Measures.{roles as all_roles}
use Rattle.rbac.specs.Roles.{roles_of}
use Rattle.pen.specs.Ascending.{ascending}
use Rattle.pen.proofs.Join.{none, to, here}
use Rattle.hierarchy.specs.Edges.{no_roles}
use Rattle.tables.specs.View.{policy_of}
use Rattle.boardtext.specs.Canonical.{row_line}
use Rattle.storing.proofs.Walking.{none_before, one_more}
use Rattle.storing.proofs.Parts.{gives_at}
use Rattle.storing.proofs.rows.put_gifts.Goals as goal
use Rattle.storing.proofs.rows.put_gifts.Goals.{in-Some, in_default}

pub loop-n-init : goal.loop-n-init
loop-n-init c = to _ _ _ _ (sym (none_before (codes "pa p") (policy_of c.args.tables.now).gives)) (none c.args.w.now)

pub loop-n-preserved : goal.loop-n-preserved
loop-n-preserved c =
    let t = c.args.tables.now in
    let n = c.loop-n.n in
    let word = codes "pa p" in
    elim c.match-new.branch [
      | in-Some w ↦
          let line = ap (λ k. row_line word k (ascending (roles_of (get_or t.gives n no_roles)) all_roles)) w.in-Some.ensures ∙ ap (λ f. row_line word n (ascending f all_roles)) (sym (gives_at t n)) in
          here _ _ _ _ w.w-is (rw add-one (one_more word (policy_of t).gives _ _ _ n c.loop-n.invariant (to _ _ _ _ line (w.put_row.ensures word w.in-Some.permission.number (λ x. (refl, tt))))))
      | in_default w ↦ absurd (let small = c.loop-n-test.true in let k = w.in_default.ensures in omega (arith, small, k))
    ]
