use Rattle.std.proofs.Common.{◌≡◌, suc, ◌+◌, ◌<◌, ◌≤◌, List, codes, sym, refl, ap, ◌∙◌, subst, arith}
use Rattle.meaning.specs.Measures.{users, roles as all_roles}
use Rattle.rbac.specs.Roles.{roles_of}
use Rattle.pen.specs.Ascending.{ascending}
use Rattle.pen.proofs.Join.{none, to}
use Rattle.tables.specs.declared.entries.Row.{Row}
use Rattle.tables.specs.View.{state_of}
use Rattle.boardtext.specs.Canonical.{row_line}
use Rattle.storing.specs.Next.{Next}
use Rattle.storing.proofs.Walking.{none_before, one_more, passed}
use Rattle.storing.proofs.Nearest.{none_between}
use Rattle.storing.proofs.rows.put_users.Goals as goal

pub loop-user-init : goal.loop-user-init
loop-user-init c =
    let t = c.args.tables.now in
    let s = state_of t in
    let n = subst (λ (list : List Row). Next list 0 c.next_user-from.result) c.entries.ensures.all c.next_user-from.ensures in (
      n.inside,
      to _ _ _ _ (sym (none_before (codes "ua u") s) ∙ passed (codes "ua u") s _ 0 (omega arith) (λ v a b q. none_between t 0 _ n v a b q)) (none c.args.w.now),
    )

pub loop-user-preserved : goal.loop-user-preserved
loop-user-preserved c =
    let t = c.args.tables.now in
    let s = state_of t in
    let n = subst (λ (list : List Row). Next list (c.number.result + 1) c.next_user-from-in-Some.result) c.entries-in-Some.ensures.all c.next_user-from-in-Some.ensures in
    let u = c.in-Some.user.number in
    let from = c.loop-user.from in
    let word = codes "ua u" in
    let small : c.number.result < users = omega arith in
    let e : c.number.result ≡ from = c.number.ensures ∙ c.in-Some.ensures in
    let line : row_line word u (ascending (roles_of c.assigned-roles.result) all_roles) ≡ row_line word from (ascending (s from) all_roles) =
    ap (λ f. row_line word u (ascending f all_roles)) c.assigned-roles.ensures ∙ ap (λ k. row_line word k (ascending (s k) all_roles)) c.in-Some.ensures in
    let p = to _ _ _ _ line (c.put_row.ensures word u (λ x. (refl, tt))) in
    let past : suc from ≤ c.next_user-from-in-Some.result = (let m = n.onward (omega (arith, small)) in omega (arith, m, e)) in (
      n.inside,
      to _ _ _ _ (passed word s c.next_user-from-in-Some.result (suc from) past (λ v a b q. none_between t (c.number.result + 1) _ n v (omega (arith, a, e)) b q)) (one_more word s _ _ _ from c.loop-user.invariant.1 p),
    )
