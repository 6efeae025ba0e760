use Rattle.std.proofs.Common.{ℕ, ◌+◌, ◌∙◌, ap, add-one, arith}
use mathlib.Core.Path.{subst⁻¹}
use Rattle.rbac.specs.declared.users.User.{User}
use Rattle.storing.proofs.Nearest.{Nearest, nearer, further, unused, all_rows}
use Rattle.storing.proofs.rows.next_user.Goals as goal
use Rattle.storing.proofs.rows.next_user.Goals.{in-Some+then-number-from+then-number-next, in-Some+else-number-from, else-number-from-via-then-number-from+else-number-next, else-number-from-via-else-number-from, in_default}

pub loop-row-preserved : goal.loop-row-preserved
loop-row-preserved c =
    let rows = c.args.rows.now in
    let i = c.loop-row.row-index in
    let h = c.loop-row.invariant in
    elim c.match-holder.branch [
      | in-Some+then-number-from+then-number-next w ↦
          subst⁻¹ (λ (n : ℕ). Nearest rows c.args.from n (i + 1)) w.next-is
          (rw add-one (nearer rows c.args.from _ i h _ (w.number-number.ensures ∙ ap (λ (u : User). u.number) w.in-Some.ensures.1) w.if-number-from.true w.if-number-next.true))
      | in-Some+else-number-from w ↦
          subst⁻¹ (λ (n : ℕ). Nearest rows c.args.from n (i + 1)) w.next-is
          (rw add-one (further rows c.args.from _ i h w.number-number.result (w.number-number.ensures ∙ ap (λ (u : User). u.number) w.in-Some.ensures.1) (elim w.else-number-from.branch [
            | else-number-from-via-then-number-from+else-number-next w' ↦ λ a. w'.if-number-next.false
            | else-number-from-via-else-number-from w' ↦ λ a. let b = w'.if-number-from.false in omega (arith, a, b)
          ])))
      | in_default w ↦ subst⁻¹ (λ (n : ℕ). Nearest rows c.args.from n (i + 1)) w.next-is (rw add-one (unused rows c.args.from _ i h w.in_default.ensures))
    ]

pub returns : goal.returns
returns c = all_rows c.args.rows.now c.args.from _ c.loop-row.row-index c.loop-row-test.false c.loop-row.invariant
