use Rattle.std.proofs.Common.{◌≡◌, ◌+◌, ◌*◌, ◌/◌, ◌<◌, length, sym, refl, ap, ◌∙◌, arith}
use mathlib.Core.Bool.{false≢true}
use mathlib.Core.Path.{subst⁻¹}
use Rattle.words.specs.Words.{bits, with}
use Rattle.words.proofs.Rows.{put_there}
use Rattle.rbac.specs.declared.users.User.{User}
use Rattle.meaning.specs.Measures.{users}
use Rattle.tables.proofs.Marking.{Marked, none_marked, row_free, row_marked, marked_twice, all_marked}
use Rattle.tables.proofs.rows.apart_in.Goals as goal
use Rattle.tables.proofs.rows.apart_in.Goals.{in-Some+else-has, in_default}

pub loop-row-init : goal.loop-row-init
loop-row-init c = (none_marked c.args.rows.now (bits c.args.seen.now) c.requires.clear, c.requires.long)

pub loop-row-preserved : goal.loop-row-preserved
loop-row-preserved c =
    let rows = c.args.rows.now in
    let i = c.loop-row.row-index in
    elim c.match-holder.branch [
      | in-Some+else-has w ↦
          let n = w.number-bit.result in
          let small : n < users = w.number-bit.type_inv in
          let long : length c.loop-row.seen * 64 ≡ users = c.loop-row.invariant.1 in
          let inside : n / 64 < length c.loop-row.seen = omega arith in
          let is : bits w.put.new.words ≡ with (bits c.loop-row.seen) n = put_there _ _ w.put.result inside w.put.ensures in (
            subst⁻¹ (Marked rows (i + 1)) (ap bits w.seen-is ∙ is)
                (row_marked rows i (bits c.loop-row.seen) c.loop-row.invariant.0 n w.in-Some.ensures.0 (w.number-bit.ensures ∙ ap (λ (u : User). u.number) w.in-Some.ensures.1) (sym w.has.ensures ∙ w.if-has.false)),
            ap (λ m. m * 64) c.match-holder.auto.seen ∙ long,
          )
      | in_default w ↦ (
        subst⁻¹ (λ (s : _). Marked rows (i + 1) (bits s)) w.seen-is (row_free rows i (bits c.loop-row.seen) c.loop-row.invariant.0 w.in_default.ensures),
        ap (λ s. length s * 64) w.seen-is ∙ c.loop-row.invariant.1,
      )
    ]

pub returns-then-has : goal.returns-then-has
returns-then-has c = (
  λ e. absurd (false≢true e),
  λ apart. absurd (marked_twice c.args.rows.now c.loop-row.row-index (bits c.loop-row.seen) c.loop-row.invariant.0 c.number-bit.result c.loop-row-test.true
      c.in-Some.ensures.0 (c.number-bit.ensures ∙ ap (λ (u : User). u.number) c.in-Some.ensures.1) (sym c.has.ensures ∙ c.if-has.true) apart),
)

pub returns : goal.returns
returns c = (λ _. all_marked c.args.rows.now c.loop-row.row-index (bits c.loop-row.seen) c.loop-row.invariant.0 c.loop-row-test.false, λ _. refl)
