use Rattle.std.proofs.Common.{◌≡◌, ℕ, ◌+◌, ◌<◌, T, eqb, length, take, sym, ap, ◌∙◌, subst, add-one, arith, below_more}
use mathlib.Core.Path.{subst⁻¹}
use mathlib.Core.Bool.{beq}
use Rattle.meaning.specs.Runs.{after, end}
use Rattle.questions.specs.Inquired.{inquired}
use Rattle.tables.specs.View.{policy_of, state_of}
use Rattle.deciding.specs.Slots.{slots_of}
use Rattle.planning.specs.Slotted.{has_slot}
use Rattle.verdicts.specs.Looking.{WordsSay, change_of, FoundAt, as_changes}
use Rattle.verdicts.proofs.Turning.{shows_is, shows_not, slotted_in, changes_more, beq_same, beq_off, found_by}
use Rattle.verdicts.proofs.case.Case.first_shown.Goals as goal
use Rattle.meaning.specs.Witnesses.{Sought}

pub returns-then-fails-sought : goal.returns-then-fails-sought
returns-then-fails-sought c =
    let x = c.args.self.now in
    let (room, count, says, before) = c.loop-made.invariant in (
      omega (arith, c.loop-made-test.true),
      shows_is (policy_of x.board.now.tables) (state_of x.board.now.tables) (inquired x.asked.now) x.plan.now c.requires.plan_fits c.args.sought c.loop-made.fails c.loop-made.work
          (end (state_of x.board.now.tables) (as_changes c.args.adds (take c.loop-made.made c.args.run.now))) count says (beq_same (eqb c.loop-made.fails 0) c.args.sought c.if-fails-sought.true),
      before,
    )

pub make-fails-requires-clause-slotted : goal.make-fails-requires-clause-slotted
make-fails-requires-clause-slotted c =
    subst⁻¹ (λ r. T (has_slot (slots_of c.args.self.now.plan.now) r.user.number)) c.index-run-made.is
    (slotted_in (slots_of c.args.self.now.plan.now) c.args.run.now c.loop-made.made c.index-run-made.result c.requires.slotted c.loop-made-test.true)

pub loop-made-preserved : goal.loop-made-preserved
loop-made-preserved c =
    let x = c.args.self.now in
    let p = policy_of x.board.now.tables in
    let s = state_of x.board.now.tables in
    let q = inquired x.asked.now in
    let run = c.args.run.now in
    let m = c.loop-made.made in
    let here = c.index-run-made.result in
    let (room, count, says, before) = c.loop-made.invariant in
    let next : end s (as_changes c.args.adds (take (m + 1) run)) ≡ after (change_of c.args.adds here) (end s (as_changes c.args.adds (take m run))) =
    ap (λ k. end s (as_changes c.args.adds (take k run))) (add-one m) ∙ changes_more c.args.adds s run m here c.loop-made-test.true
    ∙ ap (λ r. after (change_of c.args.adds r) (end s (as_changes c.args.adds (take m run)))) (sym c.index-run-made.is) in (
      omega (arith, c.make-fails.ensures.room, room),
      c.make-fails.ensures.count,
      subst⁻¹ (λ t. WordsSay (slots_of x.plan.now) c.make-fails.new.work t) next (c.make-fails.ensures.says (end s (as_changes c.args.adds (take m run))) says),
      below_more (λ j. Sought c.args.sought p q (end s (as_changes c.args.adds (take j run))) → ⊥) m before
          (shows_not p s q x.plan.now c.requires.plan_fits c.args.sought c.loop-made.fails c.loop-made.work
          (end s (as_changes c.args.adds (take m run))) count says (beq_off (eqb c.loop-made.fails 0) c.args.sought c.if-fails-sought.false)),
    )

pub returns : goal.returns
returns c =
    let x = c.args.self.now in
    let p = policy_of x.board.now.tables in
    let s = state_of x.board.now.tables in
    let q = inquired x.asked.now in
    let run = c.args.run.now in
    let n = length run in
    let m = c.loop-made.made in
    let (room, count, says, before) = c.loop-made.invariant in
    let all : m ≡ n = omega (arith, c.loop-made-test.false, c.loop-made.auto.made-end) in
    let says_all = subst (λ k. WordsSay (slots_of x.plan.now) c.loop-made.work (end s (as_changes c.args.adds (take k run)))) all says in
    let before_all = subst (λ k. (j : ℕ) → j < k → Sought c.args.sought p q (end s (as_changes c.args.adds (take j run))) → ⊥) all before in
    subst⁻¹ (FoundAt c.args.sought p s q c.args.adds run) c.then_some.ensures (found_by c.args.sought p s q c.args.adds run (beq (eqb c.loop-made.fails 0) c.args.sought)
    (λ e. (
      omega arith,
      shows_is p s q x.plan.now c.requires.plan_fits c.args.sought c.loop-made.fails c.loop-made.work (end s (as_changes c.args.adds (take n run))) count says_all (beq_same (eqb c.loop-made.fails 0) c.args.sought e),
      before_all,
    ))
    (λ e j l. below_more (λ j. Sought c.args.sought p q (end s (as_changes c.args.adds (take j run))) → ⊥) n before_all
    (shows_not p s q x.plan.now c.requires.plan_fits c.args.sought c.loop-made.fails c.loop-made.work (end s (as_changes c.args.adds (take n run))) count says_all (beq_off (eqb c.loop-made.fails 0) c.args.sought e)) j (omega arith)))
