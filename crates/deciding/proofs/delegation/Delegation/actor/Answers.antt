use Rattle.std.proofs.Common.{◌<◌, ◌&&◌, length, sym, ap, ◌∙◌, subst, arith, below_more}
use Rattle.words.specs.Words.{bits}
use Rattle.deciding.specs.Slots.{slot_at}
use Rattle.deciding.specs.Delegates.{MayAct}
use Rattle.theory.specs.Delegation.{user_of}
use Rattle.deciding.proofs.Opening.{p, us, many, acts_yes, acts_no}
use Rattle.deciding.proofs.delegation.Delegation.actor.Goals as goal

pub returns-then-slot-administers : goal.returns-then-slot-administers
returns-then-slot-administers c =
    let x = c.args.self.now in
    let same = c.entries-slots.ensures.all in
    let j = c.loop-j.j in
    let l = subst (λ xs. j < length xs) same c.loop-j-test.true in (
      omega (arith, many x, l),
      acts_yes x c.args.facts.now j l c.from_word-there.result (c.from_word-there.ensures ∙ c.word.ensures) c.args.admin.number c.number.result c.number.ensures.is
          c.member-administers.result c.member-administers.ensures (ap (λ xs. (slot_at xs j).acts && c.member-administers.result) (sym same) ∙ c.if-slot-administers.true),
    )

pub loop-j-preserved : goal.loop-j-preserved
loop-j-preserved c =
    let x = c.args.self.now in
    let same = c.entries-slots.ensures.all in
    let j = c.loop-j.j in
    let l = subst (λ xs. j < length xs) same c.loop-j-test.true in
    below_more (λ k. MayAct (p x) (us x) (bits c.args.facts.now) c.args.admin.number (user_of (us x) k) → ⊥) j c.loop-j.invariant
    (acts_no x c.args.facts.now j l c.from_word-there.result (c.from_word-there.ensures ∙ c.word.ensures) c.args.admin.number c.number.result c.number.ensures.is
    c.member-administers.result c.member-administers.ensures (ap (λ xs. (slot_at xs j).acts && c.member-administers.result) (sym same) ∙ c.if-slot-administers.false))

pub returns : goal.returns
returns c =
    λ k l. c.loop-j.invariant k (omega (arith, c.loop-j-test.false, many c.args.self.now, ap length c.entries-slots.ensures.all))
