use Rattle.std.proofs.Common.{rules, ◌≡◌, Err, inl, inr, refl, lit<}
use mathlib.Core.Path.{subst⁻¹}
use Rattle.book.specs.declared.refusal.Refusal.{Refusal}
use Rattle.book.specs.Faults.{refusal_of}
use Rattle.drafts.specs.View.{book_of}
use Rattle.entering.specs.Changing.{Changed}
use Rattle.entering.proofs.Altering.{Answers, by_fault, too_short, readable, refused, made}
use Rattle.entering.proofs.changing.changed.Goals.{then-list-lt-LIST_PLACES-via-then-list-lt-LIST_PLACES, then-list-lt-LIST_PLACES-via-else-list-lt-LIST_PLACES+then-work-lt-WORK_WORDS}
use Rattle.entering.proofs.changing.changed.Goals as goal

pub returns-in_err-order : goal.returns-in_err-order
returns-in_err-order c =
    let f = c.in_err-order.field-0.0 in
    let b = book_of c.args.before.now.tables in
    let q : c.from_residual.result ≡ Err (refusal_of f) = search rules in
    subst⁻¹ (Changed b c.args.text.now c.args.list c.args.work) q
    (by_fault b c.args.text.now c.args.list c.args.work f c.in_err-order.ensures.0 c.in_err-order.ensures.1)

pub returns-then-list-lt-LIST_PLACES : goal.returns-then-list-lt-LIST_PLACES
returns-then-list-lt-LIST_PLACES c =
    let b = book_of c.args.before.now.tables in
    subst⁻¹ (λ (e : Refusal). Answers b c.args.text.now c.args.list c.args.work e) c.from.ensures (
      too_short b c.args.text.now c.args.list c.args.work c.in_ok-order.ensures.0
          (elim c.then-list-lt-LIST_PLACES.branch [
            | then-list-lt-LIST_PLACES-via-then-list-lt-LIST_PLACES w ↦ inl w.if-list-lt-LIST_PLACES.true
            | then-list-lt-LIST_PLACES-via-else-list-lt-LIST_PLACES+then-work-lt-WORK_WORDS w ↦ inr w.if-work-lt-WORK_WORDS.true
          ]),
      refl,
      lit< tt,
    )

pub enter_in-requires : goal.enter_in-requires
enter_in-requires c = readable (book_of c.args.before.now.tables) c.args.text.now c.args.list c.args.work c.in_ok-order.ensures.0 c.in_ok-order.order c.read_change.new.extra c.in_ok-order.ensures.1

pub returns-in-Ok : goal.returns-in-Ok
returns-in-Ok c =
    made (book_of c.args.before.now.tables) c.args.text.now c.args.list c.args.work c.in_ok-order.ensures.0 c.in_ok-order.order c.read_change.new.extra c.in_ok-order.ensures.1
    c.if-list-lt-LIST_PLACES.false c.if-work-lt-WORK_WORDS.false (book_of c.enter_in.new.draft.tables)
    (λ j k x l m n. c.args.before.now.neat (λ neat. neat.orderly.assigns_once j k x l m n))
    (λ j k x l m n. c.args.before.now.neat (λ neat. neat.orderly.revokes_once j k x l m n))
    (λ j k x l m n. c.args.before.now.neat (λ neat. neat.orderly.requirements_once j k x l m n))
    c.in-Ok.ensures

pub returns-in-Err : goal.returns-in-Err
returns-in-Err c =
    refused (book_of c.args.before.now.tables) c.args.text.now c.args.list c.args.work c.in_ok-order.ensures.0 c.in_ok-order.order c.read_change.new.extra c.in_ok-order.ensures.1
    c.if-list-lt-LIST_PLACES.false c.if-work-lt-WORK_WORDS.false (book_of c.enter_in.new.draft.tables) c.in-Err.cause c.in-Err.ensures
