use Rattle.std.proofs.Common.{◌≡◌, [], Err, refl, subst, rules, arith}
use mathlib.Core.Path.{subst⁻¹}
use Rattle.meaning.specs.Runs.{Change, adds}
use Rattle.book.specs.declared.refusal.Cause.TheVariants as cause
use Rattle.book.specs.Calls.{adding}
use Rattle.book.specs.Faults.{of_no_line}
use Rattle.book.proofs.Ordered.{pair_orderly}
use Rattle.tables.specs.Calls.{Assigned}
use Rattle.drafts.specs.View.{book_of}
use Rattle.board.specs.View.{says}
use Rattle.board.specs.Answers.{done_by}
use Rattle.board.proofs.Instead.{was_ok, was_err}
use Rattle.board.proofs.Changing.{book_after, sound_after, neat_after, lasting_after}
use Rattle.book.specs.Numbers.{number_of}
use Rattle.book.specs.Outcomes.{Outcome}
use Rattle.book.proofs.Coming.{added}
use Rattle.board.proofs.Refusing.{plainly}
use Rattle.board.proofs.Delegating.{rows_full, adds_none, adds_permitted, few_additions as few}
use Rattle.board.proofs.board.Board.add.Goals as goal

pub invariant_of-valid : goal.invariant_of-valid
invariant_of-valid c =
    let t = c.args.self.now.valid.tables in
    let m = c.in_ok-judge_adding.ensures in
    let d = subst (λ r. Assigned t c.args.user.number c.args.role.number r c.assign.new.self) (was_ok c.assign.result cause.Full tt c.in_ok-or.ensures) c.assign.ensures in
    let x : Change = adds c.args.actor.number c.args.user.number c.args.role.number m.number in
    record { sound = sound_after t c.assign.new.self d.others x d.state c.args.self.now.valid.sound (adds_permitted (book_of t) c.args.actor.number c.args.user.number c.args.role.number m) }

pub invariant_of-self : goal.invariant_of-self
invariant_of-self c =
    let t = c.args.self.now.valid.tables in
    let m = c.in_ok-judge_adding.ensures in
    let d = subst (λ r. Assigned t c.args.user.number c.args.role.number r c.assign.new.self) (was_ok c.assign.result cause.Full tt c.in_ok-or.ensures) c.assign.ensures in
    let x : Change = adds c.args.actor.number c.args.user.number c.args.role.number m.number in
    record {
      neat = neat_after t c.assign.new.self d.others x d.state c.args.self.now.neat
          (λ o. pair_orderly (book_of t) c.args.user.number c.args.role.number o m.a_user m.a_role d.room);
      lasting = lasting_after t c.assign.new.self d.others x d.state c.args.self.now.lasting
          (adds_permitted (book_of t) c.args.actor.number c.args.user.number c.args.role.number m);
    }

pub returns-clause-outcome : goal.returns-clause-outcome
returns-clause-outcome c =
    let t = c.args.self.now.valid.tables in
    let m = c.in_ok-judge_adding.ensures in
    let d = subst (λ r. Assigned t c.args.user.number c.args.role.number r c.assign.new.self) (was_ok c.assign.result cause.Full tt c.in_ok-or.ensures) c.assign.ensures in
    let x : Change = adds c.args.actor.number c.args.user.number c.args.role.number m.number in (
      (added (book_of t) c.args.actor.number c.args.user.number c.args.role.number (adds_none (book_of t) c.args.actor.number c.args.user.number c.args.role.number m d.room)).0,
      tt,
      book_after t c.assign.new.self d.others x d.state,
    )

pub returns-in_err-judge_adding-clause-outcome : goal.returns-in_err-judge_adding-clause-outcome
returns-in_err-judge_adding-clause-outcome c =
    let e = c.in_err-judge_adding.field-0.0 in
    let b = says c.args.self.now in
    let call = adding c.args.actor.number c.args.user.number c.args.role.number in
    let least = c.in_err-judge_adding.ensures in
    let x = plainly b call 0 [] [] e (few b c.args.actor.number c.args.user.number c.args.role.number (number_of e) least.applies) (least, refl) refl in
    let q : c.from_residual.result ≡ Err (of_no_line e) = search rules in
    subst⁻¹ (λ r. Outcome b call (done_by r []) b) q (x.is, refl)

pub returns-in_err-or-clause-outcome : goal.returns-in_err-or-clause-outcome
returns-in_err-or-clause-outcome c =
    let t = c.args.self.now.valid.tables in
    let (e, is, full) = was_err c.assign.result cause.Full c.in_err-or.field-0.0 c.in_err-or.ensures in
    let f = subst (λ r. Assigned t c.args.user.number c.args.role.number r c.assign.new.self) is c.assign.ensures in
    let told : c.from_residual-in_err-or.result ≡ Err (of_no_line cause.Full) = search (rules, full) in
    let b = says c.args.self.now in
    let call = adding c.args.actor.number c.args.user.number c.args.role.number in
    let least = rows_full b c.args.actor.number c.args.user.number c.args.role.number c.in_ok-judge_adding.ensures
    (record { none = f.no_row; full = f.no_room }) in
    let x = plainly b call 0 [] [] cause.Full (λ is. omega (arith, is)) (least, refl) refl in
    subst⁻¹ (λ r. Outcome b call (done_by r []) b) told (x.is, refl)
