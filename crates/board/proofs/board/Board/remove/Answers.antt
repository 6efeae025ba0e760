use Rattle.std.proofs.Common.{◌≡◌, [], Err, refl, rules}
use mathlib.Core.Path.{subst⁻¹}
use Rattle.meaning.specs.Runs.{Change, removes}
use Rattle.book.specs.Calls.{removing}
use Rattle.book.specs.Faults.{of_no_line}
use Rattle.book.specs.Numbers.{number_of}
use Rattle.book.specs.Outcomes.{Outcome}
use Rattle.book.proofs.Coming.{removed}
use Rattle.board.specs.View.{says}
use Rattle.board.specs.Answers.{done_by}
use Rattle.board.proofs.Refusing.{plainly}
use Rattle.book.proofs.Ordered.{less_orderly}
use Rattle.drafts.specs.View.{book_of}
use Rattle.board.proofs.Changing.{book_after, sound_after, neat_after, lasting_after}
use Rattle.board.proofs.Delegating.{removes_none, removes_permitted, few_removals as few}
use Rattle.board.proofs.board.Board.remove.Goals as goal

pub invariant_of-valid : goal.invariant_of-valid
invariant_of-valid c =
    let t = c.args.self.now.valid.tables in
    let z = c.unassign.new.self in
    let m = c.in_ok-judge_removing.ensures in
    let d = c.unassign.ensures in
    let x : Change = removes c.args.actor.number c.args.user.number c.args.role.number m.number in
    record { sound = sound_after t z d.others x d.state c.args.self.now.valid.sound (removes_permitted (book_of t) c.args.actor.number c.args.user.number c.args.role.number m) }

pub invariant_of-self : goal.invariant_of-self
invariant_of-self c =
    let t = c.args.self.now.valid.tables in
    let z = c.unassign.new.self in
    let m = c.in_ok-judge_removing.ensures in
    let d = c.unassign.ensures in
    let x : Change = removes c.args.actor.number c.args.user.number c.args.role.number m.number in
    record {
      neat = neat_after t z d.others x d.state c.args.self.now.neat (λ o. less_orderly (book_of t) c.args.user.number c.args.role.number o);
      lasting = lasting_after t z d.others x d.state c.args.self.now.lasting
          (removes_permitted (book_of t) c.args.actor.number c.args.user.number c.args.role.number m);
    }

pub returns-in_err-judge_removing-clause-outcome : goal.returns-in_err-judge_removing-clause-outcome
returns-in_err-judge_removing-clause-outcome c =
    let e = c.in_err-judge_removing.field-0.0 in
    let b = says c.args.self.now in
    let call = removing c.args.actor.number c.args.user.number c.args.role.number in
    let least = c.in_err-judge_removing.ensures in
    let x = plainly b call 0 [] [] e (few b c.args.actor.number c.args.user.number c.args.role.number (number_of e) least.applies) (least, refl) refl in
    let q : c.from_residual.result ≡ Err (of_no_line e) = search rules in
    subst⁻¹ (λ r. Outcome b call (done_by r []) b) q (x.is, refl)

pub returns-clause-outcome : goal.returns-clause-outcome
returns-clause-outcome c =
    let t = c.args.self.now.valid.tables in
    let z = c.unassign.new.self in
    let m = c.in_ok-judge_removing.ensures in
    let d = c.unassign.ensures in
    let x : Change = removes c.args.actor.number c.args.user.number c.args.role.number m.number in (
      (removed (book_of t) c.args.actor.number c.args.user.number c.args.role.number (removes_none (book_of t) c.args.actor.number c.args.user.number c.args.role.number m)).0,
      tt,
      book_after t z d.others x d.state,
    )
