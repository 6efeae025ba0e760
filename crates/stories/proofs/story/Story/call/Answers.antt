use Rattle.std.proofs.Common.{length}
use Rattle.std.proofs.Math.Logic.{∥∥₁_map}
use Rattle.board.specs.View.{says}
use Rattle.stories.specs.Calls.{call_on, reply_by}
use Rattle.stories.proofs.Keeping.{promised}
use Rattle.stories.proofs.Leading.{reached_on}
use Rattle.stories.proofs.story.Story.call.Goals as goal

pub invariant_of-self : goal.invariant_of-self
invariant_of-self c =
    let b = c.args.self.now.board in
    let z = c.make-answer.new.board in
    let call = call_on c.args.call (length c.args.list.now) (length c.args.work.now) in
    let answer = reply_by c.make-answer.result c.make-answer.new.list in
    record { reached = ∥∥₁_map c.args.self.now.reached (reached_on (says b) (says z) call answer (promised b z call answer c.make-answer.ensures.outcome)) }

pub returns-clause-promised : goal.returns-clause-promised
returns-clause-promised c =
    let call = call_on c.args.call (length c.args.list.now) (length c.args.work.now) in
    let answer = reply_by c.make-answer.result c.make-answer.new.list in
    record { promised = promised c.args.self.now.board c.make-answer.new.board call answer c.make-answer.ensures.outcome; rest = c.make-answer.ensures.rest }
