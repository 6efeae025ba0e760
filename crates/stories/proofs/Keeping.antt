-- What every board keeps, as the promise over stories has it.
use Rattle.std.proofs.Common.{◌≡◌, Bool, List, Some, None}
use Rattle.meaning.specs.declared.terms.Kind.{Kind}
use Rattle.meaning.specs.Runs.{Change, Run, moves}
use Rattle.book.specs.Calls.{Call, opening, changing, asking, adding, removing, membership, permission, saving}
use Rattle.book.specs.Outcomes.{Answer, done, truth, verdict, refused, Outcome}
use Rattle.book.specs.Stories.{Secure, AllStand, AnswerGranted, DelegatesGrant, Promised}
use Rattle.book.proofs.Granting.{delegates_grant}
use Rattle.tables.specs.View.{state_of}
use Rattle.soundness.proofs.Stable.{sound}
use Rattle.storing.proofs.Surely.{neat_surely}
use Rattle.weighing.proofs.Granted.{targets_inside}
use Rattle.weighing.proofs.Surely.{stands_surely}
use Rattle.board.specs.declared.board.Board.{Board}
use Rattle.board.specs.View.{says}
use Rattle.stories.proofs.Only.{only}

pub secure : (board : Board) → Secure (says board)
secure board = record {
  orderly = (neat_surely board.valid.tables board.neat).orderly;
  regular = (sound board.valid).regular;
  stand = λ k d n. stands_surely board.valid.tables (state_of board.valid.tables) d (board.lasting k d n);
}

module _ (board next : Board) where
  run_granted : (run : List Change) → Run (moves (says board).policy) (says board).state run → DelegatesGrant (says board) run
  run_granted run lawful = delegates_grant (says board) (targets_inside board.valid.tables) (sound board.valid).regular run lawful

  -- the run of a verdict is a run
  shown : (k : Kind) (v : Bool) (run : List Change) (c : Call) → Outcome (says board) c (verdict k v (Some run)) (says next) → Run (moves (says board).policy) (says board).state run
  shown k v run (asking t l w) (free, answers, after) = answers.shows.lawful
  shown k v run (opening t l w) (free, reply, after) = absurd reply
  shown k v run (changing t l w) (free, reply, after) = absurd reply
  shown k v run (adding x u r) (free, reply, after) = absurd reply
  shown k v run (removing x u r) (free, reply, after) = absurd reply
  shown k v run (membership u r) (free, reply, after) = absurd reply
  shown k v run (permission u p) (free, reply, after) = absurd reply
  shown k v run (saving t l) (free, reply, after) = absurd reply

  granted : (c : Call) (a : Answer) → Outcome (says board) c a (says next) → AnswerGranted (says board) a
  granted c done h = tt
  granted c (truth v) h = tt
  granted c (verdict k v None) h = tt
  granted c (verdict k v (Some run)) h = run_granted run (shown k v run c h)
  granted c (refused d run) h = tt

  pub promised : (c : Call) (a : Answer) → Outcome (says board) c a (says next) → Promised (says board) c a (says next)
  promised c a h = record { outcome = h; only = only (says board) (secure board).orderly c a (says next) h; secure = secure next; granted = granted c a h }
