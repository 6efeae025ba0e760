-- One call of a story, as the book of the story has it, and what is promised of it.
use Rattle.std.specs.Prelude.{◌≡◌, ℕ, List, length, drop, Ok, Err, Result}
use Rattle.deciding.specs.declared.runs.RunStep.{RunStep}
use Rattle.book.specs.declared.refusal.Refusal.{Refusal}
use Rattle.book.specs.Book.{Book}
use Rattle.book.specs.Calls.{Call, opening, changing, asking, adding, removing, membership, permission}
use Rattle.book.specs.Outcomes.{Answer, done, truth, verdict, run_in}
use Rattle.book.specs.Stories.{Promised}
use Rattle.board.specs.Answers.{shown_by, refusal_by}
use Rattle.stories.specs.declared.call.Call.{Call as Asked}
use Rattle.stories.specs.declared.call.Call.TheVariants.{Open, Change, Ask, Add, Remove, Member, Permission}
use Rattle.stories.specs.declared.call.Reply.{Reply}
use Rattle.stories.specs.declared.call.Reply.TheVariants.{Done, Truth, Verdict}

-- the call, lent a list and a work table of these lengths
abbrev pub call_on : Asked → (list work : ℕ) → Call
call_on (Open text) list work = opening text.now list work
call_on (Change text) list work = changing text.now list work
call_on (Ask text) list work = asking text.now list work
call_on (Add actor user role) list work = adding actor user role
call_on (Remove actor user role) list work = removing actor user role
call_on (Member user role) list work = membership user role
call_on (Permission user number) list work = permission user number

-- the answer that a result and the list tell
abbrev pub reply_by : Result Reply Refusal → List RunStep → Answer
reply_by (Ok Done) list = done
reply_by (Ok (Truth is_so)) list = truth is_so
reply_by (Ok (Verdict a)) list = verdict a.kind a.verdict.yes (shown_by a.verdict.run list)
reply_by (Err e) list = refusal_by e list

-- what is promised of the call, made on the book b; the places of the list behind the run are as they were
pub record Called (call : Asked) (list : List RunStep) (work : ℕ) (b : Book) (result : Result Reply Refusal) (z : Book) (left : List RunStep) : Type 0 where
  pub promised : Promised b (call_on call (length list) work) (reply_by result left) z
  pub rest : drop (length (run_in (reply_by result left))) left ≡ drop (length (run_in (reply_by result left))) list
