-- What a call comes to: it is granted, with what it is answered and what it makes of the book; or it is refused, with all that a refusal tells.
use Rattle.std.specs.Prelude.{◌≡◌, ◌≢◌, ℕ, Bool, List, [], length, Some, None, Decides, Option, MatchOption}
use Rattle.std.specs.Bool.{beq}
use Rattle.std.specs.Option.{is_some}
use Rattle.meaning.specs.Measures.{list_places}
use Rattle.meaning.specs.Membership.{Member}
use Rattle.meaning.specs.Sets.{HasPermission, Question}
use Rattle.meaning.specs.Runs.{Change, adds, removes, after, moves}
use Rattle.meaning.specs.Terms.{IsYes}
use Rattle.meaning.specs.declared.terms.Kind.{Kind}
use Rattle.meaning.specs.Requirements.{Breaks, required}
use Rattle.meaning.specs.Witnesses.{Shows, Sought, sought_by}
use Rattle.lines.specs.Languages.{Says}
use Rattle.lines.specs.Lines.{Sentence, questions}
use Rattle.book.specs.Numbers.{Diagnostic}
use Rattle.book.specs.Book.{Book, with_state}
use Rattle.book.specs.Grounds.{Fails}
use Rattle.book.specs.Says.{Poses}
use Rattle.book.specs.Calls.{Call, opening, changing, asking, adding, removing, membership, permission, saving, Reads, WouldMake, RefusedAt}

-- what a call is answered: that it was done; whether something is so; the verdict on a question of a kind, with the run that shows it where one does; or a refusal, with the run that shows a failed requirement
pub data Answer : Type 0 where
  done : Answer
  truth : Bool → Answer
  verdict : Kind → Bool → Option (List Change) → Answer
  refused : Diagnostic → List Change → Answer

-- ---- granted

-- the text poses a question of this kind, the verdict on it is exact, and a run shows it where one can
pub record Answers (b : Book) (text : List ℕ) (kind : Kind) (is_so : Bool) (run : Option (List Change)) : Type 0 where
  pub sentence : Sentence
  pub said : Says questions text sentence
  pub question : Question
  pub poses : Poses sentence kind question
  pub exact : Decides is_so (IsYes kind b.policy b.state question)
  pub shown : is_some run ≡ beq is_so (sought_by kind)
  pub shows : MatchOption run (Unit {0}) (λ xs. Shows (moves b.policy) b.state question (Sought (sought_by kind) b.policy question) list_places xs)

-- what a granted call is answered
abbrev pub Replies : Book → Call → Answer → Type 0
Replies b (asking text list work) (verdict kind is_so run) = Answers b text kind is_so run
Replies b (asking text list work) a = ⊥
Replies b (membership u r) (truth is_so) = Decides is_so (Member b.policy.edge (b.state u) r)
Replies b (membership u r) a = ⊥
Replies b (permission u p) (truth is_so) = Decides is_so (HasPermission b.policy (b.state u) p)
Replies b (permission u p) a = ⊥
Replies b c done = Unit {0}
Replies b c a = ⊥

-- the book that a granted call leaves
abbrev pub BookAfter : Book → Call → Book → Type 0
BookAfter b (opening text list work) z = Reads text z
BookAfter b (changing text list work) z = WouldMake b text z
BookAfter b (adding a u r) z = z ≡ with_state (after (adds a u r 0) b.state) b
BookAfter b (removing a u r) z = z ≡ with_state (after (removes a u r 0) b.state) b
BookAfter b c z = z ≡ b

-- ---- refused

-- the book that a call would make, which is weighed as a whole
abbrev pub BookToWeigh : Book → Call → Book → Type 0
BookToWeigh b (opening text list work) z = Reads text z
BookToWeigh b (changing text list work) z = WouldMake b text z
BookToWeigh b c z = ⊥

-- the run leads from the state of this book to one that alone breaks the first requirement that fails there
pub record Breaking (z : Book) (k : ℕ) (run : List Change) : Type 0 where
  pub fails : Fails z k
  pub shows : Shows (moves z.policy) z.state (required fails.requirement) (Breaks z.policy fails.requirement) list_places run

-- the requirement that a refusal of this number names, and the run that shows that it fails; else none and no step
pub data Evidence (b : Book) (c : Call) : ℕ → ℕ → List Change → Type 0 where
  nothing : {n : ℕ} → n ≢ 18 → Evidence b c n 0 []
  a_requirement : {k : ℕ} {run : List Change} (z : Book) → BookToWeigh b c z → Breaking z k run → Evidence b c 18 k run

-- all that a refusal tells of the call
pub record IsRefused (b : Book) (c : Call) (d : Diagnostic) (run : List Change) : Type 0 where
  pub refused_at : RefusedAt b c d.number d.line
  pub evidence : Evidence b c d.number d.requirement run
  pub counted : d.steps ≡ length run

-- ---- every call

-- nothing refuses the call, and it is answered so and leaves this book
abbrev pub Granted : Book → Call → Answer → Book → Type 0
Granted b c a z = ((n l : ℕ) → RefusedAt b c n l → ⊥) × Replies b c a × BookAfter b c z

-- the call made on the book b is answered a and leaves the book z: granted where nothing refuses it, and else refused, and the book as it was
abbrev pub Outcome : Book → Call → Answer → Book → Type 0
Outcome b c (refused d run) z = IsRefused b c d run × (z ≡ b)
Outcome b c done z = Granted b c done z
Outcome b c (truth is_so) z = Granted b c (truth is_so) z
Outcome b c (verdict kind is_so run) z = Granted b c (verdict kind is_so run) z

-- the run that is handed out with an answer
abbrev pub run_in : Answer → List Change
run_in (verdict kind is_so (Some run)) = run
run_in (refused d run) = run
run_in a = []
