-- The calls of a board, and when each is refused, with which number and line.
use Rattle.std.specs.Prelude.{◌≡◌, ℕ, suc, ◌<◌, ◌≤◌, true, cond, not, ◌||◌, T, ◌⊎◌, List, [], ◌∷◌, ◌++◌, length, ◌==◌, ◌≢◌, nat_le}
use Rattle.meaning.specs.Measures.{users, roles, permissions}
use Rattle.meaning.specs.Membership.{User, Role}
use Rattle.meaning.specs.Rules.{MayAdd, MayRemove}
use Rattle.meaning.specs.Ranks.{rank}
use Rattle.meaning.specs.Terms.{regime_of}
use Rattle.meaning.specs.declared.terms.Regime.{Regime}
use Rattle.lines.specs.Languages.{Says}
use Rattle.lines.specs.Lines.{Sentence, lines, questions}
use Rattle.texts.specs.Answers.{Changing, changes}
use Rattle.texts.specs.Lengths.{longest_line, longest_text}
use Rattle.texts.specs.Board.{Cut, unbroken, mark_line, regime_line}
use Rattle.texts.specs.declared.faults.Way.{Way}
use Rattle.texts.specs.declared.faults.Way.TheVariants.{Add, Remove}
use Rattle.book.specs.Book.{Book, Entry, put, Took, blank}
use Rattle.book.specs.Grounds.{NoRow}
use Rattle.book.specs.Refusals.{row, TableRow, Any, NoneApplies, Least, written, entered, whole, lent}
use Rattle.book.specs.Says.{line_entry}

-- opening, changing and asking come with a text and the lengths of the step list and the work table that are lent; saving comes with the text to be written and the length of the place for it
pub data Call : Type 0 where
  opening changing asking : (text : List ℕ) (list work : ℕ) → Call
  adding removing : (actor user role : ℕ) → Call
  membership permission : (user number : ℕ) → Call
  saving : (text : List ℕ) (place : ℕ) → Call

-- this number refuses, and none of a smaller rank does
pub record LeastOf (Refuses : ℕ → Type 0) (n : ℕ) : Type 0 where
  pub refuses : Refuses n
  pub least : (m : ℕ) → Refuses m → rank n ≤ rank m

-- ---- calls with plain numbers

abbrev pub OutOfRange : ℕ → ℕ → ℕ → Type 0
OutOfRange a u r = (users ≤ a) ⊎ ((users ≤ u) ⊎ (roles ≤ r))

abbrev pub additions : Book → User → User → Role → List TableRow
additions b a u r =
    row 4 (OutOfRange a u r)
    ∷ row 9 (T (b.policy.trusted a))
    ∷ row 10 (T (b.state u r))
    ∷ row 12 ((k : ℕ) → MayAdd b.policy b.state a u r k → ⊥)
    ∷ row 13 (NoRow b u)
    ∷ []

abbrev pub removals : Book → User → User → Role → List TableRow
removals b a u r =
    row 4 (OutOfRange a u r)
    ∷ row 9 (T (b.policy.trusted a))
    ∷ row 11 (T (not (b.state u r)))
    ∷ row 12 ((k : ℕ) → MayRemove b.policy b.state a u r k → ⊥)
    ∷ []

-- a user, and a number that is below a limit
abbrev pub lookups : (limit user number : ℕ) → List TableRow
lookups limit u n = row 4 ((users ≤ u) ⊎ (limit ≤ n)) ∷ []

-- a text, and a place for it
abbrev pub savings : List ℕ → ℕ → List TableRow
savings text place = row 7 (place < length text) ∷ []

-- ---- a change

-- what a line's entry makes of a book
abbrev pub Makes : Way → Entry → Book → Book → Type 0
Makes Add e b z = z ≡ put e b
Makes Remove e b z = Took e b z

-- refused by its text or by what is lent, by what it names, or by what it would make of the board
abbrev pub ChangeRefuses : Book → List ℕ → ℕ → ℕ → ℕ → Type 0
ChangeRefuses b text list work n =
    Any (row 1 (longest_line < length text) ∷ (written changes text ++ lent list work)) n
    ⊎ ((f : Changing) × Says changes text f
    × (Any (entered f.way b (line_entry f.line)) n ⊎ ((z : Book) × Makes f.way (line_entry f.line) b z × Any (whole z) n)))

-- the book that a change would make
abbrev pub WouldMake : Book → List ℕ → Book → Type 0
WouldMake b text z = (f : Changing) × Says changes text f × Makes f.way (line_entry f.line) b z

-- ---- a question

abbrev pub askings : List ℕ → ℕ → ℕ → List TableRow
askings text list work = row 1 (longest_line < length text) ∷ (written questions text ++ lent list work)

-- ---- an opening: lines are put in one after another, and the first faulty line decides

-- a line is refused by its text or by what it names
abbrev pub LineRefuses : Book → List ℕ → ℕ → Type 0
LineRefuses b l n = Any (written lines l) n ⊎ ((f : Sentence) × Says lines l f × Any (entered Add b (line_entry f)) n)

-- the line that comes next is put in, and the rest follows
pub record Puts (b : Book) (s : List ℕ) (z : Book) (rest : List ℕ) : Type 0 where
  pub text : List ℕ
  pub cut : Cut s text rest
  pub sentence : Sentence
  pub said : Says lines text sentence
  pub fine : (n : ℕ) → LineRefuses b text n → ⊥
  pub made : z ≡ put (line_entry sentence) b

-- the line that comes next has this fault: nothing ends it, or this is its smallest number
abbrev pub FaultyLine : Book → List ℕ → ℕ → Type 0
FaultyLine b s n =
    ((unbroken s ≡ true) × (s ≢ []) × (n ≡ 3))
    ⊎ ((l : List ℕ) × (rest : List ℕ) × Cut s l rest × LeastOf (LineRefuses b l) n)

-- all lines are put in, and lead to this book
pub data Feeds : Book → List ℕ → Book → Type 0 where
  end : {b : Book} → Feeds b [] b
  line : {b z : Book} {s rest : List ℕ} (m : Book) → Puts b s m rest → Feeds m rest z → Feeds b s z

-- the first faulty line, and its number, counted on from this one
pub data Stops : ℕ → Book → List ℕ → (number line : ℕ) → Type 0 where
  here : {k n : ℕ} {b : Book} {s : List ℕ} → FaultyLine b s n → Stops k b s n k
  later : {k n l : ℕ} {b : Book} {s rest : List ℕ} (m : Book) → Puts b s m rest → Stops (suc k) m rest n l → Stops k b s n l

-- the text begins with the mark and a regime, and its lines follow
abbrev pub Begins : List ℕ → Regime → List ℕ → Type 0
Begins text g rest = text ≡ mark_line ++ (regime_line g ++ rest)

-- the book that an opening leads to, before it is weighed as a whole
abbrev pub Reads : List ℕ → Book → Type 0
Reads text z = (length text ≤ longest_text) × ((g : Regime) × (rest : List ℕ) × Begins text g rest × Feeds (blank (regime_of g)) rest z)

-- an opening is refused with this number at this line
pub data OpeningRefused (text : List ℕ) (list work : ℕ) : (number line : ℕ) → Type 0 where
  too_long : longest_text < length text → OpeningRefused text list work 1 0
  no_mark : length text ≤ longest_text → ((x : List ℕ) → text ≢ mark_line ++ x) → OpeningRefused text list work 2 1
  no_regime : length text ≤ longest_text → (x : List ℕ) → text ≡ mark_line ++ x → ((g : Regime) (y : List ℕ) → x ≢ regime_line g ++ y) → OpeningRefused text list work 3 2
  a_line : length text ≤ longest_text → (g : Regime) (rest : List ℕ) → Begins text g rest → {n l : ℕ} → Stops 3 (blank (regime_of g)) rest n l → OpeningRefused text list work n l
  at_last : {z : Book} → Reads text z → {n : ℕ} → Least (lent list work ++ whole z) n → OpeningRefused text list work n 0

-- ---- every call

-- a change or a question is line 1 of its own; what is of no line has line 0
abbrev pub line_of : ℕ → ℕ
line_of n = cond (nat_le 15 n || (n == 1 || n == 7)) 0 1

-- the call is refused with this number, of all that apply the one of least rank, at this line
abbrev pub RefusedAt : Book → Call → (number line : ℕ) → Type 0
RefusedAt b (opening text list work) n l = OpeningRefused text list work n l
RefusedAt b (changing text list work) n l = LeastOf (ChangeRefuses b text list work) n × (l ≡ line_of n)
RefusedAt b (asking text list work) n l = Least (askings text list work) n × (l ≡ line_of n)
RefusedAt b (adding a u r) n l = Least (additions b a u r) n × (l ≡ 0)
RefusedAt b (removing a u r) n l = Least (removals b a u r) n × (l ≡ 0)
RefusedAt b (membership u r) n l = Least (lookups roles u r) n × (l ≡ 0)
RefusedAt b (permission u p) n l = Least (lookups permissions u p) n × (l ≡ 0)
RefusedAt b (saving text place) n l = Least (savings text place) n × (l ≡ 0)
