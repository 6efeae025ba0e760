-- The one table of refusals: for each call every number that can refuse it, each on its own ground; of those that apply the one of least rank is the answer.
use Rattle.std.specs.Prelude.{◌≡◌, ℕ, ◌<◌, ◌≤◌, ◌⊎◌, List, [], ◌∷◌}
use Rattle.meaning.specs.Measures.{work_words, list_places}
use Rattle.meaning.specs.Ranks.{rank}
use Rattle.meaning.specs.Regimes.{AdminsAreNoTargets, AdminsAreAssigned, AssignableIsRevocable}
use Rattle.grammar.specs.declared.grounds.Ground.TheVariants.{Syntax, Range, Measure, NotSemiStatic}
use Rattle.lines.specs.Languages.{Language, Refuses}
use Rattle.texts.specs.declared.faults.Way.{Way}
use Rattle.texts.specs.declared.faults.Way.TheVariants.{Add, Remove}
use Rattle.book.specs.Book.{Book, Entry}
use Rattle.book.specs.Grounds.{WrongRegime, NamedTwice, There, Missing, NoRoom, ClosesCircle, Breached, Fails}

-- one line of the table: a number, and what makes it refuse
pub record TableRow : Type 1 where
  pub number : ℕ
  pub applies : Type 0

abbrev pub row : ℕ → Type 0 → TableRow
row n c = record { number = n; applies = c }

-- some row with this number applies
abbrev pub Any : List TableRow → ℕ → Type 0
Any [] n = ⊥
Any (x ∷ xs) n = ((x.number ≡ n) × x.applies) ⊎ Any xs n

-- none applies
pub record NoneApplies (table : List TableRow) : Type 0 where
  pub none : (n : ℕ) → Any table n → ⊥

-- this number applies, and none of a smaller rank does
pub record Least (table : List TableRow) (n : ℕ) : Type 0 where
  pub applies : Any table n
  pub least : (m : ℕ) → Any table m → rank n ≤ rank m

-- what the text alone is refused for, as a form of a language
abbrev pub written : Language → List ℕ → List TableRow
written L s = row 3 (Refuses L s Syntax) ∷ row 4 (Refuses L s Range) ∷ row 5 (Refuses L s Measure) ∷ row 6 (Refuses L s NotSemiStatic) ∷ []

-- what an entry is refused for in a book, to be added or to be removed
abbrev pub entered : Way → Book → Entry → List TableRow
entered Add b e = row 8 (WrongRegime b e) ∷ row 10 (There b e ⊎ NamedTwice e) ∷ row 13 (NoRoom b e) ∷ row 14 (ClosesCircle b e) ∷ []
entered Remove b e = row 8 (WrongRegime b e) ∷ row 10 (NamedTwice e) ∷ row 11 (Missing b e) ∷ []

-- what a whole board is refused for
abbrev pub whole : Book → List TableRow
whole b =
    row 15 (Breached b (AdminsAreNoTargets b.policy))
    ∷ row 16 (Breached b (AdminsAreAssigned b.policy b.state))
    ∷ row 17 (Breached b (AssignableIsRevocable b.policy))
    ∷ row 18 ((k : ℕ) × Fails b k)
    ∷ []

-- a step list or a work table that is too short
abbrev pub lent : (list work : ℕ) → List TableRow
lent list work = row 7 ((list < list_places) ⊎ (work < work_words)) ∷ []
