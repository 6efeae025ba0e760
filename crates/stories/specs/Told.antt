-- A story of many calls, each with its answer.
use Rattle.std.specs.Prelude.{◌≡◌, ℕ, min, List, [], ◌∷◌, ◌++◌, length, take, drop}
use Rattle.deciding.specs.declared.runs.RunStep.{RunStep}
use Rattle.book.specs.Book.{Book}
use Rattle.stories.specs.declared.call.Call.{Call as Asked}
use Rattle.stories.specs.declared.turn.Turn.{Turn}
use Rattle.stories.specs.Calls.{Called}

-- a turn without its answer
abbrev pub asked_in : Turn → Asked × (ℕ × ℕ)
asked_in t = (t.call, (t.list, t.work))

-- the turn's call is made on the book b, lent the first places of the list and the first words of the work table, and the other places stay
abbrev pub Turned : (words : ℕ) → Book → List RunStep → Turn → Book → List RunStep → Type 0
Turned words b list t z left = (front : List RunStep) × Called t.call (take (min t.list (length list)) list) (min t.work words) b t.answer z front × (left ≡ front ++ drop (min t.list (length list)) list)

-- each call is made on the book and with the list that those before it left
abbrev pub Told : (words : ℕ) → Book → List RunStep → List Turn → Book → List RunStep → Type 0
Told words b list [] z left = (z ≡ b) × (left ≡ list)
Told words b list (t ∷ ts) z left = (m : Book) × (mid : List RunStep) × Turned words b list t m mid × Told words m mid ts z left
