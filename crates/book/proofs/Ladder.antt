-- A table is gone through from its lowest rank: what is tested and does not apply is passed, and the first that applies is the answer.
use Rattle.std.proofs.Common.{◌≡◌, ℕ, ◌<◌, ◌≤◌, ◌⊎◌, List, [], ◌∷◌, ◌++◌, refl, inl, inr, arith}
use Rattle.meaning.specs.Ranks.{rank}
use Rattle.book.specs.Refusals.{Any, Least, NoneApplies, TableRow}

-- the ranks of the rows ascend from above that of n
abbrev pub Above : ℕ → List TableRow → Type 0
Above n [] = Unit {0}
Above n (l ∷ ls) = (rank n < rank l.number) × Above l.number ls

pub above : (n m : ℕ) (ls : List TableRow) → Above n ls → Any ls m → rank n < rank m
above n m [] a h = absurd h
above n m (l ∷ ls) (lt, a) (inl (e, h)) = omega arith
above n m (l ∷ ls) (lt, a) (inr h) = let k : rank l.number < rank m = above l.number m ls a h in omega arith

pub end : NoneApplies []
end = record { none = λ n h. h }

pub pass : {l : TableRow} {ls : List TableRow} → (l.applies → ⊥) → NoneApplies ls → NoneApplies (l ∷ ls)
pass {l} {ls} not-it rest = record { none = go }
  where
    go : (n : ℕ) → Any (l ∷ ls) n → ⊥
    go n (inl h) = not-it h.1
    go n (inr h) = rest.none n h

pub here : {l : TableRow} {ls : List TableRow} → l.applies → Above l.number ls → Least (l ∷ ls) l.number
here {l} {ls} it a = record { applies = inl (refl, it); least = go }
  where
    go : (m : ℕ) → Any (l ∷ ls) m → rank l.number ≤ rank m
    go m (inl h) = let e : l.number ≡ m = h.0 in omega arith
    go m (inr h) = let k : rank l.number < rank m = above l.number m ls a h in omega arith

pub skip : {l : TableRow} {ls : List TableRow} {n : ℕ} → (l.applies → ⊥) → Least ls n → Least (l ∷ ls) n
skip {l} {ls} {n} not-it rest = record { applies = inr rest.applies; least = go }
  where
    go : (m : ℕ) → Any (l ∷ ls) m → rank n ≤ rank m
    go m (inl h) = absurd (not-it h.1)
    go m (inr h) = rest.least m h

-- ---- a row put last

front : (ls : List TableRow) (l : TableRow) (n : ℕ) → Any ls n → Any (ls ++ l ∷ []) n
front [] l n h = absurd h
front (x ∷ xs) l n (inl h) = inl h
front (x ∷ xs) l n (inr h) = inr (front xs l n h)

last : (ls : List TableRow) (l : TableRow) → l.applies → Any (ls ++ l ∷ []) l.number
last [] l h = inl (refl, h)
last (x ∷ xs) l h = inr (last xs l h)

parts : (ls : List TableRow) (l : TableRow) (n : ℕ) → Any (ls ++ l ∷ []) n → Any ls n ⊎ ((l.number ≡ n) × l.applies)
parts [] l n (inl h) = inr h
parts [] l n (inr h) = absurd h
parts (x ∷ xs) l n (inl h) = inl (inl h)
parts (x ∷ xs) l n (inr h) = elim (parts xs l n h) [ inl k ↦ inl (inr k) | inr k ↦ inr k ]

pub before_last : (ls : List TableRow) (l : TableRow) (n : ℕ) → rank n < rank l.number → Least ls n → Least (ls ++ l ∷ []) n
before_last ls l n lt x = record { applies = front ls l n x.applies; least = λ m h. go m (parts ls l m h) }
  where
    go : (m : ℕ) → Any ls m ⊎ ((l.number ≡ m) × l.applies) → rank n ≤ rank m
    go m (inl h) = x.least m h
    go m (inr h) = let e : l.number ≡ m = h.0 in omega arith

pub at_last : (ls : List TableRow) (l : TableRow) → NoneApplies ls → l.applies → Least (ls ++ l ∷ []) l.number
at_last ls l none it = record { applies = last ls l it; least = λ m h. go m (parts ls l m h) }
  where
    go : (m : ℕ) → Any ls m ⊎ ((l.number ≡ m) × l.applies) → rank l.number ≤ rank m
    go m (inl h) = absurd (none.none m h)
    go m (inr h) = let e : l.number ≡ m = h.0 in omega arith

pub past_last : (ls : List TableRow) (l : TableRow) → NoneApplies ls → (l.applies → ⊥) → NoneApplies (ls ++ l ∷ [])
past_last ls l none not-it = record { none = λ m h. go m (parts ls l m h) }
  where
    go : (m : ℕ) → Any ls m ⊎ ((l.number ≡ m) × l.applies) → ⊥
    go m (inl h) = none.none m h
    go m (inr h) = not-it h.1
