use Rattle.std.specs.Prelude.{◌≡◌, ℕ, ◌+◌, min, List, [], ◌∷◌, slice_set}
use Rattle.pen.specs.declared.writer.Writer.{Writer}

abbrev pub top : ℕ
top = 18446744073709551615

-- one more, up to the top
abbrev pub next : ℕ → ℕ
next i = min (i + 1) top

-- the list xs once the bytes of a list stand in it from the place i on; what lies past its end is lost
abbrev pub puts : List ℕ → ℕ → List ℕ → List ℕ
puts xs i [] = xs
puts xs i (b ∷ bs) = puts (slice_set xs i b) (next i) bs

abbrev pub count : ℕ → List ℕ → ℕ
count i [] = i
count i (b ∷ bs) = count (next i) bs

-- from the writer v, with these bytes written, to the writer w
pub record Wrote (v : Writer) (a : List ℕ) (w : Writer) : Type 0 where
  pub more : w.len ≡ count v.len a
  pub placed : w.place.now ≡ puts v.place.now v.len a
  pub same : w.place.ghost_name ≡ v.place.ghost_name
