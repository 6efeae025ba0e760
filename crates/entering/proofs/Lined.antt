-- A line that was read, as a row of the table of refusals, and what putting it in answers.
use Rattle.std.proofs.Common.{◌≡◌, ℕ, ◌<◌, ◌≤◌, Bool, true, false, List, Some, Option, Ok, Err, refl, ap, subst, inl, inr, arith, lit<}
use Rattle.grammar.specs.declared.grounds.Ground.{Ground}
use Rattle.grammar.specs.declared.grounds.Ground.TheVariants.{Syntax, Range, Measure, NotSemiStatic}
use Rattle.lines.specs.declared.change.Change.{Change}
use Rattle.lines.specs.declared.change.Extra.{Extra}
use Rattle.lines.specs.Languages.{Language, Says, Unrefused}
use Rattle.lines.specs.Languages.{Least as LeastGround}
use Rattle.lines.specs.Lines.{Sentence, lines, Fine}
use Rattle.texts.specs.Board.{Cut, BadLine, Comes}
use Rattle.texts.specs.declared.faults.Fault.{Fault}
use Rattle.texts.specs.declared.faults.Fault.TheVariants.{TooLong, Mark, InLine}
use Rattle.texts.specs.declared.faults.Way.{Way}
use Rattle.texts.specs.declared.faults.Way.TheVariants.{Add, Remove}
use Rattle.book.specs.declared.refusal.Cause.{Cause}
use Rattle.book.specs.Numbers.{number_of}
use Rattle.book.specs.Faults.{cause_of, refusal_of}
use Rattle.book.specs.Book.{Book, Entry}
use Rattle.book.specs.Refusals.{Any, Least, written, entered}
use Rattle.meaning.specs.Ranks.{rank}
use Rattle.book.specs.Calls.{LineRefuses, Puts, FaultyLine}
use Rattle.book.specs.Entering.{Entered, Readable}
use Rattle.book.proofs.Ladder.{above, here, skip}
use Rattle.book.specs.Says.{line_entry}
use Rattle.lines.specs.Changes.{Line}

pub is_so : (b : Bool) → (b ≡ false → ⊥) → b ≡ true
is_so true f = refl
is_so false f = absurd (f refl)

-- a ground that the text has none of is no row of the table
pub unwritten : (L : Language) (s : List ℕ) → Unrefused L s → (n : ℕ) → Any (written L s) n → ⊥
unwritten L s fine n (inl (e, h)) = fine Syntax h
unwritten L s fine n (inr (inl (e, h))) = fine Range h
unwritten L s fine n (inr (inr (inl (e, h)))) = fine Measure h
unwritten L s fine n (inr (inr (inr (inl (e, h))))) = fine NotSemiStatic h
unwritten L s fine n (inr (inr (inr (inr h)))) = h

-- the ground of the smallest number is the least row
pub least_written : (L : Language) (s : List ℕ) (g : Ground) → LeastGround L s g → Least (written L s) (number_of (cause_of g))
least_written L s Syntax (h, less, every) = here h (lit< tt, (lit< tt, (lit< tt, tt)))
least_written L s Range (h, less, every) = skip (less Syntax (lit< tt)) (here h (lit< tt, (lit< tt, tt)))
least_written L s Measure (h, less, every) = skip (less Syntax (lit< tt)) (skip (less Range (lit< tt)) (here h (lit< tt, tt)))
least_written L s NotSemiStatic (h, less, every) = skip (less Syntax (lit< tt)) (skip (less Range (lit< tt)) (skip (less Measure (lit< tt)) (here h tt)))

-- what a line names is refused with a number from 8 to 14
pub from_eight : (w : Way) (b : Book) (e : Entry) (n : ℕ) → Any (entered w b e) n → 7 < n
from_eight Add b e n any = let h = above 7 n (entered Add b e) (lit< tt, (lit< tt, (lit< tt, (lit< tt, tt)))) any in omega (arith, h)
from_eight Remove b e n any = let h = above 7 n (entered Remove b e) (lit< tt, (lit< tt, (lit< tt, tt))) any in omega (arith, h)

pub to_fourteen : (w : Way) (b : Book) (e : Entry) (n : ℕ) → Any (entered w b e) n → n < 15
to_fourteen Add b e n (inl (is, h)) = omega (arith, is)
to_fourteen Add b e n (inr (inl (is, h))) = omega (arith, is)
to_fourteen Add b e n (inr (inr (inl (is, h)))) = omega (arith, is)
to_fourteen Add b e n (inr (inr (inr (inl (is, h))))) = omega (arith, is)
to_fourteen Add b e n (inr (inr (inr (inr h)))) = absurd h
to_fourteen Remove b e n (inl (is, h)) = omega (arith, is)
to_fourteen Remove b e n (inr (inl (is, h))) = omega (arith, is)
to_fourteen Remove b e n (inr (inr (inl (is, h)))) = omega (arith, is)
to_fourteen Remove b e n (inr (inr (inr h))) = absurd h

pub ground_small : (g : Ground) → number_of (cause_of g) < 7
ground_small Syntax = lit< tt
ground_small Range = lit< tt
ground_small Measure = lit< tt
ground_small NotSemiStatic = lit< tt

-- a line that is read and not refused
pub fine : (l : List ℕ) (f : Sentence) → Says lines l f → Unrefused lines l → Fine f
fine l f said none = record {
  proper = said.1;
  ranged = is_so (lines.ranged f) (λ e. none Range (f, said, e));
  small = is_so (lines.small f) (λ e. none Measure (f, said, e));
  semi_static = is_so (lines.semi_static f) (λ e. none NotSemiStatic (f, said, e));
}

module _ (l : List ℕ) (change : Change) (extra : Extra) (line : Line l (Ok change) extra) where
  abbrev pub each : (f : Sentence) → Says lines l f → Readable change extra
  each f said = record { line = f; fine = fine l f said line.0; means = line.1.every f said }

  abbrev pub readable : Readable change extra
  readable = each line.1.some.0 line.1.some.1

  module _ (b z : Book) (s rest : List ℕ) (cut : Cut s l rest) where
    pub puts : ((x : Readable change extra) → Entered Add b (line_entry x.line) (Ok tt) z) → Puts b s z rest
    puts done = record {
      text = l;
      cut = cut;
      sentence = line.1.some.0;
      said = line.1.some.1;
      fine = none;
      made = (done readable).1;
    }
      where
        none : (n : ℕ) → LineRefuses b l n → ⊥
        none n (inl any) = unwritten lines l line.0 n any
        none n (inr (f, said, any)) = (done (each f said)).0.none n any

    pub faulty : (c : Cause) → ((x : Readable change extra) → Entered Add b (line_entry x.line) (Err c) z) → FaultyLine b s (number_of c)
    faulty c done = inr (l, rest, cut, record { refuses = inr (line.1.some.0, line.1.some.1, (done readable).0.applies); least = least })
      where
        least : (m : ℕ) → LineRefuses b l m → rank (number_of c) ≤ rank m
        least m (inl any) = absurd (unwritten lines l line.0 m any)
        least m (inr (f, said, any)) = (done (each f said)).0.least m any

    pub early : (c : Cause) → ((x : Readable change extra) → Entered Add b (line_entry x.line) (Err c) z) → number_of c < 15
    early c done = to_fourteen Add b (line_entry readable.line) (number_of c) (done readable).0.applies

-- the line that came
pub came : (k : ℕ) (s after : List ℕ) (o : Option Change) (change : Change) (extra : Extra) → o ≡ Some change → Comes k s (Ok o) after extra
    → (l : List ℕ) × (Cut s l after) × Line l (Ok change) extra
came k s after o change extra is h = subst (λ (x : Option Change). Comes k s (Ok x) after extra) is h

-- a line that is refused by how it is written
pub bad_line : (b : Book) (s : List ℕ) (g : Ground) → BadLine s g → FaultyLine b s (number_of (cause_of g))
bad_line b s g (inl (endless, more, e)) = inl (endless, more, ap (λ d. number_of (cause_of d)) e)
bad_line b s g (inr (l, rest, cut, least)) = inr (l, rest, cut, record { refuses = inl (least_written lines l g least).applies; least = go })
  where
    go : (m : ℕ) → LineRefuses b l m → rank (number_of (cause_of g)) ≤ rank m
    go m (inl any) = (least_written lines l g least).least m any
    go m (inr (f, said, any)) = let a = from_eight Add b (line_entry f) m any in let c = ground_small g in omega (arith, a, c)

-- a fault of the line that begins here
pub faulty_line : (k : ℕ) (b : Book) (s after : List ℕ) (extra : Extra) (f : Fault) → Comes k s (Err f) after extra
    → FaultyLine b s (number_of (refusal_of f).cause) × ((refusal_of f).line ≡ k) × (number_of (refusal_of f).cause < 15)
faulty_line k b s after extra TooLong h = absurd h
faulty_line k b s after extra Mark h = absurd h
faulty_line k b s after extra (InLine g m) (e, bad) = (bad_line b s g bad, e, let l = ground_small g in omega (arith, l))
