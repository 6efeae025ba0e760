-- Lines put in one after another.
use Rattle.std.proofs.Common.{◌≡◌, ℕ, List, [], ◌∷◌, ◌++◌, refl, ap, ◌∙◌, subst, inl, inr, append_assoc}
use mathlib.Core.Path.{subst⁻¹}
use Rattle.grammar.specs.declared.grounds.Ground.TheVariants.{Syntax, Range, Measure, NotSemiStatic}
use Rattle.lines.specs.Lines.{Sentence, lines, Fine}
use Rattle.texts.specs.declared.faults.Way.TheVariants.{Add}
use Rattle.book.specs.Book.{Book, Entry, put}
use Rattle.book.specs.Refusals.{Any, entered, NoneApplies}
use Rattle.book.specs.Calls.{LineRefuses, Puts, Feeds, end, line}
use Rattle.boardtext.specs.Canonical.{ended}
use Rattle.boardtext.proofs.Whole.{one_line}
use Rattle.boardtext.proofs.Alone.{Lone, lone_line}
use Rattle.book.specs.Says.{line_entry}

-- the text is a line that nothing refuses, and names the entry
pub record Writes (e : Entry) (s : List ℕ) : Type 0 where
  pub line : Sentence
  pub fine : Fine line
  pub bytes : s ≡ lines.bytes line
  pub names : line_entry line ≡ e

module _ (b : Book) (x : Sentence) (h : Fine x) (free : NoneApplies (entered Add b (line_entry x))) where
  not_refused : Lone x → (n : ℕ) → LineRefuses b (lines.bytes x) n → ⊥
  not_refused l n (inl (inl r)) = l.unrefused Syntax r.1
  not_refused l n (inl (inr (inl r))) = l.unrefused Range r.1
  not_refused l n (inl (inr (inr (inl r)))) = l.unrefused Measure r.1
  not_refused l n (inl (inr (inr (inr (inl r))))) = l.unrefused NotSemiStatic r.1
  not_refused l n (inl (inr (inr (inr (inr r))))) = r
  not_refused l n (inr (f, w, a)) = free.none n (subst (λ (e : Entry). Any (entered Add b e) n) (l.names f w) a)

  puts : Puts b (ended (lines.bytes x)) (put (line_entry x) b) []
  puts = record {
    text = lines.bytes x;
    cut = record { text = refl; one = one_line x h };
    sentence = x;
    said = (refl, h.proper);
    fine = not_refused (lone_line x h);
    made = refl;
  }

-- one line is put in
pub one : (b : Book) (e : Entry) (s : List ℕ) → Writes e s → NoneApplies (entered Add b e) → Feeds b (ended s) (put e b)
one b e s w free =
    let f : NoneApplies (entered Add b (line_entry w.line)) = subst⁻¹ (λ (d : Entry). NoneApplies (entered Add b d)) w.names free in
    subst⁻¹ (λ (t : List ℕ). Feeds b (ended t) (put e b)) w.bytes
    (subst (λ (d : Entry). Feeds b (ended (lines.bytes w.line)) (put d b)) w.names (line (put (line_entry w.line) b) (puts b w.line w.fine f) end))

-- lines, and further lines behind them
pub then : {b m z : Book} {s x : List ℕ} → Feeds b s m → Feeds m x z → Feeds b (s ++ x) z
then end g = g
then {x = x} (line {s = s} {rest = rest} n p f) g = line n (record {
  text = p.text;
  cut = record { text = ap (λ t. t ++ x) p.cut.text ∙ append_assoc p.text (10 ∷ rest) x; one = p.cut.one };
  sentence = p.sentence;
  said = p.said;
  fine = p.fine;
  made = p.made;
}) (then f g)
