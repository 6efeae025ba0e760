-- The first two lines of a board text, and the way on from them.
use Rattle.std.proofs.Common.{ℕ, ◌+◌, ◌≤◌, List, ◌++◌, length, Ok, Err, ap, ◌∙◌, arith, lit<, length-append}
use mathlib.Core.Path.{subst⁻¹}
use Rattle.meaning.specs.declared.terms.Regime.{Regime}
use Rattle.meaning.specs.Terms.{regime_of}
use Rattle.texts.specs.declared.faults.Fault.{Fault}
use Rattle.texts.specs.declared.faults.Fault.TheVariants.{TooLong, Mark, InLine}
use Rattle.texts.specs.Board.{mark_line, regime_line}
use Rattle.texts.specs.Board.{Begins as TextBegins}
use Rattle.book.specs.declared.refusal.Refusal.{Refusal}
use Rattle.book.specs.Numbers.{number_of}
use Rattle.book.specs.Faults.{cause_of, refusal_of}
use Rattle.book.specs.Book.{Book, blank}
use Rattle.book.specs.Calls.{Feeds, Reads, OpeningRefused, too_long, no_mark, no_regime, a_line}
use Rattle.entering.specs.Opening.{Early, LinesPut}

-- refused whatever is lent
abbrev pub RefusedBy : List ℕ → Refusal → Type 0
RefusedBy text e = ((list work : ℕ) → OpeningRefused text list work (number_of e.cause) e.line) × Early e

pub begin_refused : (text : List ℕ) (f : Fault) (after : List ℕ) → TextBegins text (Err f) after → RefusedBy text (refusal_of f)
begin_refused text TooLong after h = (λ list work. too_long h, lit< tt)
begin_refused text Mark after (small, none) = (λ list work. no_mark small none, lit< tt)
begin_refused text (InLine g n) after (small, is, at, (x, marked), none) =
    subst⁻¹ (λ (k : ℕ). RefusedBy text (record { cause = cause_of g; line = k })) at
    (subst⁻¹ (λ (d : _). RefusedBy text (record { cause = cause_of d; line = 2 })) is
    (λ list work. no_regime small x marked (λ r y same. none r y (marked ∙ ap (λ (z : List ℕ). mark_line ++ z) same)), lit< tt))

module _ (text : List ℕ) (g : Regime) (rest : List ℕ) (begun : TextBegins text (Ok g) rest) where
  pub short : 3 + length rest ≤ 100000
  short =
      let whole = ap length begun.1 in
      let first = length-append mark_line (regime_line g ++ rest) in
      let second = length-append (regime_line g) rest in
      let small = begun.0 in
      omega (arith, whole, first, second, small)

  pub line_refused : (e : Refusal) (z : Book) → LinesPut 3 rest (blank (regime_of g)) (Err e) z → RefusedBy text e
  line_refused e z (stops, early) = (λ list work. a_line begun.0 g rest begun.1 stops, early)

  pub reads : (z : Book) → Feeds (blank (regime_of g)) rest z → Reads text z
  reads z feeds = (begun.0, (g, rest, begun.1, feeds))
