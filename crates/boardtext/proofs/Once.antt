-- A board text is read as one book only.
use Rattle.std.proofs.Common.{◌≡◌, ℕ, suc, ◌+◌, Bool, true, false, List, [], ◌∷◌, ◌++◌, length, get_or, sym, refl, ap, ◌∙◌, subst, inl, inr, arith, length-append}
use borrow.Author.Tests.{clash}
use Rattle.std.proofs.lemmas.Bool.{and_parts}
use Rattle.std.proofs.lemmas.List.{append_cancel_left}
use Rattle.meaning.specs.Terms.{regime_of}
use Rattle.meaning.specs.declared.terms.Regime.{Regime}
use Rattle.meaning.specs.declared.terms.Regime.TheVariants.{Aatu, Aar}
use Rattle.lines.specs.Lines.{lines, Fine}
use Rattle.texts.specs.Board.{goes_on, unbroken, Cut, mark_line, regime_line}
use Rattle.book.specs.Book.{Book, Entry, blank, put}
use Rattle.book.specs.Calls.{Puts, Feeds, end, line, Begins, Reads}
use Rattle.boardtext.proofs.Alone.{lone_line}
use Rattle.book.specs.Says.{line_entry}

-- ---- one line

pub truth : (v : Bool) → (v ≡ false → ⊥) → v ≡ true
truth true h = refl
truth false h = absurd (h refl)

-- what was put in was refused for nothing
pub fine_of : (b : Book) (s : List ℕ) (m : Book) (rest : List ℕ) (p : Puts b s m rest) → Fine p.sentence
fine_of b s m rest p = record {
  proper = p.said.1;
  ranged = truth (lines.ranged p.sentence) (λ e. p.fine 4 (inl (inr (inl (refl, (p.sentence, p.said, e))))));
  small = truth (lines.small p.sentence) (λ e. p.fine 5 (inl (inr (inr (inl (refl, (p.sentence, p.said, e)))))));
  semi_static = truth (lines.semi_static p.sentence) (λ e. p.fine 6 (inl (inr (inr (inr (inl (refl, (p.sentence, p.said, e))))))));
}

-- a line ends at the first byte that ends one
pub cut_once : (l m r q : List ℕ) → unbroken l ≡ true → unbroken m ≡ true → l ++ 10 ∷ r ≡ m ++ 10 ∷ q → (l ≡ m) × (r ≡ q)
cut_once [] [] r q a b e = (refl, cc)
cut_once [] (y ∷ m) r q a b e =
    let f : 10 ≡ y = cc in
    absurd (clash (ap goes_on f ∙ (and_parts (goes_on y) (unbroken m) b).0))
cut_once (x ∷ l) [] r q a b e =
    let f : x ≡ 10 = cc in
    absurd (clash (ap goes_on (sym f) ∙ (and_parts (goes_on x) (unbroken l) a).0))
cut_once (x ∷ l) (y ∷ m) r q a b e =
    let f : x ≡ y = cc in
    let g : l ++ 10 ∷ r ≡ m ++ 10 ∷ q = cc in
    let h = cut_once l m r q (and_parts (goes_on x) (unbroken l) a).1 (and_parts (goes_on y) (unbroken m) b).1 g in
    (ap (λ t. x ∷ t) h.0 ∙ ap (λ c. c ∷ m) f, h.1)

pub puts_once : (b : Book) (s : List ℕ) (m n : Book) (r q : List ℕ) → Puts b s m r → Puts b s n q → (m ≡ n) × (r ≡ q)
puts_once b s m n r q x y =
    let c = cut_once x.text y.text r q x.cut.one y.cut.one (sym x.cut.text ∙ y.cut.text) in
    let same : line_entry y.sentence ≡ line_entry x.sentence = (lone_line x.sentence (fine_of b s m r x)).names y.sentence (sym x.said.0 ∙ c.0 ∙ y.said.0, y.said.1) in
    (x.made ∙ ap (λ (e : Entry). put e b) (sym same) ∙ sym y.made, c.1)

pub nothing_cut : (l rest : List ℕ) → Cut [] l rest → ⊥
nothing_cut l rest cut =
    let a : length (l ++ 10 ∷ rest) ≡ length l + suc (length rest) = length-append l (10 ∷ rest) in
    let e : 0 ≡ length (l ++ 10 ∷ rest) = ap length cut.text in
    omega (arith, a, e)

-- ---- all lines

feeds_once : {b z w : Book} {s : List ℕ} → Feeds b s z → Feeds b s w → z ≡ w
feeds_once end end = refl
feeds_once end (line {rest = rest} n p g) = absurd (nothing_cut p.text rest p.cut)
feeds_once (line {rest = rest} m p f) end = absurd (nothing_cut p.text rest p.cut)
feeds_once {w = w} (line {b = b} {s = s} {rest = r} m p f) (line {rest = q} n o g) =
    let e = puts_once b s m n r q p o in
    feeds_once f (subst (λ (t : List ℕ). Feeds m t w) (sym e.1) (subst (λ (c : Book). Feeds c q w) (sym e.0) g))

regime_once : (g h : Regime) (r q : List ℕ) → regime_line g ++ r ≡ regime_line h ++ q → (g ≡ h) × (r ≡ q)
regime_once Aatu Aatu r q e = (refl, append_cancel_left (regime_line Aatu) r q e)
regime_once Aar Aar r q e = (refl, append_cancel_left (regime_line Aar) r q e)
regime_once Aatu Aar r q e = let k : ◌≡◌ {A = ℕ} 116 114 = ap (λ s. get_or s 9 0) e in absurd (omega arith)
regime_once Aar Aatu r q e = let k : ◌≡◌ {A = ℕ} 114 116 = ap (λ s. get_or s 9 0) e in absurd (omega arith)

pub begins_once : (s : List ℕ) (g h : Regime) (r q : List ℕ) → Begins s g r → Begins s h q → (g ≡ h) × (r ≡ q)
begins_once s g h r q b c = regime_once g h r q (append_cancel_left mark_line (regime_line g ++ r) (regime_line h ++ q) (sym b ∙ c))

pub reads_once : (s : List ℕ) (z w : Book) → Reads s z → Reads s w → z ≡ w
reads_once s z w (l, (g, r, b, f)) (k, (h, q, c, e)) =
    let same = begins_once s g h r q b c in
    feeds_once f (subst (λ (t : List ℕ). Feeds (blank (regime_of g)) t w) (sym same.1) (subst (λ (i : Regime). Feeds (blank (regime_of i)) q w) (sym same.0) e))
