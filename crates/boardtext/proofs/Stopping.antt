-- A board text is read to its end or stops at a faulty line, never both; and it stops at one line, with one number.
use Rattle.std.proofs.Common.{◌≡◌, ◌≢◌, ℕ, suc, ◌<◌, ◌≤◌, length, true, List, [], ◌∷◌, ◌++◌, sym, refl, ◌∙◌, subst, inl, inr, arith}
use mathlib.Core.Path.{subst⁻¹}
use borrow.Author.Tests.{clash}
use Rattle.std.proofs.lemmas.Bool.{and_parts}
use Rattle.std.proofs.lemmas.List.{append_cancel_left}
use Rattle.meaning.specs.Ranks.{rank}
use Rattle.meaning.specs.Terms.{regime_of}
use Rattle.meaning.specs.declared.terms.Regime.{Regime}
use Rattle.texts.specs.Board.{goes_on, unbroken, Cut, mark_line, regime_line}
use Rattle.texts.specs.Lengths.{longest_text}
use Rattle.book.specs.Book.{Book, blank}
use Rattle.book.specs.Refusals.{Any, Least, whole, lent, NoneApplies, TableRow}
use Rattle.book.specs.Calls.{LeastOf, LineRefuses, Puts, Feeds, end, line, Stops, here, later, Begins, Reads, OpeningRefused, too_long, no_mark, no_regime, a_line, at_last, FaultyLine}
use Rattle.book.specs.Calls.{opening}
use Rattle.book.specs.Outcomes.{done, Outcome}
use Rattle.boardtext.proofs.Once.{cut_once, puts_once, nothing_cut, begins_once, reads_once}

-- ---- one line

broken : (l rest : List ℕ) → unbroken (l ++ 10 ∷ rest) ≡ true → ⊥
broken [] rest e = clash e
broken (x ∷ l) rest e = broken l rest (and_parts (goes_on x) (unbroken (l ++ 10 ∷ rest)) e).1

uncut : (s l rest : List ℕ) → unbroken s ≡ true → Cut s l rest → ⊥
uncut s l rest e cut = broken l rest (subst (λ (t : List ℕ). unbroken t ≡ true) cut.text e)

-- at the end of a text nothing is faulty
not_at_end : (b : Book) (n : ℕ) → FaultyLine b [] n → ⊥
not_at_end b n (inl (e, some, is)) = some refl
not_at_end b n (inr (l, rest, cut, least)) = nothing_cut l rest cut

-- a faulty line is not put in
not_put : (b : Book) (s : List ℕ) (m : Book) (rest : List ℕ) (n : ℕ) → FaultyLine b s n → Puts b s m rest → ⊥
not_put b s m rest n (inl (e, some, is)) p = uncut s p.text rest e p.cut
not_put b s m rest n (inr (l, r, cut, least)) p =
    let c = cut_once l p.text r rest cut.one p.cut.one (sym cut.text ∙ p.cut.text) in
    p.fine n (subst (λ (t : List ℕ). LineRefuses b t n) c.0 least.refuses)

-- ---- all lines

pub never_both : {k n l : ℕ} {b z : Book} {s : List ℕ} → Stops k b s n l → Feeds b s z → ⊥
never_both (here {n = n} {b = b} f) end = not_at_end b n f
never_both (here {n = n} {b = b} {s = s} f) (line {rest = r} m p g) = not_put b s m r n f p
never_both (later {rest = r} m p h) end = nothing_cut p.text r p.cut
never_both {z = z} (later {b = b} {s = s} {rest = r} m p h) (line {rest = q} j o g) =
    let e = puts_once b s m j r q p o in
    never_both h (subst (λ (t : List ℕ). Feeds m t z) (sym e.1) (subst (λ (c : Book). Feeds c q z) (sym e.0) g))

-- ---- one fault

pub least_once : (Refuses : ℕ → Type 0) (n m : ℕ) → LeastOf Refuses n → LeastOf Refuses m → n ≡ m
least_once Refuses n m x y =
    let a : rank n ≤ rank m = x.least m y.refuses in
    let b : rank m ≤ rank n = y.least n x.refuses in
    omega (arith, a, b)

pub row_once : (table : List TableRow) (n m : ℕ) → Least table n → Least table m → n ≡ m
row_once table n m x y =
    let a : rank n ≤ rank m = x.least m y.applies in
    let b : rank m ≤ rank n = y.least n x.applies in
    omega (arith, a, b)

fault_once : (b : Book) (s : List ℕ) (n m : ℕ) → FaultyLine b s n → FaultyLine b s m → n ≡ m
fault_once b s n m (inl (e, some, is)) (inl (f, other, same)) = is ∙ sym same
fault_once b s n m (inl (e, some, is)) (inr (l, r, cut, least)) = absurd (uncut s l r e cut)
fault_once b s n m (inr (l, r, cut, least)) (inl (f, other, same)) = absurd (uncut s l r f cut)
fault_once b s n m (inr (l, r, cut, x)) (inr (k, q, part, y)) =
    let c = cut_once l k r q cut.one part.one (sym cut.text ∙ part.text) in
    least_once (LineRefuses b l) n m x (subst⁻¹ (λ (t : List ℕ). LeastOf (LineRefuses b t) m) c.0 y)

pub stops_once : {k n l m j : ℕ} {b : Book} {s : List ℕ} → Stops k b s n l → Stops k b s m j → (n ≡ m) × (l ≡ j)
stops_once (here {n = n} {b = b} {s = s} f) (here {n = m} g) = (fault_once b s n m f g, refl)
stops_once (here {n = n} {b = b} {s = s} f) (later {rest = r} z p h) = absurd (not_put b s z r n f p)
stops_once (later {b = b} {s = s} {rest = r} z p h) (here {n = n} f) = absurd (not_put b s z r n f p)
stops_once {m = m} {j = j} (later {k = k} {b = b} {s = s} {rest = r} y p h) (later {rest = q} z o g) =
    let e = puts_once b s y z r q p o in
    stops_once h (subst⁻¹ (λ (t : List ℕ). Stops (suc k) y t m j) e.1 (subst⁻¹ (λ (c : Book). Stops (suc k) c q m j) e.0 g))

-- ---- an opening

module _ (text : List ℕ) (list work : ℕ) where
  too_long_not : longest_text < length text → length text ≤ longest_text → ⊥
  too_long_not long short = omega (arith, long, short)

  no_regime_not : (x : List ℕ) → text ≡ mark_line ++ x → ((g : Regime) (y : List ℕ) → x ≢ regime_line g ++ y) → (g : Regime) (rest : List ℕ) → Begins text g rest → ⊥
  no_regime_not x is none g rest begins = none g rest (append_cancel_left mark_line x (regime_line g ++ rest) (sym is ∙ begins))

  read_not : (g : Regime) (rest : List ℕ) (n l : ℕ) → Begins text g rest → Stops 3 (blank (regime_of g)) rest n l → (z : Book) → Reads text z → ⊥
  read_not g rest n l begins stops z reads =
      let same = begins_once text reads.1.0 g reads.1.1 rest reads.1.2 begins in
      never_both stops (subst (λ (t : List ℕ). Feeds (blank (regime_of g)) t z) same.1 (subst (λ (h : Regime). Feeds (blank (regime_of h)) reads.1.1 z) same.0 reads.1.3))

  one_stop : (g h : Regime) (r q : List ℕ) (n l m j : ℕ) → Begins text g r → Begins text h q → Stops 3 (blank (regime_of g)) r n l → Stops 3 (blank (regime_of h)) q m j → (n ≡ m) × (l ≡ j)
  one_stop g h r q n l m j b c x y =
      let same = begins_once text g h r q b c in
      stops_once x (subst⁻¹ (λ (t : List ℕ). Stops 3 (blank (regime_of g)) t m j) same.1 (subst⁻¹ (λ (i : Regime). Stops 3 (blank (regime_of i)) q m j) same.0 y))

  one_last : (y z : Book) (n m : ℕ) → Reads text y → Reads text z → Least (lent list work ++ whole y) n → Least (lent list work ++ whole z) m → n ≡ m
  one_last y z n m x w least other =
      row_once (lent list work ++ whole y) n m least (subst (λ (b : Book). Least (lent list work ++ whole b) m) (reads_once text z y w x) other)

  pub opened_not_refused : (z : Book) → Reads text z → NoneApplies (lent list work ++ whole z) → {n l : ℕ} → OpeningRefused text list work n l → ⊥
  opened_not_refused z reads none (too_long long) = too_long_not long reads.0
  opened_not_refused z reads none (no_mark short other) = other (regime_line reads.1.0 ++ reads.1.1) reads.1.2
  opened_not_refused z reads none (no_regime short x is other) = no_regime_not x is other reads.1.0 reads.1.1 reads.1.2
  opened_not_refused z reads none (a_line short g rest begins {n = n} {l = l} stops) = read_not g rest n l begins stops z reads
  opened_not_refused z reads none (at_last {z = y} other {n = n} least) =
      none.none n (subst (λ (b : Book). Any (lent list work ++ whole b) n) (reads_once text y z other reads) least.applies)

  -- so a text that is read, and the whole of which is refused for nothing, opens its book
  pub opens : (b z : Book) → Reads text z → NoneApplies (lent list work ++ whole z) → Outcome b (opening text list work) done z
  opens b z reads none = ((λ n l refused. opened_not_refused z reads none refused), tt, reads)

  -- the first of these grounds that applies decides
  pub opening_once : {n l m j : ℕ} → OpeningRefused text list work n l → OpeningRefused text list work m j → (n ≡ m) × (l ≡ j)
  opening_once (too_long a) (too_long b) = (refl, refl)
  opening_once (too_long a) (no_mark s h) = absurd (too_long_not a s)
  opening_once (too_long a) (no_regime s x e h) = absurd (too_long_not a s)
  opening_once (too_long a) (a_line s g r b p) = absurd (too_long_not a s)
  opening_once (too_long a) (at_last d p) = absurd (too_long_not a d.0)
  opening_once (no_mark s h) (too_long a) = absurd (too_long_not a s)
  opening_once (no_mark s h) (no_mark t k) = (refl, refl)
  opening_once (no_mark s h) (no_regime t x e k) = absurd (h x e)
  opening_once (no_mark s h) (a_line t g r b p) = absurd (h (regime_line g ++ r) b)
  opening_once (no_mark s h) (at_last d p) = absurd (h (regime_line d.1.0 ++ d.1.1) d.1.2)
  opening_once (no_regime s x e h) (too_long a) = absurd (too_long_not a s)
  opening_once (no_regime s x e h) (no_mark t k) = absurd (k x e)
  opening_once (no_regime s x e h) (no_regime t y f k) = (refl, refl)
  opening_once (no_regime s x e h) (a_line t g r b p) = absurd (no_regime_not x e h g r b)
  opening_once (no_regime s x e h) (at_last d p) = absurd (no_regime_not x e h d.1.0 d.1.1 d.1.2)
  opening_once (a_line s g r b p) (too_long a) = absurd (too_long_not a s)
  opening_once (a_line s g r b p) (no_mark t k) = absurd (k (regime_line g ++ r) b)
  opening_once (a_line s g r b p) (no_regime t x e k) = absurd (no_regime_not x e k g r b)
  opening_once (a_line s g r b {n = n} {l = l} p) (a_line t h q c {n = m} {l = j} o) = one_stop g h r q n l m j b c p o
  opening_once (a_line s g r b {n = n} {l = l} p) (at_last {z = z} d o) = absurd (read_not g r n l b p z d)
  opening_once (at_last d p) (too_long a) = absurd (too_long_not a d.0)
  opening_once (at_last d p) (no_mark s h) = absurd (h (regime_line d.1.0 ++ d.1.1) d.1.2)
  opening_once (at_last d p) (no_regime s x e h) = absurd (no_regime_not x e h d.1.0 d.1.1 d.1.2)
  opening_once (at_last {z = z} d p) (a_line s g r b {n = n} {l = l} o) = absurd (read_not g r n l b o z d)
  opening_once (at_last {z = y} d {n = n} p) (at_last {z = z} e {n = m} o) = (one_last y z n m d e p o, refl)
