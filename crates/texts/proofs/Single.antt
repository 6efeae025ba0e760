-- Questions and changes: the answer of a line carried to the text that it is alone in.
use Rattle.std.proofs.Common.{◌≡◌, ℕ, ◌<◌, ◌≤◌, true, List, ◌∷◌, length, get_or, Some, Ok, Err, Result, sym, refl, ap, ◌∙◌, arith}
use Rattle.texts.specs.Lengths.{longest_line}
use Rattle.grammar.specs.Text.{ahead}
use Rattle.grammar.specs.declared.grounds.Ground.{Ground}
use Rattle.grammar.specs.declared.grounds.Ground.TheVariants.{Syntax, Range, Measure, NotSemiStatic}
use Rattle.lines.specs.declared.keyword.Keyword.{Keyword}
use Rattle.lines.specs.declared.keyword.Keyword.TheVariants as keyword
use Rattle.lines.specs.declared.change.Change.{Change}
use Rattle.lines.specs.declared.change.Extra.{Extra}
use Rattle.lines.specs.Languages.{Language, Says, Fails, Refuses, number_of, Least, Unrefused, Told}
use Rattle.lines.specs.Lines.{Sentence, asks, lines}
use Rattle.lines.proofs.Judging.{syntax_least}
use Rattle.texts.specs.declared.faults.Fault.{Fault}
use Rattle.texts.specs.declared.faults.Fault.TheVariants.{TooLong, Mark, InLine}
use Rattle.texts.specs.declared.faults.Way.{Way}
use Rattle.texts.specs.declared.faults.Way.TheVariants.{Add, Remove}
use Rattle.texts.specs.Answers.{told, Faulty, Answer, Changing, sign_of, changes}
use Rattle.meaning.specs.declared.terms.Kind.{Kind}
use Rattle.meaning.specs.declared.terms.Kind.TheVariants.{Possible, Necessary}
use Rattle.lines.specs.Readings.{TwoSides}
use Rattle.texts.specs.Words.{Starts}
use Rattle.texts.specs.Sentences.{Lined, Asked, Changed, Asks, asks_possible, asks_necessary}
use Rattle.texts.proofs.Starting.{whole_least, whole_unrefused, whole_told}
use Rattle.lines.specs.Changes.{Line}

-- a text that is not too long is refused as its line is
module _ (L : Language) (s : List ℕ) {A : Type 0} (M : A → L.Form → Type 0) where
  pub too_long : longest_line < length s → Answer L s M (Err TooLong)
  too_long h = (h, lower)
    where
      lower : (d : Fault) → (told d).number < 1 → Faulty L s d → ⊥
      lower TooLong k w = omega arith
      lower Mark k w = w
      lower (InLine Syntax n) k w = omega arith
      lower (InLine Range n) k w = omega arith
      lower (InLine Measure n) k w = omega arith
      lower (InLine NotSemiStatic n) k w = omega arith

  module _ (short : length s ≤ longest_line) where
    pub line_fault : (g : Ground) → Least L s g → Answer L s M (Err (InLine g 1))
    line_fault g (r, n, f) = ((refl, r), lower)
      where
        lower : (d : Fault) → (told d).number < number_of g → Faulty L s d → ⊥
        lower TooLong k w = omega arith
        lower Mark k w = w
        lower (InLine d m) k w = n d k w.1

    pub line_fine : (a : A) → Unrefused L s → Told L s (M a) → Answer L s M (Ok a)
    line_fine a n t = (none, t)
      where
        none : (d : Fault) → Faulty L s d → ⊥
        none TooLong w = omega arith
        none Mark w = w
        none (InLine d m) w = n d w.1

-- the answer of a line, as that of the text
abbrev pub carried : {A : Type 0} → Result A Ground → Result A Fault
carried (Ok a) = Ok a
carried (Err g) = Err (InLine g 1)

pub carry : (L : Language) (s : List ℕ) {A : Type 0} (M : A → L.Form → Type 0) → length s ≤ longest_line → (r : Result A Ground) → Lined L s M r → Answer L s M (carried r)
carry L s M short (Ok a) h = line_fine L s M short a h.0 h.1
carry L s M short (Err g) h = line_fault L s M short g h

-- ---- a change: its sign, and the line behind it

sign_one : (v w : Way) (x y : List ℕ) → sign_of v ∷ x ≡ sign_of w ∷ y → (v ≡ w) × (x ≡ y)
sign_one Add Add x y e = (refl, cc)
sign_one Remove Remove x y e = (refl, cc)
sign_one Add Remove x y e = let z : 43 ∷ x ≡ 45 ∷ y = e in let q : ◌≡◌ {A = ℕ} 43 45 = ap (λ l. get_or l 0 0) z in absurd (omega arith)
sign_one Remove Add x y e = let z : 45 ∷ x ≡ 43 ∷ y = e in let q : ◌≡◌ {A = ℕ} 45 43 = ap (λ l. get_or l 0 0) z in absurd (omega arith)

pub unsigned : (s : List ℕ) → (ahead s ≡ Some 43 → ⊥) → (ahead s ≡ Some 45 → ⊥) → Least changes s Syntax
unsigned s p m = syntax_least changes s (λ x w. no x.way (lines.bytes x.line) w.0)
  where
    no : (v : Way) (y : List ℕ) → s ≡ sign_of v ∷ y → ⊥
    no Add y e = p (ap ahead e)
    no Remove y e = m (ap ahead e)

module _ (s s1 : List ℕ) (way : Way) (e : s ≡ sign_of way ∷ s1) where
  inner : (x : Changing) → Says changes s x → (way ≡ x.way) × Says lines s1 x.line
  inner x w = let q = sign_one way x.way s1 (lines.bytes x.line) (sym e ∙ w.0) in (q.0, (q.1, w.1))

  outer : (l : Sentence) → Says lines s1 l → Says changes s (record { way = way; line = l })
  outer l w = (e ∙ ap (λ y. sign_of way ∷ y) w.0, w.1)

  there : (g : Ground) → Refuses lines s1 g → Refuses changes s g
  there Syntax r = λ x w. r x.line (inner x w).1
  there Range (l, w, f) = (record { way = way; line = l }, outer l w, f)
  there Measure (l, w, f) = (record { way = way; line = l }, outer l w, f)
  there NotSemiStatic (l, w, f) = (record { way = way; line = l }, outer l w, f)

  back : (g : Ground) → Refuses changes s g → Refuses lines s1 g
  back Syntax r = λ l w. r (record { way = way; line = l }) (outer l w)
  back Range (x, w, f) = (x.line, (inner x w).1, f)
  back Measure (x, w, f) = (x.line, (inner x w).1, f)
  back NotSemiStatic (x, w, f) = (x.line, (inner x w).1, f)

  same_fails : (g : Ground) (y : Changing) → Fails lines y.line g → Fails changes y g
  same_fails g y f = grind arith

  pub change_refused : (g : Ground) (x : Extra) → Line s1 (Err g) x → Changed s (Err g) x
  change_refused g x (r, n, f) = (there g r, (λ d l q. n d l (back d q)), λ y w. same_fails g y (f y.line (inner y w).1))

  pub change_read : (c : Change) (x : Extra) → Line s1 (Ok c) x → Changed s (Ok (record { way = way; change = c })) x
  change_read c x (n, t) = (
    (λ d r. n d (back d r)),
    record {
      some = (record { way = way; line = t.some.0 }, outer t.some.0 t.some.1, record { way = refl; change = t.some.2 });
      every = λ y w. record { way = (inner y w).0; change = t.every y.line (inner y w).1 };
    },
  )

-- ---- a question: its word, and the two sides behind it

pub no_question : (k : Keyword) → (k ≡ keyword.Possible → ⊥) → (k ≡ keyword.Necessary → ⊥) → asks k ≡ true → ⊥
no_question k p n e = grind arith

-- the keyword of a question
abbrev pub asks_by : Kind → Keyword
asks_by Possible = keyword.Possible
asks_by Necessary = keyword.Necessary

module _ (s s1 : List ℕ) (e : Extra) where
  pub asks_in_vain : (q : Kind) → Starts s (Some (asks_by q)) s1 → (g : Ground) → TwoSides s1 (Err g) e → Asked s (Err g) e
  asks_in_vain Possible h g b = whole_least true s s1 keyword.Possible h refl g b
  asks_in_vain Necessary h g b = whole_least true s s1 keyword.Necessary h refl g b

  pub asks_for : (q : Kind) → Starts s (Some (asks_by q)) s1 → TwoSides s1 (Ok tt) e → Asked s (Ok q) e
  asks_for Possible h (n, t) = (
    whole_unrefused true s s1 keyword.Possible h refl n,
    whole_told true s s1 keyword.Possible h refl (Asks e Possible) (record { some = (t.some.0, t.some.1, asks_possible t.some.2); every = λ x w. asks_possible (t.every x w) }),
  )
  asks_for Necessary h (n, t) = (
    whole_unrefused true s s1 keyword.Necessary h refl n,
    whole_told true s s1 keyword.Necessary h refl (Asks e Necessary) (record { some = (t.some.0, t.some.1, asks_necessary t.some.2); every = λ x w. asks_necessary (t.every x w) }),
  )
