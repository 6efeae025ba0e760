-- Words told apart, and answers behind a word carried to the whole line.
use Rattle.std.proofs.Common.{◌≡◌, ℕ, Bool, true, false, cond, find, List, [], ◌∷◌, ◌++◌, length, take, drop, Some, None, Ok, Err, Option, Result, sym, refl, ap, ◌∙◌, subst, arith, Bor}
use borrow.Author.Tests.{clash}
use Rattle.std.proofs.Math.Seq.{take-append_seam, drop-append_seam}
use Rattle.std.proofs.lemmas.List.{take-append-drop}
use Rattle.std.proofs.lemmas.Slice.Eq.{slice_eq-Decides}
use Rattle.std.proofs.lemmas.Bool.Decides.{Decides-eqb}
use Rattle.grammar.specs.Text.{is_letter, is_digit, passes, run, Reads, Cut}
use Rattle.grammar.specs.declared.tokens.Part.{Part}
use Rattle.grammar.specs.declared.tokens.Part.TheVariants.{Word, Number, Sign, End}
use Rattle.grammar.specs.declared.grounds.Ground.{Ground}
use Rattle.grammar.specs.declared.grounds.Ground.TheVariants.{Syntax, Range, Measure, NotSemiStatic}
use Rattle.lines.specs.declared.keyword.Keyword.{Keyword}
use Rattle.lines.specs.declared.keyword.Keyword.TheVariants.{Ua, Pa, Rh, Trust, Assign, Revoke, Always, Never, Possible, Necessary}
use Rattle.lines.specs.declared.change.Change.{Change}
use Rattle.lines.specs.declared.change.Extra.{Extra}
use Rattle.lines.specs.Languages.{Says, Fails, Refuses, Least, Unrefused, Told}
use Rattle.lines.specs.Lines.{word, bodies, asks, Sentence, sentences}
use Rattle.lines.proofs.Judging.{syntax_least}
use Rattle.lines.proofs.Rowing.{some_is, no_some}
use Rattle.texts.specs.Words.{spells, Keywords, Starts}
use Rattle.lines.specs.Changes.{Means, Body, Line}

abbrev pub keywords : List Keyword
keywords = Ua ∷ Pa ∷ Rh ∷ Trust ∷ Assign ∷ Revoke ∷ Always ∷ Never ∷ Possible ∷ Necessary ∷ []

-- no keyword before it has its spelling
find_self : (k : Keyword) → find (spells (word k)) keywords ≡ Some k
find_self k = grind arith

find_passes : (p : Keyword → Bool) (ks : List Keyword) (k : Keyword) → find p ks ≡ Some k → p k ≡ true
find_passes p [] k e = cc e
find_passes p (j ∷ js) k e = go (p j) refl e (find_passes p js k)
  where
    go : (b : Bool) → p j ≡ b → cond b (Some j) (find p js) ≡ Some k → (find p js ≡ Some k → p k ≡ true) → p k ≡ true
    go true h f r = let q : j ≡ k = cc in ap p (sym q) ∙ h
    go false h f r = r f

pub spelt_so : (w : List ℕ) → Keywords w (find (spells w) keywords)
spelt_so w = record {
  found = λ k e. ap (λ v. find (spells v) keywords) e ∙ find_self k;
  real = λ k e. sym ((slice_eq-Decides Decides-eqb (word k) w _ refl).0 (find_passes (spells w) keywords k e));
}

pub letters_word : (k : Keyword) (x : List ℕ) → run is_letter (word k ++ 32 ∷ x) ≡ length (word k)
letters_word k x = grind arith

starts_letter : (k : Keyword) (x : List ℕ) → passes is_letter (word k ++ x) ≡ true
starts_letter k x = grind arith

starts_digit : (k : Keyword) (x : List ℕ) → passes is_digit (word k ++ x) ≡ false
starts_digit k x = grind arith

none_starts : (s after : List ℕ) → ((k : Keyword) (x : List ℕ) → s ≡ word k ++ 32 ∷ x → ⊥) → Starts s None after
none_starts s after h = record { found = λ k x e. absurd (h k x e); real = λ k e. no_some k e }

pub word_starts : (p : Part) (w : Bor (List ℕ)) (s after : List ℕ) (r : Option Keyword) → p ≡ Word w → Reads p s after → Keywords w.now r → Starts s r after
word_starts p w s after r e h k =
    let c : Cut (run is_letter s) w.now s after = (subst (λ q. Reads q s after) e h).1 in
    record {
      found = λ j x f.
          let n : run is_letter s ≡ length (word j) = ap (run is_letter) f ∙ letters_word j x in
          let front : w.now ≡ word j = c.0 ∙ ap (λ m. take m s) n ∙ ap (take (length (word j))) f ∙ take-append_seam (word j) (32 ∷ x) in
          (k.found j front, c.1 ∙ ap (λ m. drop m s) n ∙ ap (drop (length (word j))) f ∙ drop-append_seam (word j) (32 ∷ x));
      real = λ j f. sym (take-append-drop (run is_letter s) s) ∙ ap (λ l. l ++ drop (run is_letter s) s) (sym c.0 ∙ k.real j f) ∙ ap (λ l. word j ++ l) (sym c.1);
    }

pub number_starts : (p : Part) (w : Bor (List ℕ)) (s after : List ℕ) → p ≡ Number w → Reads p s after → Starts s None after
number_starts p w s after e h = none_starts s after (λ k x f. clash (sym (starts_digit k (32 ∷ x)) ∙ ap (passes is_digit) (sym f) ∙ (subst (λ q. Reads q s after) e h).0))

pub sign_starts : (p : Part) (w : Bor (List ℕ)) (s after : List ℕ) → p ≡ Sign w → Reads p s after → Starts s None after
sign_starts p w s after e h = none_starts s after (λ k x f. clash (sym (subst (λ q. Reads q s after) e h).0 ∙ ap (passes is_letter) f ∙ starts_letter k (32 ∷ x)))

pub end_starts : (p : Part) (s after : List ℕ) → p ≡ End → Reads p s after → Starts s None after
end_starts p s after e h = none_starts s after (λ k x f. clash (ap (passes is_letter) (sym (subst (λ q. Reads q s after) e h).0) ∙ ap (passes is_letter) f ∙ starts_letter k (32 ∷ x)))

-- ---- from behind the word to the whole line

blank_first : (k : Keyword) (b : (bodies k).Form) → (x : List ℕ) × ((bodies k).bytes b ≡ 32 ∷ x)
blank_first Ua b = (_, refl)
blank_first Pa b = (_, refl)
blank_first Rh b = (_, refl)
blank_first Trust b = (_, refl)
blank_first Assign b = (_, refl)
blank_first Revoke b = (_, refl)
blank_first Always b = (_, refl)
blank_first Never b = (_, refl)
blank_first Possible b = (_, refl)
blank_first Necessary b = (_, refl)

module _ (question : Bool) (s s1 : List ℕ) where
  -- no word stands there
  pub wordless : Starts s None s1 → Least (sentences question) s Syntax
  wordless h = syntax_least (sentences question) s (λ l w.
      let b = blank_first l.keyword l.body in
      no_some _ (h.found l.keyword b.0 (w.0 ∙ ap (λ x. word l.keyword ++ x) b.1)).0)

  module _ (k : Keyword) (h : Starts s (Some k) s1) where
    -- a form of the whole text is one of what stands behind the word
    invert : (P : Sentence → Type 0) → ((b : (bodies k).Form) → Says (bodies k) s1 b → P (record { keyword = k; body = b })) → (l : Sentence) → Says (sentences question) s l → P l
    invert P f l w =
        let b = blank_first l.keyword l.body in
        let g = h.found l.keyword b.0 (w.0 ∙ ap (λ x. word l.keyword ++ x) b.1) in
        let F : Keyword → Type 0 = λ j. (c : (bodies j).Form) → Says (bodies j) s1 c → P (record { keyword = j; body = c }) in
        subst F (some_is _ _ g.0) f l.body (g.1 ∙ sym b.1, w.1.1)

    -- the other sort of sentence
    pub misplaced : (asks k ≡ question → ⊥) → Least (sentences question) s Syntax
    misplaced n = syntax_least (sentences question) s (λ l w.
        let b = blank_first l.keyword l.body in
        let g = h.found l.keyword b.0 (w.0 ∙ ap (λ x. word l.keyword ++ x) b.1) in
        n (ap asks (some_is _ _ g.0) ∙ w.1.0))

    module _ (right : asks k ≡ question) where
      whole : (b : (bodies k).Form) → Says (bodies k) s1 b → Says (sentences question) s (record { keyword = k; body = b })
      whole b w = (h.real k refl ∙ ap (λ x. word k ++ x) w.0, (right, w.1))

      there : (g : Ground) → Refuses (bodies k) s1 g → Refuses (sentences question) s g
      there Syntax r = invert (λ l. ⊥) r
      there Range (b, w, e) = (record { keyword = k; body = b }, whole b w, e)
      there Measure (b, w, e) = (record { keyword = k; body = b }, whole b w, e)
      there NotSemiStatic (b, w, e) = (record { keyword = k; body = b }, whole b w, e)

      back : (g : Ground) → Refuses (sentences question) s g → Refuses (bodies k) s1 g
      back Syntax r = λ b w. r (record { keyword = k; body = b }) (whole b w)
      back Range (l, w, e) = invert (λ m. (bodies m.keyword).ranged m.body ≡ false → Refuses (bodies k) s1 Range) (λ b v f. (b, v, f)) l w e
      back Measure (l, w, e) = invert (λ m. (bodies m.keyword).small m.body ≡ false → Refuses (bodies k) s1 Measure) (λ b v f. (b, v, f)) l w e
      back NotSemiStatic (l, w, e) = invert (λ m. (bodies m.keyword).semi_static m.body ≡ false → Refuses (bodies k) s1 NotSemiStatic) (λ b v f. (b, v, f)) l w e

      same_fails : (g : Ground) (b : (bodies k).Form) → Fails (bodies k) b g → Fails (sentences question) (record { keyword = k; body = b }) g
      same_fails g b f = grind arith

      pub whole_least : (g : Ground) → Least (bodies k) s1 g → Least (sentences question) s g
      whole_least g (r, n, f) = (there g r, (λ d l q. n d l (back d q)), λ l w. invert (λ m. Fails (sentences question) m g) (λ b v. same_fails g b (f b v)) l w)

      pub whole_unrefused : Unrefused (bodies k) s1 → Unrefused (sentences question) s
      whole_unrefused n d r = n d (back d r)

      pub whole_told : (P : Sentence → Type 0) → Told (bodies k) s1 (λ b. P (record { keyword = k; body = b })) → Told (sentences question) s P
      whole_told P t = record { some = (record { keyword = k; body = t.some.0 }, whole t.some.0 t.some.1, t.some.2); every = λ l w. invert P (λ b v. t.every b v) l w }

line_answer : (s s1 : List ℕ) (k : Keyword) → Starts s (Some k) s1 → asks k ≡ false → (a : Result Change Ground) (e : Extra) → Body k s1 a e → Line s a e
line_answer s s1 k h r (Ok c) e (n, t) = (whole_unrefused false s s1 k h r n, whole_told false s s1 k h r (λ l. Means l.keyword l.body c e) t)
line_answer s s1 k h r (Err g) e b = whole_least false s s1 k h r g b

-- by the word that was read
pub line_by : (s s1 : List ℕ) (w k : Keyword) → Starts s (Some w) s1 → w ≡ k → asks k ≡ false → (a : Result Change Ground) (e : Extra) → Body k s1 a e → Line s a e
line_by s s1 w k h q r a e b = line_answer s s1 k (subst (λ (j : Keyword). Starts s (Some j) s1) q h) r a e b
