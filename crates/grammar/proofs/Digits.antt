-- Runs of bytes, and the number that digits write.
use Rattle.std.proofs.Common.{◌≡◌, ℕ, zero, suc, ◌+◌, ◌-◌, ◌*◌, ◌^◌, ◌<◌, ◌≤◌, Bool, true, false, cond, not, ◌&&◌, ◌||◌, ltb, leb, eqb, ◌⊎◌, List, [], ◌∷◌, length, get_or, take, drop, slice_get, Some, None, Option, sym, refl, ap, ◌∙◌, subst, ⊎_elim, pow-suc, add-one, arith, Bor, lt-ltb, ne_eqb, le-leb, leb-true}
use borrow.Author.Tests.{lt-leb}
use Rattle.std.proofs.lemmas.List.{drop_more, length-take-le, length-drop, take_all}
use Rattle.std.proofs.lemmas.Bool.{cond-true, cond-false, and_parts, and_from, or_left, or_right, not_from_false}
use Rattle.grammar.specs.Text.{most_digits, begins, run, is_digit, value, well_formed, number, begins_zero, Read, got, none, passes, Cut, ahead, behind, is_letter, taken, Reads, Left, rest}
use Rattle.grammar.specs.declared.tokens.Part.{Part}
use Rattle.grammar.specs.declared.tokens.Part.TheVariants.{Word, Number, Sign, End}

module _ (p : ℕ → Bool) where
  -- the run at the front, by the bytes before its end and the one there
  pub run_is : (s : List ℕ) (n : ℕ) → n ≤ length s → ((k : ℕ) → k < n → true ≡ p (get_or s k 0)) → (n < length s → false ≡ p (get_or s n 0)) → run p s ≡ n
  run_is [] n le each stops = omega arith
  run_is (b ∷ bs) zero le each stops = cond-false _ _ _ (sym (stops (omega arith)))
  run_is (b ∷ bs) (suc n) le each stops = cond-true _ _ _ (sym (each 0 (omega arith))) ∙ ap suc (run_is bs n (omega arith) (λ k l. each (suc k) (omega arith)) (λ l. stops (omega arith)))

  run_cases : (b : ℕ) (x : ℕ) (m : ℕ) → x ≤ m → cond (p b) (suc x) 0 ≤ suc m
  run_cases b x m h = grind arith

  pub run_le : (s : List ℕ) → run p s ≤ length s
  run_le [] = omega arith
  run_le (b ∷ bs) = run_cases b (run p bs) (length bs) (run_le bs)

  -- each byte of the run passes
  pub run_all : (s : List ℕ) (i : ℕ) → i < run p s → p (get_or s i 0) ≡ true
  run_all [] i h = absurd (omega arith)
  run_all (b ∷ bs) zero h = here (p b) refl h
    where
      here : (v : Bool) → p b ≡ v → 0 < cond v (suc (run p bs)) 0 → p b ≡ true
      here true e k = e
      here false e k = absurd (omega arith)
  run_all (b ∷ bs) (suc i) h = run_all bs i (there (p b) h)
    where
      there : (v : Bool) → suc i < cond v (suc (run p bs)) 0 → i < run p bs
      there true k = omega arith
      there false k = absurd (omega arith)

pub digit_low : (b : ℕ) → is_digit b ≡ true → 48 ≤ b
digit_low b e = leb-true 48 b (and_parts (leb 48 b) (leb b 57) e).0

pub digit_high : (b : ℕ) → is_digit b ≡ true → b ≤ 57
digit_high b e = leb-true b 57 (and_parts (leb 48 b) (leb b 57) e).1

pub value_more : (n : ℕ) (s : List ℕ) (i : ℕ) → i < length s → value n (drop i s) ≡ value (n * 10 + (get_or s i 0 - 48)) (drop (i + 1) s)
value_more n s i l = ap (value n) (drop_more s i 0 l)

pub ten_more : (n b i : ℕ) → n < 10 ^ i → b ≤ 57 → n * 10 + (b - 48) < 10 ^ (i + 1)
ten_more n b i h d = let e : 10 ^ (i + 1) ≡ 10 ^ i * 10 = pow_more i in omega arith
  where
    pow_more : (i : ℕ) → 10 ^ (i + 1) ≡ 10 ^ i * 10
    pow_more i = rw add-one (pow-suc 10 i)

pub number_is : (s : List ℕ) (k : ℕ) → k ≡ run is_digit s → well_formed k s ≡ true → number s ≡ got (value 0 (take k s)) (drop k s)
unfolding number
number_is s k e w =
    let P : ℕ → Type 0 = λ j. cond (well_formed j s) (got (value 0 (take j s)) (drop j s)) none ≡ got (value 0 (take k s)) (drop k s) in
    subst P e (cond-true _ _ _ w)

pub number_good : (s : List ℕ) (k : ℕ) → 0 < k → k ≤ most_digits → (k ≤ 1) ⊎ (begins_zero s ≡ false) → well_formed k s ≡ true
number_good s k a b w =
    and_from _ _ (lt-ltb 0 k a) (and_from _ _ (le-leb k most_digits b)
    (⊎_elim (λ h. or_left (leb k 1) (not (begins_zero s)) (le-leb k 1 h)) (λ h. or_right (leb k 1) (not (begins_zero s)) (not_from_false _ h)) w))

pub no_zero : (s : List ℕ) (b : ℕ) → slice_get s 0 ≡ Some b → eqb b 48 ≡ false → begins_zero s ≡ false
no_zero [] b h n = cc h
no_zero (c ∷ cs) b h n = ap (λ d. eqb d 48) (cc h) ∙ n

-- the sign that stands first
pub ahead_is : (s : List ℕ) (c : ℕ) → ahead s ≡ Some c → s ≡ c ∷ behind s
ahead_is [] c h = cc
ahead_is (b ∷ bs) c h = ap (λ x. x ∷ bs) (cc h)

pub ahead_not : (s : List ℕ) (c : ℕ) → (ahead s ≡ Some c → ⊥) → begins c s ≡ false
ahead_not [] c h = refl
ahead_not (b ∷ bs) c h = ne_eqb b c (λ e. h (ap Some e))

-- ---- a number is read from its digits alone

module _ (p : ℕ → Bool) where
  pub run_front : (s : List ℕ) → run p (take (run p s) s) ≡ run p s
  run_front [] = refl
  run_front (b ∷ bs) = split (p b) refl (run_front bs)
    where
      split : (v : Bool) → p b ≡ v → run p (take (run p bs) bs) ≡ run p bs → run p (take (cond v (suc (run p bs)) 0) (b ∷ bs)) ≡ cond v (suc (run p bs)) 0
      split true e h = cond-true _ _ _ e ∙ ap suc h
      split false e h = refl

  pub run_none : (s : List ℕ) → passes p s ≡ false → run p s ≡ 0
  run_none [] h = refl
  run_none (b ∷ bs) h = cond-false _ _ _ h

front_zero : (k : ℕ) (s : List ℕ) → begins_zero (take (suc k) s) ≡ begins_zero s
front_zero k s = grind arith

front_good : (k : ℕ) (s : List ℕ) → well_formed k (take k s) ≡ well_formed k s
front_good zero s = refl
front_good (suc k) s = ap (λ b. ltb 0 (suc k) && (leb (suc k) most_digits && (leb (suc k) 1 || not b))) (front_zero k s)

-- what a number's digits alone give, with what follows them
abbrev pub onto : Read → List ℕ → Read
onto (got n x) y = got n y
onto none y = none

onto_cond : (b : Bool) (n : ℕ) (x y : List ℕ) → onto (cond b (got n x) none) y ≡ cond b (got n y) none
onto_cond b n x y = grind arith

pub number_front : (s : List ℕ) → number s ≡ onto (number (take (run is_digit s) s)) (drop (run is_digit s) s)
unfolding number
number_front s =
    let k = run is_digit s in
    let t = take k s in
    let e : run is_digit t ≡ k = run_front is_digit s in
    let l : length t ≡ k = length-take-le k s (run_le is_digit s) in
    let w : cond (well_formed (run is_digit t) t) (got (value 0 (take (run is_digit t) t)) (drop (run is_digit t) t)) none ≡ cond (well_formed k s) (got (value 0 t) (drop k t)) none =
    ap (λ j. cond (well_formed j t) (got (value 0 (take j t)) (drop j t)) none) e
    ∙ ap (λ b. cond b (got (value 0 (take k t)) (drop k t)) none) (front_good k s)
    ∙ ap (λ x. cond (well_formed k s) (got (value 0 x) (drop k t)) none) (take_all k t (omega arith)) in
    sym (ap (λ r. onto r (drop k s)) w ∙ onto_cond (well_formed k s) (value 0 t) (drop k t) (drop k s))

pub number_none : (s : List ℕ) → passes is_digit s ≡ false → number s ≡ none
unfolding number
number_none s h = ap (λ k. cond (well_formed k s) (got (value 0 (take k s)) (drop k s)) none) (run_none is_digit s h)

pub letter_no_digit : (s : List ℕ) → passes is_letter s ≡ true → passes is_digit s ≡ false
letter_no_digit [] h = refl
letter_no_digit (b ∷ bs) h = let l = leb-true 97 b (and_parts (leb 97 b) (leb b 122) h).0 in ap (λ v. leb 48 b && v) (lt-leb b 57 (omega arith)) ∙ no (leb 48 b)
  where
    no : (v : Bool) → (v && false) ≡ false
    no v = grind arith

-- the digits that a token holds, read alone
pub digits_whole : (s d : List ℕ) → d ≡ take (run is_digit s) s → length d ≡ run is_digit d
digits_whole s d e = ap length e ∙ length-take-le (run is_digit s) s (run_le is_digit s) ∙ sym (run_front is_digit s) ∙ ap (run is_digit) (sym e)

onto_taken : (r : Option ℕ) (x y : List ℕ) → onto (taken r x) y ≡ taken r y
onto_taken r x y = grind arith

pub digits_number : (s d after : List ℕ) (r : Option ℕ) → Cut (run is_digit s) d s after → number d ≡ taken r [] → number s ≡ taken r after
digits_number s d after r (e, f) h =
    number_front s ∙ ap (λ x. onto (number x) (drop (run is_digit s) s)) (sym e) ∙ ap (λ x. onto x (drop (run is_digit s) s)) h
    ∙ onto_taken r [] (drop (run is_digit s) s) ∙ ap (taken r) (sym f)

pub cut_less : (n : ℕ) (p s after : List ℕ) → Cut n p s after → length after ≤ length s
cut_less n p s after (e, f) = let h : length after ≡ length s - n = ap length f ∙ length-drop n s in omega arith

-- no token is read backwards
pub reads_less : (p : Part) (s after : List ℕ) → Reads p s after → length after ≤ length s
reads_less (Word p) s after h = cut_less _ _ s after h.1
reads_less (Number p) s after h = cut_less _ _ s after h.1
reads_less (Sign p) s after h = cut_less 1 p.now s after h.2
reads_less End s after h = let e : length after ≡ 0 = ap length h.1 in omega arith

-- a token that is no number's holds none
pub word_none : (p : Part) (w : Bor (List ℕ)) (s after : List ℕ) → p ≡ Word w → Reads p s after → number s ≡ none
word_none p w s after e h = number_none s (letter_no_digit s (subst (λ q. Reads q s after) e h).0)

pub sign_none : (p : Part) (w : Bor (List ℕ)) (s after : List ℕ) → p ≡ Sign w → Reads p s after → number s ≡ none
sign_none p w s after e h = number_none s (subst (λ q. Reads q s after) e h).1

pub end_none : (p : Part) (s after : List ℕ) → p ≡ End → Reads p s after → number s ≡ none
end_none p s after e h = ap number (subst (λ q. Reads q s after) e h).0 ∙ number_none [] refl

-- and a number's token holds its digits
pub number_cut : (p : Part) (w : Bor (List ℕ)) (s after : List ℕ) → p ≡ Number w → Reads p s after → Cut (run is_digit s) w.now s after
number_cut p w s after e h = (subst (λ q. Reads q s after) e h).1

-- ---- what a token holds

first_passes : (f : ℕ → Bool) (s : List ℕ) (b : ℕ) (v : Bool) → slice_get s 0 ≡ Some b → f b ≡ v → passes f s ≡ v
first_passes f [] b v h e = cc h
first_passes f (c ∷ cs) b v h e = ap f (cc h) ∙ e

-- the parts by the byte that stands first
module _ (s : List ℕ) (b : ℕ) (h : slice_get s 0 ≡ Some b) (q : Part) (r r' : Left) (e : r ≡ r') (p : Bor (List ℕ)) (n : ℕ) (c : Cut n p.now s (rest r')) where
  pub reads_word : q ≡ Word p → is_letter b ≡ true → run is_letter s ≡ n → Reads q s (rest r)
  reads_word w l k = subst (λ t. Reads t s (rest r)) (sym w) (first_passes is_letter s b true h l, rw (k, e) c)

  pub reads_number : q ≡ Number p → is_digit b ≡ true → run is_digit s ≡ n → Reads q s (rest r)
  reads_number w d k = subst (λ t. Reads t s (rest r)) (sym w) (first_passes is_digit s b true h d, rw (k, e) c)

  pub reads_sign : q ≡ Sign p → is_letter b ≡ false → is_digit b ≡ false → 1 ≡ n → Reads q s (rest r)
  reads_sign w l d k = subst (λ t. Reads t s (rest r)) (sym w) (first_passes is_letter s b false h l, first_passes is_digit s b false h d, rw (k, e) c)

pub reads_end : (s : List ℕ) (q : Part) (r r' : Left) → r ≡ r' → q ≡ End → slice_get s 0 ≡ None → rest r' ≡ s → Reads q s (rest r)
reads_end [] q r r' e w h k = subst (λ t. Reads t [] (rest r)) (sym w) (refl, rw e k)
reads_end (b ∷ bs) q r r' e w h k = cc h
