-- A number is read exactly where it is written.
use Rattle.std.proofs.Common.{◌≡◌, ℕ, zero, suc, ◌^◌, ◌<◌, ◌≤◌, Bool, true, false, cond, not, ◌&&◌, ◌||◌, ltb, leb, ◌⊎◌, List, [], ◌∷◌, ◌++◌, length, get_or, take, drop, decimal, sym, refl, ap, ◌∙◌, inl, inr, arith, rules, ltb-true, eq-eqb, ne_eqb, leb-true}
use Rattle.std.specs.Str.{all_ascii_digits}
use Rattle.std.proofs.Math.Seq.{take-append_seam, drop-append_seam}
use Rattle.std.proofs.lemmas.List.{take-append-drop, length-take-le}
use Rattle.std.proofs.lemmas.Bool.{cond-true, cond-false, and_parts, and_from}
use Rattle.std.proofs.lemmas.Str.Parse.{IsNumeralModel, numerals_by_fold, tells_all_ascii_digits, digits_value_short}
use Rattle.std.proofs.lemmas.Fmt.{digits_decimal, digits_value-decimal, decimal_nonempty, decimal_digit, decimal-digits_value, length-decimal-le, first_decimal}
use Rattle.grammar.specs.Text.{number_limit, most_digits, begins_digit, begins_zero, run, is_digit, value, well_formed, number, got, none}
use Rattle.grammar.proofs.Digits.{number_is, number_good, run_le}

pub own : IsNumeralModel (λ ds. all_ascii_digits ds ≡ true) (value 0)
own = numerals_by_fold _ tells_all_ascii_digits value (search rules)

run_digits : (ds x : List ℕ) → all_ascii_digits ds ≡ true → begins_digit x ≡ false → run is_digit (ds ++ x) ≡ length ds
run_digits [] [] h n = refl
run_digits [] (b ∷ bs) h n = cond-false _ _ _ n
run_digits (c ∷ cs) x h n = let p = and_parts (is_digit c) (all_ascii_digits cs) h in cond-true _ _ _ p.0 ∙ ap suc (run_digits cs x p.1 n)

no_zero : (ds x : List ℕ) → 48 < get_or ds 0 0 → begins_zero (ds ++ x) ≡ false
no_zero [] x h = absurd (omega arith)
no_zero (c ∷ cs) x h = ne_eqb c 48 (λ e. omega arith)

first_way : (n : ℕ) (x : List ℕ) → n < number_limit → (length (decimal n) ≤ 1) ⊎ (begins_zero (decimal n ++ x) ≡ false)
first_way zero x h = inl (omega (arith, ap length (decimal_digit 0 (omega arith))))
first_way (suc n) x h = inr (no_zero (decimal (suc n)) x (first_decimal (suc n) (omega arith) (omega arith)))

-- what is written is read
pub number_written : (n : ℕ) (x : List ℕ) → n < number_limit → begins_digit x ≡ false → number (decimal n ++ x) ≡ got n x
number_written n x h e =
    let ds = decimal n in
    let k : run is_digit (ds ++ x) ≡ length ds = run_digits ds x (digits_decimal own n (omega arith)) e in
    let l : length ds ≤ most_digits = length-decimal-le most_digits n (omega arith) (omega arith) (omega arith) in
    number_is (ds ++ x) (length ds) (sym k) (number_good (ds ++ x) (length ds) (decimal_nonempty n (omega arith)) l (first_way n x h))
    ∙ ap (λ l. got (value 0 l) (drop (length ds) (ds ++ x))) (take-append_seam ds x)
    ∙ ap (λ v. got v (drop (length ds) (ds ++ x))) (digits_value-decimal own n (omega arith))
    ∙ ap (got n) (drop-append_seam ds x)

run_all_digits : (s : List ℕ) → all_ascii_digits (take (run is_digit s) s) ≡ true
run_all_digits [] = refl
run_all_digits (b ∷ bs) = go (is_digit b) refl (run_all_digits bs)
  where
    go : (v : Bool) → is_digit b ≡ v → all_ascii_digits (take (run is_digit bs) bs) ≡ true → all_ascii_digits (take (cond v (suc (run is_digit bs)) 0) (b ∷ bs)) ≡ true
    go true e h = and_from _ _ e h
    go false e h = refl

first_zero : (s : List ℕ) (k : ℕ) → k ≤ length s → 0 < k → get_or (take k s) 0 0 ≡ 48 → begins_zero s ≡ true
first_zero [] k l h e = absurd (omega arith)
first_zero (b ∷ bs) zero l h e = absurd (omega arith)
first_zero (b ∷ bs) (suc k) l h e = eq-eqb b 48 e

one_only : (k : ℕ) (b : Bool) → b ≡ true → (leb k 1 || not b) ≡ true → k ≤ 1
one_only k b e h = grind arith

-- what is read is written
pub number_read : (s x : List ℕ) (n : ℕ) → number s ≡ got n x → (s ≡ decimal n ++ x) × (n < number_limit)
unfolding number
number_read s x n e = go (well_formed (run is_digit s) s) refl e
  where
    go : (b : Bool) → well_formed (run is_digit s) s ≡ b → cond b (got (value 0 (take (run is_digit s) s)) (drop (run is_digit s) s)) none ≡ got n x → (s ≡ decimal n ++ x) × (n < number_limit)
    go true w h =
        let k = run is_digit s in
        let le : k ≤ length s = run_le is_digit s in
        let v : value 0 (take k s) ≡ n = cc in
        let d : drop k s ≡ x = cc in
        let p = and_parts (ltb 0 k) (leb k most_digits && (leb k 1 || not (begins_zero s))) w in
        let q = and_parts (leb k most_digits) (leb k 1 || not (begins_zero s)) p.1 in
        let some : 0 < k = ltb-true 0 k p.0 in
        let few : k ≤ most_digits = leb-true k most_digits q.0 in
        let l : length (take k s) ≡ k = length-take-le k s le in
        let digits = run_all_digits s in
        let small : value 0 (take k s) < 10 ^ most_digits = digits_value_short own (take k s) most_digits digits (omega arith) in
        let zero-first : get_or (take k s) 0 0 ≡ 48 → length (take k s) ≡ 1 = λ z. let o : k ≤ 1 = one_only k (begins_zero s) (first_zero s k le some z) q.1 in omega arith in
        let t : decimal (value 0 (take k s)) ≡ take k s = decimal-digits_value own (take k s) digits (omega arith) zero-first (omega arith) in
        (sym (take-append-drop k s) ∙ ap (λ l. l ++ drop k s) (sym t) ∙ ap (λ m. decimal m ++ drop k s) v ∙ ap (λ l. decimal n ++ l) d, omega arith)
    go false w h = cc
