-- How long the parts of a line are.
use Rattle.std.proofs.Common.{◌≡◌, ℕ, zero, suc, ◌+◌, ◌*◌, ◌<◌, ◌≤◌, min, Bool, true, false, cond, ltb, List, [], ◌∷◌, ◌++◌, length, decimal, ap, ⊎_elim, arith, length-append, ltb-true}
use Rattle.std.proofs.Math.Nat.{mul-add}
use Rattle.std.proofs.lemmas.Bool.{and_parts, cases_lt}
use Rattle.std.proofs.lemmas.List.{append-nil}
use Rattle.std.proofs.lemmas.Fmt.{length-decimal-le}
use borrow.Author.Tests.{clash as distinct}
use Rattle.grammar.specs.Text.{number_limit, most_digits}
use Rattle.meaning.specs.Measures as measures
use Rattle.meaning.specs.Sets.{UserSet, members, holders, only, nobody, union, intersection}
use Rattle.grammar.specs.Phrase.{render, operands, in_range, roles_alone}
use Rattle.lines.specs.Entries.{all_below, entry_bytes}
use Rattle.pen.specs.Ascending.{ascending}
use Rattle.pen.specs.Canon.{as_set, as_term, as_factor}

-- ---- lists

pub entries_join : (c : ℕ) (ns : List ℕ) (n : ℕ) → length (entry_bytes c (ns ++ n ∷ [])) ≡ length (entry_bytes c ns) + (2 + length (decimal n))
entries_join c [] n = let a : length (decimal n ++ []) ≡ length (decimal n) + 0 = length-append (decimal n) [] in omega arith
entries_join c (m ∷ ns) n =
    let h = entries_join c ns n in
    let a : length (decimal m ++ entry_bytes c (ns ++ n ∷ [])) ≡ length (decimal m) + length (entry_bytes c (ns ++ n ∷ [])) = length-append (decimal m) (entry_bytes c (ns ++ n ∷ [])) in
    let b : length (decimal m ++ entry_bytes c ns) ≡ length (decimal m) + length (entry_bytes c ns) = length-append (decimal m) (entry_bytes c ns) in
    omega arith

one_digit : (n : ℕ) → n < 10 → length (decimal n) ≤ 1
one_digit n l = length-decimal-le 1 n (omega arith) (omega arith) (omega arith)

pub two_digits : (n : ℕ) → n < 100 → length (decimal n) ≤ 2
two_digits n l = length-decimal-le 2 n (omega arith) (omega arith) (omega arith)

pub five_digits : (n : ℕ) → n < number_limit → length (decimal n) ≤ most_digits
five_digits n l = length-decimal-le most_digits n (omega arith) (omega arith) (omega arith)

-- entries of two digits, and of five
pub short_entries : (c : ℕ) (ns : List ℕ) → all_below 100 ns ≡ true → length (entry_bytes c ns) ≤ 4 * length ns
short_entries c [] h = omega arith
short_entries c (n ∷ ns) h =
    let p = and_parts (ltb n 100) (all_below 100 ns) h in
    let d = two_digits n (ltb-true n 100 p.0) in
    let r = short_entries c ns p.1 in
    let a : length (decimal n ++ entry_bytes c ns) ≡ length (decimal n) + length (entry_bytes c ns) = length-append (decimal n) (entry_bytes c ns) in
    omega arith

pub long_entries : (c : ℕ) (ns : List ℕ) → all_below measures.users ns ≡ true → length (entry_bytes c ns) ≤ 7 * length ns
long_entries c [] h = omega arith
long_entries c (n ∷ ns) h =
    let p = and_parts (ltb n measures.users) (all_below measures.users ns) h in
    let l = ltb-true n measures.users p.0 in
    let d = five_digits n (omega arith) in
    let r = long_entries c ns p.1 in
    let a : length (decimal n ++ entry_bytes c ns) ≡ length (decimal n) + length (entry_bytes c ns) = length-append (decimal n) (entry_bytes c ns) in
    omega arith

-- the numbers below ten have one digit less
tens : (n : ℕ) → n < 100 → length (decimal n) + min (suc n) 10 ≤ 2 + min n 10
tens n l = ⊎_elim
    (λ (k : n < 10). let d = one_digit n k in omega (arith, k))
    (λ (k : 10 ≤ n). let d = two_digits n l in omega (arith, k))
    (cases_lt n 10)

module _ (c : ℕ) (f : ℕ → Bool) where
  one_more : (n : ℕ) (b : Bool) → n < 100 → length (entry_bytes c (ascending f n)) + min n 10 ≤ 4 * n → length (entry_bytes c (ascending f n ++ cond b (n ∷ []) [])) + min (suc n) 10 ≤ 4 * suc n
  one_more n true l h = let d = tens n l in let e = entries_join c (ascending f n) n in omega arith
  one_more n false l h = let e : length (entry_bytes c (ascending f n ++ [])) ≡ length (entry_bytes c (ascending f n)) = ap (λ ns. length (entry_bytes c ns)) (append-nil (ascending f n)) in omega arith

  up_to : (n : ℕ) → n ≤ 100 → length (entry_bytes c (ascending f n)) + min n 10 ≤ 4 * n
  unfolding ascending
  up_to zero l = omega arith
  up_to (suc n) l = one_more n (f n) (omega arith) (up_to n (omega arith))

  -- all roles there are: ten of one digit, the others of two
  pub full_row : length (entry_bytes c (ascending f measures.roles)) ≤ 246
  full_row = let h = up_to measures.roles (omega arith) in omega arith

-- ---- sets

module _ (k : ℕ) where
  -- each operand is so short
  abbrev Slim : UserSet → Type 0
  Slim (members n) = length (decimal n) + 4 ≤ k
  Slim (holders n) = length (decimal n) + 4 ≤ k
  Slim (only n) = length (decimal n) + 6 ≤ k
  Slim nobody = 5 ≤ k
  Slim (union a b) = Slim a × Slim b
  Slim (intersection a b) = Slim a × Slim b

  set_least : (t : UserSet) → length (render (as_set t)) ≤ length (render (as_factor t))
  set_least (members n) = omega arith
  set_least (holders n) = omega arith
  set_least (only n) = omega arith
  set_least nobody = omega arith
  set_least (union a b) = let l : length (render (as_set (union a b)) ++ 41 ∷ []) ≡ length (render (as_set (union a b))) + 1 = length-append (render (as_set (union a b))) (41 ∷ []) in omega arith
  set_least (intersection a b) = let l : length (render (as_set (intersection a b)) ++ 41 ∷ []) ≡ length (render (as_set (intersection a b))) + 1 = length-append (render (as_set (intersection a b))) (41 ∷ []) in omega arith

  term_least : (t : UserSet) → length (render (as_term t)) ≤ length (render (as_factor t))
  term_least (members n) = omega arith
  term_least (holders n) = omega arith
  term_least (only n) = omega arith
  term_least nobody = omega arith
  term_least (union a b) = omega arith
  term_least (intersection a b) = let l : length (render (as_set (intersection a b)) ++ 41 ∷ []) ≡ length (render (as_set (intersection a b))) + 1 = length-append (render (as_set (intersection a b))) (41 ∷ []) in omega arith

  joined : (l r : List ℕ) (sign : ℕ) → length (40 ∷ ((l ++ sign ∷ r) ++ 41 ∷ [])) ≡ length l + (length r + 3)
  joined l r sign =
      let a : length ((l ++ sign ∷ r) ++ 41 ∷ []) ≡ length (l ++ sign ∷ r) + 1 = length-append (l ++ sign ∷ r) (41 ∷ []) in
      let b : length (l ++ sign ∷ r) ≡ length l + suc (length r) = length-append l (sign ∷ r) in
      omega arith

  two : (a b la lb oa ob : ℕ) → la + 3 ≤ k * oa → lb + 3 ≤ k * ob → a ≤ la → b ≤ lb → (a + (b + 3)) + 3 ≤ k * (oa + ob)
  two a b la lb oa ob h i l m = let d = mul-add k oa ob in omega (arith, d)

  factor_size : (t : UserSet) → Slim t → length (render (as_factor t)) + 3 ≤ k * operands t
  factor_size (members n) h = omega arith
  factor_size (holders n) h = omega arith
  factor_size (only n) h = let l : length (decimal n ++ 125 ∷ []) ≡ length (decimal n) + 1 = length-append (decimal n) (125 ∷ []) in omega arith
  factor_size nobody h = omega arith
  factor_size (union a b) h =
      let e = joined (render (as_set a)) (render (as_term b)) 124 in
      let t = two (length (render (as_set a))) (length (render (as_term b))) _ _ (operands a) (operands b) (factor_size a h.0) (factor_size b h.1) (set_least a) (term_least b) in
      omega arith
  factor_size (intersection a b) h =
      let e = joined (render (as_term a)) (render (as_factor b)) 38 in
      let t = two (length (render (as_term a))) (length (render (as_factor b))) _ _ (operands a) (operands b) (factor_size a h.0) (factor_size b h.1) (term_least a) (omega arith) in
      omega arith

  pub set_size : (t : UserSet) → Slim t → length (render (as_set t)) ≤ k * operands t
  set_size t h = let a = factor_size t h in let b = set_least t in omega arith

slim_roles : (t : UserSet) → in_range t ≡ true → roles_alone t ≡ true → Slim 6 t
slim_roles (members n) h r = let l = ltb-true n measures.roles h in let d = two_digits n (omega arith) in omega arith
slim_roles (holders n) h r = absurd (distinct r)
slim_roles (only n) h r = absurd (distinct r)
slim_roles nobody h r = absurd (distinct r)
slim_roles (union a b) h r =
    let p = and_parts (in_range a) (in_range b) h in
    let q = and_parts (roles_alone a) (roles_alone b) r in
    (slim_roles a p.0 q.0, slim_roles b p.1 q.1)
slim_roles (intersection a b) h r =
    let p = and_parts (in_range a) (in_range b) h in
    let q = and_parts (roles_alone a) (roles_alone b) r in
    (slim_roles a p.0 q.0, slim_roles b p.1 q.1)

slim : (t : UserSet) → in_range t ≡ true → Slim 11 t
slim (members n) h = let l = ltb-true n measures.roles h in let d = two_digits n (omega arith) in omega arith
slim (holders n) h = let l = ltb-true n measures.permissions h in let d = two_digits n (omega arith) in omega arith
slim (only n) h = let l = ltb-true n measures.users h in let d = five_digits n (omega arith) in omega arith
slim nobody h = omega arith
slim (union a b) h = let p = and_parts (in_range a) (in_range b) h in (slim a p.0, slim b p.1)
slim (intersection a b) h = let p = and_parts (in_range a) (in_range b) h in (slim a p.0, slim b p.1)

-- a set of roles alone, and any set
pub roles_size : (t : UserSet) → in_range t ≡ true → roles_alone t ≡ true → length (render (as_set t)) ≤ 6 * operands t
roles_size t h r = set_size 6 t (slim_roles t h r)

pub any_size : (t : UserSet) → in_range t ≡ true → length (render (as_set t)) ≤ 11 * operands t
any_size t h = set_size 11 t (slim t h)
