-- How many lines and how many edges there are.
use Rattle.std.proofs.Common.{◌≡◌, ℕ, zero, suc, ◌+◌, ◌*◌, ◌<◌, ◌≤◌, Bool, true, false, cond, not, T, List, [], ◌∷◌, ◌++◌, length, decimal, refl, ap, arith, length-append}
use mathlib.Core.Path.{subst⁻¹}
use Rattle.std.proofs.Math.Nat.{mul-add}
use Rattle.meaning.specs.Measures as measures
use Rattle.meaning.specs.Membership.{State, Edges, same, above}
use Rattle.meaning.specs.Lists.{Nth, first, later, listed}
use Rattle.meaning.specs.Rows.{Holder}
use Rattle.grammar.specs.Text.{is_nil}
use Rattle.pen.specs.Ascending.{ascending}
use Rattle.saving.proofs.Ascends.{asc_below}
use Rattle.book.specs.Book.{Book}
use Rattle.book.specs.Orderly.{Orderly, NoCircle}
use Rattle.boardtext.specs.Canonical.{ended, each, row_line, row_lines}
use Rattle.boardtext.proofs.Listing.{passes, not_twice, apart, head, all_holders}
use Rattle.boardtext.proofs.Sized.{two_digits, short_entries, full_row}
use Rattle.lines.specs.Entries.{entry_bytes}

-- ---- lines

line_size : (word : List ℕ) (n : ℕ) (es : List ℕ) → length (ended (word ++ (decimal n ++ es))) ≡ length word + (length (decimal n) + (length es + 1))
line_size word n es =
    let a : length ((word ++ (decimal n ++ es)) ++ 10 ∷ []) ≡ length (word ++ (decimal n ++ es)) + 1 = length-append (word ++ (decimal n ++ es)) (10 ∷ []) in
    let b : length (word ++ (decimal n ++ es)) ≡ length word + length (decimal n ++ es) = length-append word (decimal n ++ es) in
    let c : length (decimal n ++ es) ≡ length (decimal n) + length es = length-append (decimal n) es in
    omega arith

-- some role stands beside the number
abbrev pub has : (ℕ → ℕ → Bool) → ℕ → Bool
has f n = not (is_nil (ascending (f n) measures.roles))

module _ (word : List ℕ) (f : ℕ → ℕ → Bool) where
  module _ (limit : ℕ) (digits : (n : ℕ) → n < limit → length word + length (decimal n) ≤ 9) where
    one_line : (n : ℕ) (ns : List ℕ) → n < limit → length (entry_bytes 114 ns) ≤ 246 → length (row_line word n ns) ≤ 256 * length (cond (not (is_nil ns)) (n ∷ []) [])
    one_line n [] l h = omega arith
    one_line n (r ∷ rs) l h = let a = line_size word n (entry_bytes 114 (r ∷ rs)) in let d = digits n l in omega (arith, a, d, h)

    -- each line is so long at most
    pub lines_size : (n : ℕ) → n ≤ limit → length (row_lines word f n) ≤ 256 * length (ascending (has f) n)
    unfolding row_lines ascending
    lines_size zero l = omega arith
    lines_size (suc n) l =
        let h = lines_size n (omega arith) in
        let one = one_line n (ascending (f n) measures.roles) (omega arith) (full_row 114 (f n)) in
        let a : length (row_lines word f n ++ row_line word n (ascending (f n) measures.roles)) ≡ length (row_lines word f n) + length (row_line word n (ascending (f n) measures.roles)) = length-append (row_lines word f n) (row_line word n (ascending (f n) measures.roles)) in
        let b : length (ascending (has f) n ++ cond (has f n) (n ∷ []) []) ≡ length (ascending (has f) n) + length (cond (has f n) (n ∷ []) []) = length-append (ascending (has f) n) (cond (has f n) (n ∷ []) []) in
        omega (arith, h, one, a, b)

-- no more numbers pass than there are
pub few_pass : (f : ℕ → Bool) (n : ℕ) → length (ascending f n) ≤ n
unfolding ascending
few_pass f zero = omega arith
few_pass f (suc n) = more (f n) (few_pass f n)
  where
    more : (b : Bool) → length (ascending f n) ≤ n → length (ascending f n ++ cond b (n ∷ []) []) ≤ suc n
    more true h = let a : length (ascending f n ++ n ∷ []) ≡ length (ascending f n) + 1 = length-append (ascending f n) (n ∷ []) in omega arith
    more false h = let a : length (ascending f n ++ []) ≡ length (ascending f n) + 0 = length-append (ascending f n) [] in omega arith

some_role : (s : State) (u : ℕ) (ns : List ℕ) → ascending (s u) measures.roles ≡ ns → T (not (is_nil ns)) → Holder s u
some_role s u [] e t = absurd t
some_role s u (r ∷ rs) e t = (r, (passes (s u) measures.roles r (subst⁻¹ (λ (ns : List ℕ). T (listed ns r)) e (head r rs))).1)

pub few_users : (b : Book) → Orderly b → length (ascending (has b.state) measures.users) ≤ measures.rows
few_users b o =
    o.few_rows (ascending (has b.state) measures.users) (apart (ascending (has b.state) measures.users) (not_twice (has b.state) measures.users))
    (all_holders b.state (ascending (has b.state) measures.users) (λ u t. some_role b.state u (ascending (b.state u) measures.roles) refl (passes (has b.state) measures.users u t).1))

-- ---- edges

-- the edges from roles below m to roles below n
total : Edges → ℕ → ℕ → ℕ
total edge zero n = 0
total edge (suc m) n = total edge m n + length (ascending (edge m) n)

-- so many pairs of two numbers below n there are
triangle : ℕ → ℕ
triangle zero = 0
triangle (suc n) = triangle n + n

count_more : (f : ℕ → Bool) (n : ℕ) → length (ascending f (suc n)) ≡ length (ascending f n) + length (cond (f n) (n ∷ []) [])
unfolding ascending
count_more f n = length-append (ascending f n) (cond (f n) (n ∷ []) [])

none_below : (f : ℕ → Bool) → ascending f 0 ≡ []
unfolding ascending
none_below f = refl

sixty : triangle measures.roles ≡ 2016
unfolding triangle
sixty = refl

module _ (edge : Edges) where
  column : (m n : ℕ) → total edge m (suc n) ≡ total edge m n + length (ascending (λ q. edge q n) m)
  unfolding total
  column zero n = let a : length (ascending (λ q. edge q n) 0) ≡ 0 = ap length (none_below (λ q. edge q n)) in omega (arith, a)
  column (suc m) n =
      let h = column m n in
      let a = count_more (edge m) n in
      let b = count_more (λ q. edge q n) m in
      let c : length (cond (edge m n) (n ∷ []) []) ≡ length (cond (edge m n) (m ∷ []) []) = same_length (edge m n) in
      omega (arith, h, a, b, c)
    where
      same_length : (x : Bool) → length (cond x (n ∷ []) []) ≡ length (cond x (m ∷ []) [])
      same_length true = refl
      same_length false = refl

  module _ (ring : NoCircle edge) where
    -- between two roles there is one edge at most
    one_way : (q r : ℕ) → T (edge q r) → T (edge r q) → ⊥
    one_way q r t u = ring q r t (above u same)

    pairs_of : (n k : ℕ) → length (ascending (edge n) k) + length (ascending (λ q. edge q n) k) ≤ k
    unfolding ascending
    pairs_of n zero = omega arith
    pairs_of n (suc k) = let h = pairs_of n k in let a = count_more (edge n) k in let b = count_more (λ q. edge q n) k in let c = at_most (edge n k) (edge k n) (one_way n k) in omega (arith, h, a, b, c)
      where
        at_most : (x y : Bool) → (T x → T y → ⊥) → length (cond x (k ∷ []) []) + length (cond y (k ∷ []) []) ≤ 1
        at_most true true h = absurd (h tt tt)
        at_most true false h = omega arith
        at_most false true h = omega arith
        at_most false false h = omega arith

    half : (n : ℕ) → total edge n n ≤ triangle n
    unfolding total triangle
    half zero = omega arith
    half (suc n) =
        let h = half n in
        let a = column n n in
        let b = count_more (edge n) n in
        let c = pairs_of n n in
        let d = no_loop (edge n n) (λ t. one_way n n t t) in
        omega (arith, h, a, b, c, d)
      where
        no_loop : (x : Bool) → (T x → ⊥) → length (cond x (n ∷ []) []) ≡ 0
        no_loop true h = absurd (h tt)
        no_loop false h = refl

    few_edges : total edge measures.roles measures.roles ≤ 2016
    few_edges = let h = half measures.roles in omega (arith, h, sixty)

    module _ (word : List ℕ) (short : length word ≤ 4) where
      edge_line : (n : ℕ) (ns : List ℕ) → n < measures.roles → length (entry_bytes 114 ns) ≤ 4 * length ns → length (row_line word n ns) ≤ 7 + 4 * length ns
      edge_line n [] l h = omega arith
      edge_line n (r ∷ rs) l h = let a = line_size word n (entry_bytes 114 (r ∷ rs)) in let d = two_digits n (omega arith) in omega (arith, a, d, h, short)

      edge_lines : (n : ℕ) → n ≤ measures.roles → length (row_lines word edge n) ≤ 7 * n + 4 * total edge n measures.roles
      unfolding row_lines total
      edge_lines zero l = omega arith
      edge_lines (suc n) l =
          let h = edge_lines n (omega arith) in
          let e = short_entries 114 (ascending (edge n) measures.roles) (asc_below (edge n) 100 measures.roles (omega arith)) in
          let one = edge_line n (ascending (edge n) measures.roles) (omega arith) e in
          let a : length (row_lines word edge n ++ row_line word n (ascending (edge n) measures.roles)) ≡ length (row_lines word edge n) + length (row_line word n (ascending (edge n) measures.roles)) = length-append (row_lines word edge n) (row_line word n (ascending (edge n) measures.roles)) in
          omega (arith, h, one, a)

      pub edges_size : length (row_lines word edge measures.roles) ≤ 8512
      edges_size = let h = edge_lines measures.roles (omega arith) in let f = few_edges in omega (arith, h, f)

-- ---- a line for each of a list

pub each_size : {A : Type 0} (k : ℕ) (text : A → List ℕ) (xs : List A) → ((i : ℕ) (x : A) → Nth i x xs → length (text x) + 1 ≤ k) → length (each text xs) ≤ k * length xs
each_size k text [] h = omega arith
each_size k text (x ∷ xs) h =
    let one = h 1 x first in
    let rest = each_size k text xs (λ i y n. h (suc i) y (later n)) in
    let a : length (ended (text x) ++ each text xs) ≡ length (ended (text x)) + length (each text xs) = length-append (ended (text x)) (each text xs) in
    let b : length (ended (text x)) ≡ length (text x) + 1 = length-append (text x) (10 ∷ []) in
    let c : k * (1 + length xs) ≡ k * 1 + k * length xs = mul-add k 1 (length xs) in
    omega (arith, one, rest, a, b, c)
