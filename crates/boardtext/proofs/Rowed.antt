-- Lines of rows put in, one number after another.
use Rattle.std.proofs.Common.{◌≡◌, ℕ, zero, suc, ◌<◌, ◌≤◌, Bool, false, ◌&&◌, T, eqb, ltb, List, [], ◌∷◌, ◌++◌, decimal, sym, refl, ap, ◌∙◌, subst, ⊎_elim, arith, ltb-true, eqb→eq, eq-eqb}
use mathlib.Core.Path.{fun_ext, subst⁻¹}
use Rattle.std.proofs.lemmas.Bool.{lt-ltb, cases_eq}
use Rattle.meaning.specs.Measures as measures
use Rattle.meaning.specs.Lists.{listed}
use Rattle.meaning.proofs.Tests.{either, or_left, or_right, first, second, both, as_true, as_test, agree}
use Rattle.texts.specs.declared.faults.Way.TheVariants.{Add}
use Rattle.pen.specs.Ascending.{ascending}
use Rattle.book.specs.Book.{Book, Entry, put, plus}
use Rattle.book.specs.Refusals.{entered, NoneApplies}
use Rattle.book.specs.Calls.{Feeds, end}
use Rattle.boardtext.specs.Canonical.{row_line, row_lines}
use Rattle.boardtext.proofs.Listing.{passes, all_of, none_passes}
use Rattle.boardtext.proofs.Putting.{Writes, one, then}
use Rattle.lines.specs.Entries.{entry_bytes}

-- a relation of pairs of numbers, and its part below a number
abbrev pub Relation : Type 0
Relation = ℕ → ℕ → Bool

abbrev pub below : Relation → ℕ → Relation
below f n v q = ltb v n && f v q

abbrev pub nothing : Relation
nothing v q = false

module _ (f : Relation) where
  pub part : (n v q : ℕ) → T (below f n v q) → (v < n) × T (f v q)
  part n v q t = (ltb-true v n (as_true (ltb v n) (first (ltb v n) (f v q) t)), second (ltb v n) (f v q) t)

  in_part : (n v q : ℕ) → v < n → T (f v q) → T (below f n v q)
  in_part n v q l t = both (ltb v n) (f v q) (as_test (ltb v n) (lt-ltb v n l)) t

  none_yet : nothing ≡ below f 0
  none_yet = fun_ext (λ v. fun_ext (λ q. agree false (below f 0 v q) (λ h. absurd h) (λ t. let l = (part 0 v q t).0 in omega arith)))

  all_there : (limit : ℕ) → ((v q : ℕ) → T (f v q) → v < limit) → below f limit ≡ f
  all_there limit h = fun_ext (λ v. fun_ext (λ q. agree (below f limit v q) (f v q) (λ t. (part limit v q t).1) (λ t. in_part limit v q (h v q t) t)))

  module _ (n : ℕ) (inside : (q : ℕ) → T (f n q) → q < measures.roles) where
    none_more : ascending (f n) measures.roles ≡ [] → below f n ≡ below f (suc n)
    none_more e = fun_ext (λ v. fun_ext (λ q. agree (below f n v q) (below f (suc n) v q)
        (λ t. let p = part n v q t in in_part (suc n) v q (omega (arith, p.0)) p.1)
        (λ t. let p = part (suc n) v q t in ⊎_elim
        (λ (s : v ≡ n). let u : T (f n q) = subst (λ (w : ℕ). T (f w q)) s p.1 in absurd (none_passes (f n) measures.roles e q (inside q u) u))
        (λ (s : v ≡ n → ⊥). in_part n v q (omega (arith, p.0, s)) p.1)
        (cases_eq v n))))

    one_more : plus (below f n) n (ascending (f n) measures.roles) ≡ below f (suc n)
    one_more = fun_ext (λ v. fun_ext (λ q. agree (plus (below f n) n (ascending (f n) measures.roles) v q) (below f (suc n) v q) (there v q) (back v q)))
      where
        there : (v q : ℕ) → T (plus (below f n) n (ascending (f n) measures.roles) v q) → T (below f (suc n) v q)
        there v q t = ⊎_elim
            (λ (h : T (below f n v q)). let p = part n v q h in in_part (suc n) v q (omega (arith, p.0)) p.1)
            (λ (h : T (eqb v n && listed (ascending (f n) measures.roles) q)).
            let e : v ≡ n = eqb→eq v n (first (eqb v n) (listed (ascending (f n) measures.roles) q) h) in
            let u : T (f n q) = (passes (f n) measures.roles q (second (eqb v n) (listed (ascending (f n) measures.roles) q) h)).1 in
            in_part (suc n) v q (omega (arith, e)) (subst⁻¹ (λ (w : ℕ). T (f w q)) e u))
            (either (below f n v q) (eqb v n && listed (ascending (f n) measures.roles) q) t)

        back : (v q : ℕ) → T (below f (suc n) v q) → T (plus (below f n) n (ascending (f n) measures.roles) v q)
        back v q t = let p = part (suc n) v q t in ⊎_elim
            (λ (s : v ≡ n).
            or_right (below f n v q) (eqb v n && listed (ascending (f n) measures.roles) q)
            (both (eqb v n) (listed (ascending (f n) measures.roles) q) (as_test (eqb v n) (eq-eqb v n s))
            (subst⁻¹ (λ (g : ℕ → Bool). T (g q)) (all_of (f n) measures.roles inside) (subst (λ (w : ℕ). T (f w q)) s p.1))))
            (λ (s : v ≡ n → ⊥). or_left (below f n v q) (eqb v n && listed (ascending (f n) measures.roles) q) (in_part n v q (omega (arith, p.0, s)) p.1))
            (cases_eq v n)

-- what a kind of lines asks for: its word, the entry of each line, and the book that has a part of the relation
pub record Kind (word : List ℕ) (limit : ℕ) (f : Relation) (of : ℕ → List ℕ → Entry) (at : Relation → Book) : Type 0 where
  pub inside : (n q : ℕ) → T (f n q) → (n < limit) × (q < measures.roles)
  pub written : (n r : ℕ) (rs : List ℕ) → n < limit → ascending (f n) measures.roles ≡ r ∷ rs → Writes (of n (r ∷ rs)) (word ++ (decimal n ++ entry_bytes 114 (r ∷ rs)))
  pub puts : (g : Relation) (n : ℕ) (rs : List ℕ) → put (of n rs) (at g) ≡ at (plus g n rs)
  pub free : (n r : ℕ) (rs : List ℕ) → n < limit → ascending (f n) measures.roles ≡ r ∷ rs → NoneApplies (entered Add (at (below f n)) (of n (r ∷ rs)))

module _ (word : List ℕ) (limit : ℕ) (f : Relation) (of : ℕ → List ℕ → Entry) (at : Relation → Book) (k : Kind word limit f of at) where
  next : (n : ℕ) → n < limit → (ns : List ℕ) → ascending (f n) measures.roles ≡ ns → Feeds (at (below f n)) (row_line word n ns) (at (below f (suc n)))
  next n l [] e = subst (λ (g : Relation). Feeds (at (below f n)) [] (at g)) (none_more f n (λ q t. (k.inside n q t).1) e) end
  next n l (r ∷ rs) e =
      let made : put (of n (r ∷ rs)) (at (below f n)) ≡ at (below f (suc n)) =
      k.puts (below f n) n (r ∷ rs) ∙ ap (λ ns. at (plus (below f n) n ns)) (sym e) ∙ ap at (one_more f n (λ q t. (k.inside n q t).1)) in
      subst (λ (z : Book). Feeds (at (below f n)) (row_line word n (r ∷ rs)) z) made (one (at (below f n)) (of n (r ∷ rs)) _ (k.written n r rs l e) (k.free n r rs l e))

  so_far : (n : ℕ) → n ≤ limit → Feeds (at nothing) (row_lines word f n) (at (below f n))
  unfolding row_lines
  so_far zero l = subst (λ (g : Relation). Feeds (at nothing) [] (at g)) (none_yet f) end
  so_far (suc n) l = then (so_far n (omega arith)) (next n (omega arith) (ascending (f n) measures.roles) refl)

  pub all_rows : Feeds (at nothing) (row_lines word f limit) (at f)
  all_rows = subst (λ (g : Relation). Feeds (at nothing) (row_lines word f limit) (at g)) (all_there f limit (λ v q t. (k.inside v q t).0)) (so_far limit (omega arith))
