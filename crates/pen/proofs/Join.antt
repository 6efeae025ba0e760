-- What was written, joined.
use Rattle.std.proofs.Common.{◌≡◌, ℕ, suc, ◌+◌, ◌≤◌, min, Bool, true, false, cond, List, [], ◌∷◌, ◌++◌, length, drop, set, decimal, sym, refl, ap, ◌∙◌, subst, append_assoc, zero-add, arith, length-set}
use Rattle.std.proofs.lemmas.List.Edits.{sets, sets-eq}
use Rattle.std.proofs.lemmas.List.{append-nil}
use Rattle.pen.specs.Ascending.{ascending}
use Rattle.pen.specs.declared.writer.Writer.{Writer}
use Rattle.pen.specs.Puts.{puts, count, next, Wrote, top}
use Rattle.lines.specs.Entries.{entry_bytes}

pub puts_append : (xs : List ℕ) (i : ℕ) (a b : List ℕ) → puts xs i (a ++ b) ≡ puts (puts xs i a) (count i a) b
puts_append xs i [] b = refl
puts_append xs i (x ∷ a) b = puts_append (set xs i x) (next i) a b

pub count_append : (i : ℕ) (a b : List ℕ) → count i (a ++ b) ≡ count (count i a) b
count_append i [] b = refl
count_append i (x ∷ a) b = count_append (next i) a b

pub none : (v : Writer) → Wrote v [] v
none v = record { more = refl; placed = refl; same = refl }

pub join : (u v w : Writer) (a b : List ℕ) → Wrote u a v → Wrote v b w → Wrote u (a ++ b) w
join u v w a b p q = record {
  more = q.more ∙ ap (λ k. count k b) p.more ∙ sym (count_append u.len a b);
  placed = q.placed ∙ ap (λ l. puts l v.len b) p.placed ∙ ap (λ k. puts (puts u.place.now u.len a) k b) p.more ∙ sym (puts_append u.place.now u.len a b);
  same = q.same ∙ p.same;
}

-- where the text ends before the top, the count is its length
pub count_is : (i : ℕ) (a : List ℕ) → i + length a ≤ top → count i a ≡ i + length a
count_is i [] h = omega arith
count_is i (x ∷ a) h =
    let e : next i ≡ i + 1 = omega arith in
    ap (λ k. count k a) e ∙ count_is (i + 1) a (omega arith) ∙ omega arith

-- where the text fits, it stands in the place, and all else is as it was
pub puts_is : (xs : List ℕ) (i : ℕ) (a : List ℕ) → length xs ≤ top → i + length a ≤ length xs → puts xs i a ≡ sets xs i a
puts_is xs i [] t h = refl
puts_is xs i (x ∷ a) t h =
    let e : next i ≡ suc i = omega arith in
    let n = length-set xs i x in
    ap (λ k. puts (set xs i x) k a) e ∙ puts_is (set xs i x) (suc i) a (omega arith) (omega arith)

pub to : (u v : Writer) (a b : List ℕ) → a ≡ b → Wrote u a v → Wrote u b v
to u v a b e p = subst (λ l. Wrote u l v) e p

-- a list in ascending order with one number more, or as it was
module _ (c : ℕ) (f : ℕ → Bool) where
  entries_more : (ms : List ℕ) (n : ℕ) → entry_bytes c ms ++ (32 ∷ c ∷ decimal n) ≡ entry_bytes c (ms ++ n ∷ [])
  entries_more [] n = ap (λ l. 32 ∷ c ∷ l) (sym (append-nil (decimal n)))
  entries_more (m ∷ ms) n = ap (λ l. 32 ∷ c ∷ l) (append_assoc (decimal m) (entry_bytes c ms) (32 ∷ c ∷ decimal n) ∙ ap (λ l. decimal m ++ l) (entries_more ms n))

  pub entry_first : (u : Writer) → Wrote u (entry_bytes c (ascending f 0)) u
  unfolding ascending
  entry_first u = none u

  pub entry_yes : (u v w : Writer) (k : ℕ) → f k ≡ true → Wrote u (entry_bytes c (ascending f k)) v → Wrote v (32 ∷ c ∷ decimal k) w → Wrote u (entry_bytes c (ascending f (suc k))) w
  unfolding ascending
  entry_yes u v w k h p q = to _ _ _ _ (entries_more (ascending f k) k ∙ ap (λ b. entry_bytes c (ascending f k ++ cond b (k ∷ []) [])) (sym h)) (join _ _ _ _ _ p q)

  pub entry_no : (u v : Writer) (k : ℕ) → f k ≡ false → Wrote u (entry_bytes c (ascending f k)) v → Wrote u (entry_bytes c (ascending f (suc k))) v
  unfolding ascending
  entry_no u v k h p = to _ _ _ _ (ap (entry_bytes c) (sym (append-nil (ascending f k)) ∙ ap (λ b. ascending f k ++ cond b (k ∷ []) []) (sym h))) p

pub here : (u v w : Writer) (a : List ℕ) → v ≡ w → Wrote u a w → Wrote u a v
here u v w a e p = subst (λ x. Wrote u a x) (sym e) p

pub count_min : (i : ℕ) (a : List ℕ) → i ≤ top → count i a ≡ min (i + length a) top
count_min i [] h = omega arith
count_min i (x ∷ a) h = count_min (next i) a (omega arith) ∙ omega arith

pub whole : (xs a : List ℕ) → length xs ≤ top → length a ≤ length xs → puts xs 0 a ≡ a ++ drop (length a) xs
whole xs a t h = puts_is xs 0 a t (omega arith) ∙ sets-eq a xs 0 (omega arith) ∙ ap (λ k. a ++ drop k xs) (zero-add (length a))
