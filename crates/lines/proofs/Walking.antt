-- Reading a list entry by entry, up to the end of the text.
use Rattle.std.proofs.Common.{◌≡◌, ℕ, ◌+◌, ◌*◌, ◌<◌, ◌≤◌, ◌⊎◌, List, [], ◌∷◌, ◌++◌, length, Some, None, decimal, sym, refl, ap, ◌∙◌, subst, inl, inr, append_assoc, arith, length-append}
use Rattle.std.proofs.lemmas.List.{append-nil}
use Rattle.grammar.specs.Text.{number_limit, got, none}
use Rattle.lines.specs.Entries.{AllShort, entry_at, entry_bytes}
use Rattle.lines.specs.Lists.{Listed}
use Rattle.lines.proofs.Entering.{entry_written, entry_read, entries_first}

entries_more : (c : ℕ) (ms : List ℕ) (n : ℕ) (x : List ℕ) → entry_bytes c ms ++ (32 ∷ c ∷ (decimal n ++ x)) ≡ entry_bytes c (ms ++ n ∷ []) ++ x
entries_more c [] n x = ap (λ l. 32 ∷ c ∷ l) (ap (λ l. l ++ x) (sym (append-nil (decimal n))))
entries_more c (m ∷ ms) n x = ap (λ l. 32 ∷ c ∷ l)
    (append_assoc (decimal m) (entry_bytes c ms) (32 ∷ c ∷ (decimal n ++ x)) ∙ ap (λ l. decimal m ++ l) (entries_more c ms n x) ∙ sym (append_assoc (decimal m) (entry_bytes c (ms ++ n ∷ [])) x))

pub short_more : (ms : List ℕ) (n : ℕ) → AllShort ms → n < number_limit → AllShort (ms ++ n ∷ [])
short_more [] n h k = (k, tt)
short_more (m ∷ ms) n h k = (h.0, short_more ms n h.1 k)

short_rest : (ms ks : List ℕ) → AllShort (ms ++ ks) → AllShort ks
short_rest [] ks h = h
short_rest (m ∷ ms) ks h = short_rest ms ks h.1

-- from the text s0 the entries ms are read, and s is left
pub record Walk (c : ℕ) (s0 s : List ℕ) (ms : List ℕ) : Type 0 where
  pub text : s0 ≡ entry_bytes c ms ++ s
  pub short : AllShort ms
  pub every : (ns : List ℕ) → s0 ≡ entry_bytes c ns → AllShort ns → (ks : List ℕ) × (ns ≡ ms ++ ks) × (s ≡ entry_bytes c ks)

pub walk_start : (c : ℕ) (s : List ℕ) → Walk c s s []
walk_start c s = record { text = refl; short = tt; every = λ ns e h. (ns, refl, e) }

none_got : {A : Type 0} (n : ℕ) (x : List ℕ) → none ≡ got n x → A
none_got n x e = let z : ◌≡◌ {A = ℕ} 0 1 = cc in absurd (omega arith)

-- what an entry can be, if the rest of a list is left
next : (c : ℕ) (s : List ℕ) (ks : List ℕ) (n : ℕ) (x : List ℕ) → entry_at c s ≡ got n x → s ≡ entry_bytes c ks → AllShort ks → (js : List ℕ) × (ks ≡ n ∷ js) × (x ≡ entry_bytes c js)
unfolding entry_at
next c s [] n x e f h = none_got n x (sym (ap (entry_at c) f) ∙ e)
next c s (k ∷ ks) n x e f h =
    let g : got k (entry_bytes c ks) ≡ got n x = sym (entry_written c k (entry_bytes c ks) h.0 (entries_first c ks)) ∙ sym (ap (entry_at c) f) ∙ e in
    let a : k ≡ n = cc in
    let b : entry_bytes c ks ≡ x = cc in
    (ks, ap (λ j. j ∷ ks) a, sym b)

pub walk_more : (c : ℕ) (s0 s x ms : List ℕ) (n : ℕ) → Walk c s0 s ms → entry_at c s ≡ got n x → Walk c s0 x (ms ++ n ∷ [])
walk_more c s0 s x ms n w e =
    let r = entry_read c s x n e in
    record {
      text = w.text ∙ ap (λ l. entry_bytes c ms ++ l) r.0 ∙ entries_more c ms n x;
      short = short_more ms n w.short r.1;
      every = λ ns f h.
          let k = w.every ns f h in
          let j = next c s k.0 n x e k.2 (short_rest ms k.0 (subst AllShort k.1 h)) in
          (j.0, k.1 ∙ ap (λ l. ms ++ l) j.1 ∙ sym (append_assoc ms (n ∷ []) j.0), j.2);
    }

entries_long : (c : ℕ) (ms : List ℕ) → 2 * length ms ≤ length (entry_bytes c ms)
entries_long c [] = omega arith
entries_long c (m ∷ ms) = let h = entries_long c ms in let a : length (decimal m ++ entry_bytes c ms) ≡ length (decimal m) + length (entry_bytes c ms) = length-append (decimal m) (entry_bytes c ms) in omega arith

-- there are at least two bytes to each entry
pub walk_room : (c : ℕ) (s0 s ms : List ℕ) → Walk c s0 s ms → 2 * length ms ≤ length s0
walk_room c s0 s ms w = let h = entries_long c ms in let a : length s0 ≡ length (entry_bytes c ms) + length s = ap length w.text ∙ length-append (entry_bytes c ms) s in omega arith

-- a further entry is due, and none stands there: at the start, or where something is left
pub walk_none : (c : ℕ) (s0 s ms : List ℕ) → Walk c s0 s ms → entry_at c s ≡ none → (ms ≡ []) ⊎ (s ≡ [] → ⊥) → (n : ℕ) (ns : List ℕ) → s0 ≡ entry_bytes c (n ∷ ns) → AllShort (n ∷ ns) → ⊥
walk_none c s0 s ms w e o n ns f h = let k = w.every (n ∷ ns) f h in left k.0 k.1 k.2 o
  where
    left : (ks : List ℕ) → n ∷ ns ≡ ms ++ ks → s ≡ entry_bytes c ks → (ms ≡ []) ⊎ (s ≡ [] → ⊥) → ⊥
    left [] a b (inl q) = let z : length (n ∷ ns) ≡ 0 = ap length (a ∙ ap (λ l. l ++ []) q) in omega arith
    left [] a b (inr q) = q b
    left (k ∷ ks) a b o =
        let g : none ≡ got k (entry_bytes c ks) = sym e ∙ ap (entry_at c) b ∙ entry_written c k (entry_bytes c ks) (short_rest ms (k ∷ ks) (subst AllShort a h)).0 (entries_first c ks) in
        none_got k (entry_bytes c ks) g

no_entries : (c : ℕ) (ks : List ℕ) → [] ≡ entry_bytes c ks → ks ≡ []
no_entries c [] e = refl
no_entries c (k ∷ ks) e = let z : ◌≡◌ {A = ℕ} 0 1 = cc in absurd (omega arith)

-- a list that ends with an entry begins with one
front : (ms : List ℕ) (n : ℕ) → (m : ℕ) × (ns : List ℕ) × (ms ++ n ∷ [] ≡ m ∷ ns)
front [] n = (n, [], refl)
front (m ∷ ms) n = (m, ms ++ n ∷ [], refl)

module _ {V : Type 0} (Tells : V → List ℕ → Type 0) (c : ℕ) where
  -- all is read
  pub walk_end : (s0 s ms : List ℕ) (n : ℕ) (v : V) → Walk c s0 s (ms ++ n ∷ []) → s ≡ [] → Tells v (ms ++ n ∷ []) → Listed c Tells s0 (Some v)
  walk_end s0 s ms n v w e t = record {
    found = λ m ns f h.
        let k = w.every (m ∷ ns) f h in
        let z = no_entries c k.0 (sym e ∙ k.2) in
        let same : m ∷ ns ≡ ms ++ n ∷ [] = k.1 ∙ ap (λ l. (ms ++ n ∷ []) ++ l) z ∙ append-nil (ms ++ n ∷ []) in
        (v, refl, subst (Tells v) (sym same) t);
    real = λ u q.
        let uv : v ≡ u = cc in
        let a = front ms n in (
          a.0,
          a.1,
          w.text ∙ ap (λ l. entry_bytes c (ms ++ n ∷ []) ++ l) e ∙ append-nil (entry_bytes c (ms ++ n ∷ [])) ∙ ap (entry_bytes c) a.2,
          subst AllShort a.2 w.short,
          subst (λ x. Tells x (a.0 ∷ a.1)) uv (subst (Tells v) a.2 t),
        );
  }

  -- nothing of the kind stands there
  pub listed_none : (s0 : List ℕ) → ((n : ℕ) (ns : List ℕ) → s0 ≡ entry_bytes c (n ∷ ns) → AllShort (n ∷ ns) → ⊥) → Listed c Tells s0 None
  listed_none s0 h = record { found = λ n ns f k. absurd (h n ns f k); real = λ v e. let z : ◌≡◌ {A = ℕ} 0 1 = cc in absurd (omega arith) }
