-- Lines of rows, written number by number.
use Rattle.std.proofs.Common.{◌≡◌, ℕ, zero, suc, ◌<◌, ◌≤◌, Bool, true, false, T, List, [], ◌∷◌, ◌++◌, decimal, Decides, sym, refl, ap, ◌∙◌, subst, ⊎_elim, arith}
use mathlib.Core.Path.{subst⁻¹}
use borrow.Author.Tests.{clash}
use Rattle.std.proofs.lemmas.Bool.{cases_lt, cases_eq}
use Rattle.std.proofs.lemmas.List.{append-nil}
use Rattle.meaning.specs.Measures.{roles as all_roles}
use Rattle.meaning.specs.Lists.{listed}
use Rattle.meaning.proofs.Tests.{as_false, deny}
use Rattle.rbac.specs.declared.sets.RoleSet.{RoleSet}
use Rattle.rbac.specs.Roles.{roles_of}
use Rattle.rbac.proofs.Masks.{roles_past}
use Rattle.pen.specs.Ascending.{ascending}
use Rattle.pen.specs.declared.writer.Writer.{Writer}
use Rattle.pen.specs.Puts.{Wrote}
use Rattle.pen.proofs.Join.{join}
use Rattle.boardtext.specs.Canonical.{ended, row_line, row_lines}
use Rattle.boardtext.proofs.Listing.{passes, none_passes, head}
use Rattle.lines.specs.Entries.{entry_bytes}

-- ---- a row that holds roles, and one that holds none

no_numbers : (f : ℕ → Bool) (n : ℕ) (ns : List ℕ) → ascending f n ≡ ns → ((k : ℕ) → T (f k) → ⊥) → ns ≡ []
no_numbers f n [] e h = refl
no_numbers f n (r ∷ rs) e h = absurd (h r (passes f n r (subst⁻¹ (λ (ns : List ℕ). T (listed ns r)) e (head r rs))).1)

pub none_ascend : (f : ℕ → Bool) (n : ℕ) → ((k : ℕ) → T (f k) → ⊥) → ascending f n ≡ []
none_ascend f n h = no_numbers f n (ascending f n) refl h

pub empty_row : (s : RoleSet) (empty : Bool) → Decides empty ((k : ℕ) → roles_of s k ≡ false) → empty ≡ true → ascending (roles_of s) all_roles ≡ []
empty_row s empty d e = none_ascend (roles_of s) all_roles (λ k t. subst (λ (b : Bool). T b) (d.0 e k) t)

pub full_row : (s : RoleSet) (empty : Bool) → Decides empty ((k : ℕ) → roles_of s k ≡ false) → empty ≡ false → ascending (roles_of s) all_roles ≡ [] → ⊥
full_row s empty d e none-there = clash (sym e ∙ d.1 (λ k. ⊎_elim
    (λ (l : k < all_roles). as_false (roles_of s k) (deny (roles_of s k) (λ t. none_passes (roles_of s) all_roles none-there k l t)))
    (λ (l : all_roles ≤ k). roles_past s k l)
    (cases_lt k all_roles)))

pub line_of : (word : List ℕ) (n : ℕ) (ns : List ℕ) → (ns ≡ [] → ⊥) → ended (word ++ (decimal n ++ entry_bytes 114 ns)) ≡ row_line word n ns
line_of word n [] h = absurd (h refl)
line_of word n (r ∷ rs) h = refl

-- ---- number by number

module _ (word : List ℕ) (f : ℕ → ℕ → Bool) where
  pub none_before : row_lines word f 0 ≡ []
  unfolding row_lines
  none_before = refl

  pub one_more : (u v w : Writer) (n : ℕ) → Wrote u (row_lines word f n) v → Wrote v (row_line word n (ascending (f n) all_roles)) w → Wrote u (row_lines word f (suc n)) w
  unfolding row_lines
  one_more u v w n p q = join _ _ _ _ _ p q

  empty_line : (n : ℕ) → ascending (f n) all_roles ≡ [] → row_lines word f (suc n) ≡ row_lines word f n
  unfolding row_lines
  empty_line n e = ap (λ ns. row_lines word f n ++ row_line word n ns) e ∙ append-nil (row_lines word f n)

  -- numbers without a role are passed over
  pub passed : (m n : ℕ) → n ≤ m → ((v : ℕ) → n ≤ v → v < m → (q : ℕ) → T (f v q) → ⊥) → row_lines word f n ≡ row_lines word f m
  passed zero n l h = let e : n ≡ 0 = omega arith in ap (row_lines word f) e
  passed (suc m) n l h = ⊎_elim
      (λ (e : n ≡ suc m). ap (row_lines word f) e)
      (λ (e : n ≡ suc m → ⊥). let k : n ≤ m = omega (arith, e) in passed m n k (λ v a b. h v a (omega arith)) ∙ sym (empty_line m (none_ascend (f m) all_roles (h m k (omega arith)))))
      (cases_eq n (suc m))
