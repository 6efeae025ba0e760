-- What another set of roles for one permission makes of the book.
use Rattle.std.proofs.Common.{◌≡◌, ℕ, ◌<◌, Bool, ◌&&◌, ◌||◌, not, eqb, ◌≢◌, List, length, get_or, set, sym, refl, ap, ◌∙◌, subst, ⊎_elim, get_or-set_other, get_or-set_same, false, true, ap₂}
use mathlib.Core.Path.{fun_ext}
use Rattle.std.proofs.lemmas.Bool.{cases_eq, eq-eqb, ne_eqb}
use Rattle.meaning.specs.Lists.{listed}
use Rattle.rbac.specs.declared.sets.RoleSet.{RoleSet}
use Rattle.rbac.specs.Roles.{roles_of, of_either, of_first}
use Rattle.hierarchy.specs.Edges.{no_roles}
use Rattle.tables.specs.declared.tables.Tables.{Tables}
use Rattle.tables.specs.View.{policy_of, state_of, requirements_of}
use Rattle.book.specs.Book.{with_policy, plus, minus}
use Rattle.drafts.specs.View.{book_of}
use Rattle.book.proofs.Parts.{with_gives}

abbrev pub with_gifts : Tables → List RoleSet → Tables
with_gifts t xs = record {
  regime = t.regime;
  rows = t.rows;
  hierarchy = t.hierarchy;
  gives = xs;
  trusted = t.trusted;
  assigns = t.assigns;
  revokes = t.revokes;
  requirements = t.requirements;
}

pub row_given : (t : Tables) (m n : ℕ) → m ≡ n → roles_of (get_or t.gives m no_roles) ≡ (policy_of t).gives n
unfolding policy_of
row_given t m n e = ap (λ k. roles_of (get_or t.gives k no_roles)) e

given_is : (t : Tables) (n r : ℕ) → roles_of (get_or t.gives n no_roles) r ≡ (policy_of t).gives n r
unfolding policy_of
given_is t n r = refl

book_is : (t : Tables) (xs : List RoleSet) (g : ℕ → ℕ → Bool) → ((m r : ℕ) → roles_of (get_or xs m no_roles) r ≡ g m r) → book_of (with_gifts t xs) ≡ with_policy (with_gives g (policy_of t)) (book_of t)
unfolding policy_of state_of requirements_of
book_is t xs g is = ap (λ h. with_policy (with_gives h (policy_of t)) (book_of t)) (fun_ext (λ m. fun_ext (λ r. is m r)))

pub gifts_book : (t : Tables) (n : ℕ) (s : RoleSet) (g : ℕ → ℕ → Bool) → n < length t.gives → ((r : ℕ) → roles_of s r ≡ g n r) → ((m r : ℕ) → m ≢ n → g m r ≡ (policy_of t).gives m r)
    → book_of (with_gifts t (set t.gives n s)) ≡ with_policy (with_gives g (policy_of t)) (book_of t)
gifts_book t n s g inside here there = book_is t (set t.gives n s) g (λ m r. ⊎_elim
    (λ (e : m ≡ n). subst (λ k. roles_of (get_or (set t.gives n s) k no_roles) r ≡ g k r) (sym e) (ap (λ x. roles_of x r) (get_or-set_same t.gives n s no_roles inside) ∙ here r))
    (λ (e : m ≡ n → ⊥). let ne : m ≢ n = e in ap (λ x. roles_of x r) (get_or-set_other t.gives n m s no_roles ne) ∙ given_is t m r ∙ sym (there m r ne))
    (cases_eq m n))

no_more : (b : Bool) → (b || false) ≡ b
no_more true = refl
no_more false = refl

no_less : (b : Bool) → (b && not false) ≡ b
no_less true = refl
no_less false = refl

module _ (t : Tables) (m n : ℕ) (s : RoleSet) (roles : ℕ → Bool) (rs : List ℕ) (at : m ≡ n) (inside : m < length t.gives) (set_is : roles ≡ listed rs) where
  here : (r : ℕ) → roles r ≡ (eqb m n && listed rs r)
  here r = ap (λ f. f r) set_is ∙ ap (λ b. b && listed rs r) (sym (eq-eqb m n at))

  elsewhere : (x r : ℕ) → x ≢ m → (eqb x n && listed rs r) ≡ false
  elsewhere x r ne = ap (λ b. b && listed rs r) (ne_eqb x n (λ e. ne (e ∙ sym at)))

  pub gifts_added : roles_of s ≡ of_either (roles_of (get_or t.gives m no_roles)) roles
      → book_of (with_gifts t (set t.gives m s)) ≡ with_policy (with_gives (plus (policy_of t).gives n rs) (policy_of t)) (book_of t)
  gifts_added is = gifts_book t m s (plus (policy_of t).gives n rs) inside
      (λ r. ap (λ f. f r) is ∙ ap₂ ◌||◌ (given_is t m r) (here r))
      (λ x r ne. ap (λ b. (policy_of t).gives x r || b) (elsewhere x r ne) ∙ no_more ((policy_of t).gives x r))

  pub gifts_removed : roles_of s ≡ of_first (roles_of (get_or t.gives m no_roles)) roles
      → book_of (with_gifts t (set t.gives m s)) ≡ with_policy (with_gives (minus (policy_of t).gives n rs) (policy_of t)) (book_of t)
  gifts_removed is = gifts_book t m s (minus (policy_of t).gives n rs) inside
      (λ r. ap (λ f. f r) is ∙ ap₂ (λ a b. a && not b) (given_is t m r) (here r))
      (λ x r ne. ap (λ b. (policy_of t).gives x r && not b) (elsewhere x r ne) ∙ no_less ((policy_of t).gives x r))
