-- A stack of bits answers as the set that the nodes say.
use Rattle.std.proofs.Common.{◌≡◌, ℕ, zero, suc, ◌+◌, ◌*◌, ◌/◌, ◌%◌, ◌^◌, ◌<◌, ◌≤◌, min, max, Bool, true, false, cond, ◌&&◌, ◌||◌, T, eqb, List, [], ◌∷◌, length, Some, None, Decides, Option, sym, refl, ap, ◌∙◌, subst, ap₂, ⊎_elim, pow-suc, add-one, arith}
use Rattle.meaning.specs.Measures.{roles}
use Rattle.std.proofs.lemmas.List.{get_or_past}
use Rattle.std.proofs.lemmas.Bool.Decides.{nat_tests}
use Rattle.theory.specs.Tests.{some}
use Rattle.meaning.specs.Membership.{Row}
use Rattle.meaning.specs.Sets.{UserSet, members, holders, only, nobody, union, intersection, as_condition}
use Rattle.meaning.proofs.Tests.{agree, both, first, second, as_true, as_test}
use Rattle.theory.proofs.Tests.{some_at, some_gives}
use Rattle.rbac.specs.declared.sets.RoleSet.{RoleSet}
use Rattle.rbac.specs.declared.users.User.{User as AUser}
use Rattle.rbac.specs.Roles.{roles_of}
use Rattle.rbac.proofs.Masks.{roles_none, roles_past}
use Rattle.hierarchy.specs.Edges.{no_roles}
use Rattle.trees.specs.declared.nodes.Node.{Node}
use Rattle.trees.specs.declared.nodes.Node.TheVariants.{Role as RoleNode, Permission, User, Nobody, Or, And}
use Rattle.trees.specs.Trees.{balanced, decoded, decode}
use Rattle.trees.proofs.Whole.{balanced_whole, inverse}
use Rattle.tables.specs.View.{or_nobody}
use Rattle.deciding.specs.Masked.{member_test, meets_test, down_of, leaf_says, in_test, pushed}

-- what the nodes leave on a stack of bits
abbrev pub bits : (Node → Bool) → List Node → ℕ → ℕ
bits says [] s = s
bits says (n ∷ ns) s = bits says ns (pushed n (says n) s)

some_not : {A : Type 0} (t : UserSet) → None ≡ Some t → A
some_not t e = let z : ◌≡◌ {A = ℕ} 0 1 = cc in absurd (omega arith)

leaf_odd : (b : Bool) (s : ℕ) → eqb (cond b (s * 2 + 1) (s * 2) % 2) 1 ≡ b
leaf_odd true s = grind (arith, nat_tests)
leaf_odd false s = grind (arith, nat_tests)

leaf_half : (b : Bool) (s : ℕ) → cond b (s * 2 + 1) (s * 2) / 2 ≡ s
leaf_half true s = omega arith
leaf_half false s = omega arith

or_odd : (s : ℕ) → eqb ((s / 4 * 2 + max (s / 2 % 2) (s % 2)) % 2) 1 ≡ (eqb (s / 2 % 2) 1 || eqb (s % 2) 1)
or_odd s = grind (arith, nat_tests)

and_odd : (s : ℕ) → eqb ((s / 4 * 2 + min (s / 2 % 2) (s % 2)) % 2) 1 ≡ (eqb (s / 2 % 2) 1 && eqb (s % 2) 1)
and_odd s = grind (arith, nat_tests)

or_half : (s : ℕ) → (s / 4 * 2 + max (s / 2 % 2) (s % 2)) / 2 ≡ s / 2 / 2
or_half s = omega arith

and_half : (s : ℕ) → (s / 4 * 2 + min (s / 2 % 2) (s % 2)) / 2 ≡ s / 2 / 2
and_half s = omega arith

module _ (seniors givers : List RoleSet) (who : Option AUser) (row : Row) where
  abbrev says : Node → Bool
  says n = leaf_says seniors givers who row n

  abbrev test : UserSet → Bool
  test x = in_test seniors givers who row x

  -- the lowest bits of the stack are what the finished sets say
  abbrev Reads : ℕ → List UserSet → Type 0
  Reads s [] = Unit {0}
  Reads s (x ∷ st) = (eqb (s % 2) 1 ≡ test x) × Reads (s / 2) st

  leaf_reads : (b : Bool) (x : UserSet) (s : ℕ) (st : List UserSet) → b ≡ test x → Reads s st → Reads (cond b (s * 2 + 1) (s * 2)) (x ∷ st)
  leaf_reads b x s st e r = (leaf_odd b s ∙ e, subst (λ v. Reads v st) (sym (leaf_half b s)) r)

  read : (ns : List Node) (st : List UserSet) (s : ℕ) (x : UserSet) → decoded ns st ≡ Some x → Reads s st → eqb (bits says ns s % 2) 1 ≡ test x
  read [] [] s x e r = some_not x e
  read [] (t ∷ []) s x e r = let q : t ≡ x = cc in r.0 ∙ ap test q
  read [] (t ∷ u ∷ st) s x e r = some_not x e
  read (RoleNode n ∷ ns) st s x e r = read ns (members n ∷ st) (pushed (RoleNode n) (says (RoleNode n)) s) x e (leaf_reads (says (RoleNode n)) (members n) s st refl r)
  read (Permission n ∷ ns) st s x e r = read ns (holders n ∷ st) (pushed (Permission n) (says (Permission n)) s) x e (leaf_reads (says (Permission n)) (holders n) s st refl r)
  read (User n ∷ ns) st s x e r = read ns (only n ∷ st) (pushed (User n) (says (User n)) s) x e (leaf_reads (says (User n)) (only n) s st refl r)
  read (Nobody ∷ ns) st s x e r = read ns (nobody ∷ st) (pushed Nobody false s) x e (leaf_reads false nobody s st refl r)
  read (Or ∷ ns) [] s x e r = some_not x e
  read (Or ∷ ns) (b ∷ []) s x e r = some_not x e
  read (Or ∷ ns) (b ∷ a ∷ st) s x e r = read ns (union a b ∷ st) (pushed Or false s) x e (or_odd s ∙ ap₂ ◌||◌ r.1.0 r.0, subst (λ v. Reads v st) (sym (or_half s)) r.1.1)
  read (And ∷ ns) [] s x e r = some_not x e
  read (And ∷ ns) (b ∷ []) s x e r = some_not x e
  read (And ∷ ns) (b ∷ a ∷ st) s x e r = read ns (intersection a b ∷ st) (pushed And false s) x e (and_odd s ∙ ap₂ ◌&&◌ r.1.0 r.0, subst (λ v. Reads v st) (sym (and_half s)) r.1.1)

  pub answer : (ns : List Node) (s : ℕ) → s ≡ bits says ns 0 → balanced 0 ns ≡ true → eqb (s % 2) 1 ≡ test (or_nobody (decode ns))
  answer ns s e b =
      let (x, is) = balanced_whole ns b in
      let d : decode ns ≡ Some x = ap decode is ∙ inverse.there x in
      ap (λ v. eqb (v % 2) 1) e ∙ read ns [] 0 x d tt ∙ ap (λ o. test (or_nobody o)) (sym d)

pow_more : (i : ℕ) → 2 ^ (i + 1) ≡ 2 ^ i * 2
pow_more i = rw add-one (pow-suc 2 i)

leaf_below : (b : Bool) (s i : ℕ) → s < 2 ^ i → cond b (s * 2 + 1) (s * 2) < 2 ^ (i + 1)
leaf_below true s i h = let e = pow_more i in omega arith
leaf_below false s i h = let e = pow_more i in omega arith

pub pushed_below : (n : Node) (b : Bool) (s i : ℕ) → s < 2 ^ i → pushed n b s < 2 ^ (i + 1)
pushed_below (RoleNode n) b s i h = leaf_below b s i h
pushed_below (Permission n) b s i h = leaf_below b s i h
pushed_below (User n) b s i h = leaf_below b s i h
pushed_below Nobody b s i h = leaf_below b s i h
pushed_below Or b s i h = let e = pow_more i in omega arith
pushed_below And b s i h = let e = pow_more i in omega arith

-- a role in both sets, as a test
pub shared : (a b : RoleSet) (r : Bool) → Decides r ((k : ℕ) × T (roles_of a k) × T (roles_of b k)) → r ≡ some roles (λ q. roles_of a q && roles_of b q)
shared a b r d = agree r (some roles (λ q. roles_of a q && roles_of b q))
    (λ t. let (k, x, y) = d.0 (as_true r t) in some_at roles (λ q. roles_of a q && roles_of b q) k (small a k x) (both (roles_of a k) (roles_of b k) x y))
    (λ t. let (k, l, h) = some_gives roles (λ q. roles_of a q && roles_of b q) t in as_test r (d.1 (k, first (roles_of a k) (roles_of b k) h, second (roles_of a k) (roles_of b k) h)))
  where
    small : (s : RoleSet) (k : ℕ) → T (roles_of s k) → k < roles
    small s k h = ⊎_elim (λ (l : k < roles). l) (λ (l : roles ≤ k). absurd (subst T (roles_past s k l) h)) (Rattle.std.proofs.lemmas.Bool.cases_lt k roles)

and_none : (b : Bool) → (b && false) ≡ false
and_none true = refl
and_none false = refl

some_none : (n : ℕ) (f : ℕ → Bool) → ((k : ℕ) → f k ≡ false) → some n f ≡ false
some_none zero f h = refl
some_none (suc n) f h = ap₂ ◌||◌ (h n) (some_none n f h)

-- past the last mask there is no member
pub past_none : (masks : List RoleSet) (row : Row) (r : ℕ) → length masks ≤ r → member_test (down_of masks) row r ≡ false
past_none masks row r h = some_none roles (λ q. row q && down_of masks q r)
    (λ q. ap (λ m. row q && roles_of m q) (get_or_past masks r no_roles h) ∙ ap (λ b. row q && b) (ap (λ f. f q) roles_none) ∙ and_none (row q))

-- of nobody in particular, a set says what it says as a condition
pub as_condition_lem : (seniors givers : List RoleSet) (row : Row) → length seniors ≤ roles → (x : UserSet) → in_test seniors givers None row x ≡ meets_test (down_of seniors) row (as_condition x)
as_condition_lem seniors givers row l (members r) = refl
as_condition_lem seniors givers row l (holders n) = sym (past_none seniors row roles l)
as_condition_lem seniors givers row l (only u) = sym (past_none seniors row roles l)
as_condition_lem seniors givers row l nobody = sym (past_none seniors row roles l)
as_condition_lem seniors givers row l (union x y) = ap₂ ◌||◌ (as_condition_lem seniors givers row l x) (as_condition_lem seniors givers row l y)
as_condition_lem seniors givers row l (intersection x y) = ap₂ ◌&&◌ (as_condition_lem seniors givers row l x) (as_condition_lem seniors givers row l y)
