-- The users that a set's nodes name are those that the set names.
use Rattle.std.proofs.Common.{◌≡◌, ◌<◌, ◌≤◌, Bool, true, false, T, eqb, suc, ltb, List, [], ◌∷◌, ◌++◌, length, filter, cond, ltb-true, eqb→eq, Some, sym, refl, ap, ◌∙◌, ap₂, ⊎_elim, arith}
use mathlib.Core.Path.{subst⁻¹}
use Rattle.meaning.specs.Measures.{users}
use Rattle.meaning.specs.Lists.{listed}
use Rattle.meaning.specs.Sets.{UserSet, members, holders, only, nobody, union, intersection, named}
use Rattle.meaning.proofs.Tests.{either}
use Rattle.trees.specs.declared.nodes.Node.{Node}
use Rattle.trees.specs.declared.nodes.Node.TheVariants.{Role, Permission, User, Nobody, Or, And}
use Rattle.trees.specs.Reading.{Nodes, postfix, nodes_in as nodes_of}
use Rattle.trees.specs.Trees.{balanced, decode}
use Rattle.trees.proofs.Whole.{balanced_whole, inverse}
use Rattle.tables.specs.View.{set_of, or_nobody}
use Rattle.questions.specs.Naming.{users_in, is_named, is_inside, AllInside}

-- as many as nodes name a user
pub users_counted : (ns : List Node) → length (filter is_named ns) ≡ length (users_in ns)
users_counted [] = refl
users_counted (Role n ∷ ns) = users_counted ns
users_counted (Permission n ∷ ns) = users_counted ns
users_counted (User u ∷ ns) = ap suc (users_counted ns)
users_counted (Nobody ∷ ns) = users_counted ns
users_counted (Or ∷ ns) = users_counted ns
users_counted (And ∷ ns) = users_counted ns

-- what passes one test and maybe another
one_more : (b : Bool) (n : Node) (xs ys : List Node) → length xs ≤ length ys → length (cond b (n ∷ xs) xs) ≤ suc (length ys)
one_more true n xs ys l = omega arith
one_more false n xs ys l = omega arith

both_passed : (b : Bool) (n : Node) (xs ys : List Node) → length xs ≤ length ys → suc (length ys) ≡ length (cond b (n ∷ xs) xs) → (b ≡ true) × (length ys ≡ length xs)
both_passed true n xs ys l e = (refl, omega arith)
both_passed false n xs ys l e = absurd (omega arith)

no_more : (ns : List Node) → length (filter is_inside ns) ≤ length (filter is_named ns)
no_more [] = omega arith
no_more (Role n ∷ ns) = no_more ns
no_more (Permission n ∷ ns) = no_more ns
no_more (User u ∷ ns) = one_more (ltb u users) (User u) (filter is_inside ns) (filter is_named ns) (no_more ns)
no_more (Nobody ∷ ns) = no_more ns
no_more (Or ∷ ns) = no_more ns
no_more (And ∷ ns) = no_more ns

-- where as many nodes name a user there is as name a user, each that is named is one
pub all_inside : (ns : List Node) → length (filter is_named ns) ≡ length (filter is_inside ns) → AllInside (users_in ns)
all_inside [] same = λ u h. absurd h
all_inside (Role n ∷ ns) same = all_inside ns same
all_inside (Permission n ∷ ns) same = all_inside ns same
all_inside (User v ∷ ns) same = λ u h.
    let (small, rest) = both_passed (ltb v users) (User v) (filter is_inside ns) (filter is_named ns) (no_more ns) same in
    ⊎_elim
    (λ (t : T (eqb u v)). subst⁻¹ (λ k. k < users) (eqb→eq u v t) (ltb-true v users small))
    (λ (t : T (listed (users_in ns) u)). all_inside ns rest u t)
    (either (eqb u v) (listed (users_in ns) u) h)
all_inside (Nobody ∷ ns) same = all_inside ns same
all_inside (Or ∷ ns) same = all_inside ns same
all_inside (And ∷ ns) same = all_inside ns same

-- the users that a set's nodes name are those that the set names
users_join : (xs ys : List Node) → users_in (xs ++ ys) ≡ users_in xs ++ users_in ys
users_join [] ys = refl
users_join (Role n ∷ xs) ys = users_join xs ys
users_join (Permission n ∷ xs) ys = users_join xs ys
users_join (User n ∷ xs) ys = ap (λ l. n ∷ l) (users_join xs ys)
users_join (Nobody ∷ xs) ys = users_join xs ys
users_join (Or ∷ xs) ys = users_join xs ys
users_join (And ∷ xs) ys = users_join xs ys

pub users_named : (x : UserSet) → users_in (postfix x) ≡ named x
users_named (members r) = refl
users_named (holders n) = refl
users_named (only u) = refl
users_named nobody = refl
users_named (union x y) = users_join (postfix x) (postfix y ++ Or ∷ []) ∙ ap₂ ◌++◌ (users_named x) (users_join (postfix y) (Or ∷ []) ∙ mathlib.Core.List.append-nil (users_in (postfix y)) ∙ users_named y)
users_named (intersection x y) = users_join (postfix x) (postfix y ++ And ∷ []) ∙ ap₂ ◌++◌ (users_named x) (users_join (postfix y) (And ∷ []) ∙ mathlib.Core.List.append-nil (users_in (postfix y)) ∙ users_named y)

pub nodes_name : (n : Nodes) → balanced 0 (nodes_of n) ≡ true → users_in (nodes_of n) ≡ named (set_of n)
nodes_name n b =
    let (x, is) = balanced_whole (nodes_of n) b in
    let d : decode (nodes_of n) ≡ Some x = ap decode is ∙ inverse.there x in
    ap users_in is ∙ users_named x ∙ ap (λ o. named (or_nobody o)) (sym d)
