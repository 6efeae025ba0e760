-- The readers turn a phrase of the grammar into the nodes of its meaning.
use Rattle.std.proofs.Common.{◌≡◌, ℕ, ◌+◌, ◌-◌, ◌*◌, ◌<◌, ◌≤◌, true, false, ltb, List, [], ◌∷◌, ◌++◌, length, decimal, sym, refl, ap, ◌∙◌, subst, append_assoc, arith, length-append, lt-ltb}
use Rattle.std.proofs.lemmas.Bool.{cond-true, and_parts}
use Rattle.meaning.specs.Measures as measures
use Rattle.grammar.specs.Text.{number_limit, begins, begins_digit, got, none}
use Rattle.meaning.specs.Sets.{UserSet, members, holders, only, nobody, union, intersection}
use Rattle.grammar.specs.Phrase.{Kind, set, term, factor, users, Phrase, one, or, lone, and, a_role, a_permission, no_users, braces, parens, a_user, also, render, meaning, levels, operands, in_range, Short, Written, Ends}
use Rattle.grammar.proofs.Numbers.{number_written}
use Rattle.trees.specs.declared.nodes.Node.{Node}
use Rattle.trees.specs.declared.nodes.Node.TheVariants.{Role, Permission, User, Nobody, Or, And}
use Rattle.trees.specs.Reading.{most_nodes, Small, postfix, ok, bad, Reading, add, more, chain, limited, leaf_of, leaf_at, user_at, users_at, braces_at, factor_at, term_at, set_at}
use Rattle.trees.proofs.Steps as S

adds : (n : Node) (s : List ℕ) (ns : List Node) → length ns < most_nodes → add n s ns ≡ ok s (ns ++ n ∷ [])
adds n s ns h = cond-true _ _ _ (lt-ltb (length ns) most_nodes h)

-- a sign, an item and the operator
module _ (c : ℕ) (op : Node) (item : Reading) where
  abbrev To : List ℕ → List Node → List ℕ → List Node → Type 0
  To s ns x out = (f : ℕ) × (length x ≤ f) × (chain c op item s ns ≡ more c op item f x out)

  joined : (s mid x : List ℕ) (ns pa pb : List Node) → To s ns (c ∷ (mid ++ x)) (ns ++ pa) → item (mid ++ x) (ns ++ pa) ≡ ok x ((ns ++ pa) ++ pb) → length ns + (length pa + (length pb + 1)) ≤ most_nodes → To s ns x (ns ++ (pa ++ (pb ++ op ∷ [])))
  joined s mid x ns pa pb g i r =
      let l : length (ns ++ pa) ≡ length ns + length pa = length-append ns pa in
      let m : length ((ns ++ pa) ++ pb) ≡ length (ns ++ pa) + length pb = length-append (ns ++ pa) pb in
      let n : length (mid ++ x) ≡ length mid + length x = length-append mid x in
      let t = S.turn c op item g.0 (c ∷ (mid ++ x)) (mid ++ x) x (ns ++ pa) ((ns ++ pa) ++ pb) (((ns ++ pa) ++ pb) ++ op ∷ []) refl g.1 (omega arith) i (adds op x ((ns ++ pa) ++ pb) (omega arith)) in
      (t.0, t.1, g.2 ∙ t.2 ∙ ap (more c op item t.0 x) (group ns pa pb (op ∷ [])))
    where
      group : (a b d e : List Node) → ((a ++ b) ++ d) ++ e ≡ a ++ (b ++ (d ++ e))
      group a b d e = simp append_assoc

  start : (s x : List ℕ) (ns out : List Node) → item s ns ≡ ok x out → To s ns x out
  start s x ns out e = (length x, omega arith, S.first c op item s x ns out e)

  finish : (s x : List ℕ) (ns out : List Node) → To s ns x out → begins c x ≡ false → chain c op item s ns ≡ ok x out
  finish s x ns out g e = g.2 ∙ S.stop c op item g.0 x out e

-- what may follow a phrase
abbrev Follows : Kind → List ℕ → Type 0
Follows set x = (begins 38 x ≡ false) × (begins_digit x ≡ false)
Follows term x = begins_digit x ≡ false
Follows factor x = begins_digit x ≡ false
Follows users x = begins_digit x ≡ false

-- how far the reader of that kind comes
abbrev Goes : Kind → ℕ → List ℕ → List Node → List ℕ → List Node → Type 0
Goes set k s ns x out = To 124 Or (term_at k) s ns x out
Goes term k s ns x out = To 38 And (factor_at k) s ns x out
Goes factor k s ns x out = factor_at k s ns ≡ ok x out
Goes users k s ns x out = To 44 Or user_at s ns x out

leaf_goes : (mk : ℕ → Node) (limit n : ℕ) (x : List ℕ) (ns : List Node) → n < number_limit → ltb n limit ≡ true → begins_digit x ≡ false → length ns + 1 ≤ most_nodes → leaf_at mk limit (decimal n ++ x) ns ≡ ok x (ns ++ mk n ∷ [])
unfolding leaf_at
leaf_goes mk limit n x ns h r f l =
    ap (λ y. leaf_of mk (limited limit y) ns) (number_written n x h f) ∙ ap (λ y. leaf_of mk y ns) (cond-true _ (got n x) none r) ∙ adds (mk n) x ns (omega arith)

user_goes : (n : ℕ) (x : List ℕ) (ns : List Node) → n < number_limit → ltb n measures.users ≡ true → begins_digit x ≡ false → length ns + 1 ≤ most_nodes → user_at (117 ∷ (decimal n ++ x)) ns ≡ ok x (ns ++ User n ∷ [])
unfolding user_at
user_goes n x ns h r f l = leaf_goes User measures.users n x ns h r f l

users_first : (us : Phrase users) (y : List ℕ) → begins 125 (render us ++ y) ≡ false
users_first (a_user i) y = refl
users_first (also us i) y = ap (begins 125) (append_assoc (render us) (44 ∷ 117 ∷ decimal i) y) ∙ users_first us (44 ∷ 117 ∷ (decimal i ++ y))

two : (a b : UserSet) (op : Node) → length (postfix a ++ (postfix b ++ op ∷ [])) ≡ length (postfix a) + (length (postfix b) + 1)
two a b op = length-append (postfix a) (postfix b ++ op ∷ []) ∙ ap (λ n. length (postfix a) + n) (length-append (postfix b) (op ∷ []))

term_ok : (n : ℕ) (s x : List ℕ) (ns out : List Node) → To 38 And (factor_at n) s ns x out → begins 38 x ≡ false → term_at n s ns ≡ ok x out
unfolding term_at
term_ok n s x ns out g e = finish 38 And (factor_at n) s x ns out g e

set_ok : (n : ℕ) (s x : List ℕ) (ns out : List Node) → To 124 Or (term_at n) s ns x out → begins 124 x ≡ false → set_at n s ns ≡ ok x out
unfolding set_at
set_ok n s x ns out g e = finish 124 Or (term_at n) s x ns out g e

empty_braces : (x : List ℕ) (ns : List Node) → length ns + 1 ≤ most_nodes → braces_at (125 ∷ x) ns ≡ ok x (ns ++ Nobody ∷ [])
unfolding braces_at
empty_braces x ns m = adds Nobody x ns (omega arith)

users_levels : (us : Phrase users) → levels us ≤ 1
users_levels (a_user n) = omega arith
users_levels (also us n) = omega arith

users_ok : (s x : List ℕ) (ns out : List Node) → To 44 Or user_at s ns x out → begins 44 x ≡ false → users_at s ns ≡ ok x out
unfolding users_at
users_ok s x ns out g e = finish 44 Or user_at s x ns out g e

pub goes : {k : Kind} (p : Phrase k) (n : ℕ) (x : List ℕ) (ns : List Node) → Short (meaning p) → in_range (meaning p) ≡ true → levels p ≤ n → Follows k x → length ns + length (postfix (meaning p)) ≤ most_nodes → Goes k n (render p ++ x) ns x (ns ++ postfix (meaning p))
goes (one t) n x ns h r l f m = start 124 Or (term_at n) (render t ++ x) x ns _ (term_ok n (render t ++ x) x ns _ (goes t n x ns h r l f.1 m) f.0)
goes (or s t) n x ns h r l f m =
    let q = and_parts (in_range (meaning s)) (in_range (meaning t)) r in
    let w = two (meaning s) (meaning t) Or in
    let e = length-append ns (postfix (meaning s)) in
    let a = goes s n (124 ∷ (render t ++ x)) ns h.0 q.0 (omega arith) (refl, refl) (omega arith) in
    let b = term_ok n (render t ++ x) x (ns ++ postfix (meaning s)) _ (goes t n x (ns ++ postfix (meaning s)) h.1 q.1 (omega arith) f.1 (omega arith)) f.0 in
    subst (λ y. To 124 Or (term_at n) y ns x (ns ++ postfix (meaning (or s t)))) (sym (append_assoc (render s) (124 ∷ render t) x))
    (joined 124 Or (term_at n) (render s ++ 124 ∷ (render t ++ x)) (render t) x ns (postfix (meaning s)) (postfix (meaning t)) a b (omega arith))
goes (lone f) n x ns h r l w m = start 38 And (factor_at n) (render f ++ x) x ns _ (goes f n x ns h r l w m)
goes (and t g) n x ns h r l f m =
    let q = and_parts (in_range (meaning t)) (in_range (meaning g)) r in
    let w = two (meaning t) (meaning g) And in
    let e = length-append ns (postfix (meaning t)) in
    let a = goes t n (38 ∷ (render g ++ x)) ns h.0 q.0 (omega arith) refl (omega arith) in
    let b = goes g n x (ns ++ postfix (meaning t)) h.1 q.1 (omega arith) f (omega arith) in
    subst (λ y. To 38 And (factor_at n) y ns x (ns ++ postfix (meaning (and t g)))) (sym (append_assoc (render t) (38 ∷ render g) x))
    (joined 38 And (factor_at n) (render t ++ 38 ∷ (render g ++ x)) (render g) x ns (postfix (meaning t)) (postfix (meaning g)) a b (omega arith))
goes (a_role i) n x ns h r l f m = S.is_role n (114 ∷ (decimal i ++ x)) ns (decimal i ++ x) refl refl ∙ leaf_goes Role measures.roles i x ns h r f m
goes (a_permission i) n x ns h r l f m = S.is_permission n (112 ∷ (decimal i ++ x)) ns (decimal i ++ x) refl refl refl ∙ leaf_goes Permission measures.permissions i x ns h r f m
goes no_users n x ns h r l f m = S.is_braces n (123 ∷ 125 ∷ x) ns (125 ∷ x) refl refl refl refl ∙ empty_braces x ns m
goes (braces us) n x ns h r l f m =
    let a = goes us n (125 ∷ x) ns h r l refl m in
    ap (λ y. factor_at n (123 ∷ y) ns) (append_assoc (render us) (125 ∷ []) x)
    ∙ S.is_braces n (123 ∷ (render us ++ 125 ∷ x)) ns (render us ++ 125 ∷ x) refl refl refl refl
    ∙ S.brace_users (render us ++ 125 ∷ x) (render us ++ 125 ∷ x) ns _ (users_first us (125 ∷ x)) refl (users_ok (render us ++ 125 ∷ x) (125 ∷ x) ns _ a refl)
goes (parens s) n x ns h r l f m =
    let a = goes s (n - 1) (41 ∷ x) ns h r (omega arith) (refl, refl) m in
    ap (λ y. factor_at n (40 ∷ y) ns) (append_assoc (render s) (41 ∷ []) x)
    ∙ S.opens n (40 ∷ (render s ++ 41 ∷ x)) ns (render s ++ 41 ∷ x) _ refl (S.inside_some n (render s ++ 41 ∷ x) ns (λ z. omega arith) ∙ set_ok (n - 1) (render s ++ 41 ∷ x) (41 ∷ x) ns _ a refl)
goes (a_user i) n x ns h r l f m = start 44 Or user_at (117 ∷ (decimal i ++ x)) x ns _ (user_goes i x ns h r f m)
goes (also us i) n x ns h r l f m =
    let q = and_parts (in_range (meaning us)) (ltb i measures.users) r in
    let w = two (meaning us) (only i) Or in
    let e = length-append ns (postfix (meaning us)) in
    let v = users_levels us in
    let a = goes us n (44 ∷ 117 ∷ (decimal i ++ x)) ns h.0 q.0 (omega arith) refl (omega arith) in
    let b = user_goes i x (ns ++ postfix (meaning us)) h.1 q.1 f (omega arith) in
    subst (λ y. To 44 Or user_at y ns x (ns ++ postfix (meaning (also us i)))) (sym (append_assoc (render us) (44 ∷ 117 ∷ decimal i) x))
    (joined 44 Or user_at (render us ++ 44 ∷ 117 ∷ (decimal i ++ x)) (117 ∷ decimal i) x ns (postfix (meaning us)) (User i ∷ []) a b (omega arith))

-- the whole set, and how many nodes it has
pub nodes_two : (t : UserSet) → length (postfix t) + 1 ≡ 2 * operands t
nodes_two (members n) = refl
nodes_two (holders n) = refl
nodes_two (only n) = refl
nodes_two nobody = refl
nodes_two (union a b) = let l = two a b Or in let i = nodes_two a in let j = nodes_two b in omega arith
nodes_two (intersection a b) = let l = two a b And in let i = nodes_two a in let j = nodes_two b in omega arith

pub set_read : (p : Phrase set) (n : ℕ) (x : List ℕ) → Short (meaning p) → in_range (meaning p) ≡ true → levels p ≤ n → operands (meaning p) ≤ measures.question_operands → begins 38 x ≡ false → begins 124 x ≡ false → begins_digit x ≡ false → set_at n (render p ++ x) [] ≡ ok x (postfix (meaning p))
set_read p n x h r l o a b d = let z = nodes_two (meaning p) in set_ok n (render p ++ x) x [] _ (goes p n x [] h r l (a, d) (omega arith)) b

pub whole : (p : Phrase set) (n : ℕ) (s x : List ℕ) → Written s p x → Ends x → Small n p → set_at n s [] ≡ ok x (postfix (meaning p))
whole p n s x w e g = ap (λ l. set_at n l []) w.bytes ∙ set_read p n x w.short g.range g.deep g.many e.no_and e.no_or e.no_digit

pub read_ok : (p : Phrase set) (n : ℕ) (s x y : List ℕ) (ns : List Node) → Written s p y → Ends y → Small n p → set_at n s [] ≡ ok x ns → (ns ≡ postfix (meaning p)) × (x ≡ y)
read_ok p n s x y ns w e g h = let k : ok x ns ≡ ok y (postfix (meaning p)) = sym h ∙ whole p n s y w e g in (cc, cc)

pub read_bad : (p : Phrase set) (n : ℕ) (s y : List ℕ) → Written s p y → Ends y → Small n p → set_at n s [] ≡ bad → ⊥
read_bad p n s y w e g h = let k : bad ≡ ok y (postfix (meaning p)) = sym h ∙ whole p n s y w e g in cc
