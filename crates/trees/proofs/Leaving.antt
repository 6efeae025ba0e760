-- What a reading leaves is the end of what it was given.
use Rattle.std.proofs.Common.{◌≡◌, ℕ, zero, suc, Bool, true, false, cond, eqb, ltb, List, [], ◌∷◌, ◌++◌, length, decimal, sym, refl, ap, ◌∙◌, append_assoc}
use Rattle.meaning.specs.Measures as measures
use Rattle.grammar.specs.Text.{Read, number, got, none}
use Rattle.grammar.proofs.Numbers.{number_read}
use Rattle.trees.specs.declared.nodes.Node.{Node}
use Rattle.trees.specs.declared.nodes.Node.TheVariants.{Role, Permission, User, Nobody, Or, And}
use Rattle.trees.specs.Reading.{LeftOf, most_nodes, Res, ok, bad, Reading, and_then, pick, add, more, chain, limited, leaf_of, close, leaf_at, user_at, users_at, braces_at, inside, factor_with, factor_at, term_at, set_at}

abbrev Leaves : Reading → Type 0
Leaves f = (s x : List ℕ) (ns ms : List Node) → f s ns ≡ ok x ms → LeftOf s x

pub all_left : (s x : List ℕ) → x ≡ s → LeftOf s x
all_left s x e = ([], sym e)

further : (s x y : List ℕ) → LeftOf s x → LeftOf x y → LeftOf s y
further s x y (a, e) (b, f) = (a ++ b, e ∙ ap (λ z. a ++ z) f ∙ sym (append_assoc a b y))

sign_more : (c : ℕ) (s x : List ℕ) → LeftOf s x → LeftOf (c ∷ s) x
sign_more c s x (a, e) = (c ∷ a, ap (λ z. c ∷ z) e)

pick_left : (c : ℕ) (s x : List ℕ) (ms : List Node) (f : List ℕ → Res) (other : Res) → pick c s f other ≡ ok x ms
    → ((s1 : List ℕ) → f s1 ≡ ok x ms → LeftOf s1 x) → (other ≡ ok x ms → LeftOf s x) → LeftOf s x
pick_left c [] x ms f other e g h = h e
pick_left c (b ∷ bs) x ms f other e g h = on (eqb b c) e
  where
    on : (t : Bool) → cond t (f bs) other ≡ ok x ms → LeftOf (b ∷ bs) x
    on true e = sign_more b bs x (g bs e)
    on false e = h e

then_left : (r : Res) (f : Reading) (s x : List ℕ) (ms : List Node) → and_then r f ≡ ok x ms → ((s1 : List ℕ) (ns1 : List Node) → r ≡ ok s1 ns1 → LeftOf s s1) → Leaves f → LeftOf s x
then_left (ok s1 ns1) f s x ms e a b = further s s1 x (a s1 ns1 refl) (b s1 x ns1 ms e)
then_left bad f s x ms e a b = cc

add_left : (n : Node) → Leaves (add n)
add_left n s x ns ms e = on (ltb (length ns) most_nodes) e
  where
    on : (t : Bool) → cond t (ok s (ns ++ n ∷ [])) bad ≡ ok x ms → LeftOf s x
    on true e = all_left s x cc
    on false e = cc

leaf_left : (mk : ℕ → Node) (limit : ℕ) → Leaves (leaf_at mk limit)
unfolding leaf_at
leaf_left mk limit s x ns ms e = on (number s) refl e
  where
    below : (n : ℕ) (s1 : List ℕ) → number s ≡ got n s1 → (t : Bool) → leaf_of mk (cond t (got n s1) none) ns ≡ ok x ms → LeftOf s x
    below n s1 q true e = further s s1 x (decimal n, (number_read s s1 n q).0) (add_left (mk n) s1 x ns ms e)
    below n s1 q false e = cc

    on : (r : Read) → number s ≡ r → leaf_of mk (limited limit r) ns ≡ ok x ms → LeftOf s x
    on (got n s1) q e = below n s1 q (ltb n limit) e
    on none q e = cc

more_left : (c : ℕ) (op : Node) (item : Reading) → Leaves item → (f : ℕ) → Leaves (more c op item f)
more_left c op item h zero s x ns ms e = all_left s x cc
more_left c op item h (suc f) s x ns ms e = pick_left c s x ms _ _ e
    (λ s1 e1. then_left (item s1 ns) _ s1 x ms e1 (λ s2 ns2 q. h s1 s2 ns ns2 q)
    (λ s2 y ns2 ms2 e2. then_left (add op s2 ns2) (more c op item f) s2 y ms2 e2 (λ s3 ns3 q. add_left op s2 s3 ns2 ns3 q) (more_left c op item h f)))
    (λ e1. all_left s x cc)

chain_left : (c : ℕ) (op : Node) (item : Reading) → Leaves item → Leaves (chain c op item)
chain_left c op item h s x ns ms e = then_left (item s ns) _ s x ms e (λ s1 ns1 q. h s s1 ns ns1 q) (λ s1 y ns1 ms1 e1. more_left c op item h (length s1) s1 y ns1 ms1 e1)

close_left : (c : ℕ) → Leaves (close c)
close_left c s x ns ms e = pick_left c s x ms _ _ e (λ s1 e1. all_left s1 x cc) (λ e1. cc)

user_left : Leaves user_at
unfolding user_at
user_left s x ns ms e = pick_left 117 s x ms _ _ e (λ s1 e1. leaf_left User measures.users s1 x ns ms e1) (λ e1. cc)

users_left : Leaves users_at
unfolding users_at
users_left = chain_left 44 Or user_at user_left

braces_left : Leaves braces_at
unfolding braces_at
braces_left s x ns ms e = pick_left 125 s x ms _ _ e (λ s1 e1. add_left Nobody s1 x ns ms e1)
    (λ e1. then_left (users_at s ns) (close 125) s x ms e1 (λ s1 ns1 q. users_left s s1 ns ns1 q) (close_left 125))

factor_left : (inner : Reading) → Leaves inner → Leaves (factor_with inner)
factor_left inner h s x ns ms e = pick_left 40 s x ms _ _ e
    (λ s1 e1. then_left (inner s1 ns) (close 41) s1 x ms e1 (λ s2 ns2 q. h s1 s2 ns ns2 q) (close_left 41))
    (λ e1. pick_left 114 s x ms _ _ e1 (λ s1 e2. leaf_left Role measures.roles s1 x ns ms e2)
    (λ e2. pick_left 112 s x ms _ _ e2 (λ s1 e3. leaf_left Permission measures.permissions s1 x ns ms e3)
    (λ e3. pick_left 123 s x ms _ _ e3 (λ s1 e4. braces_left s1 x ns ms e4) (λ e4. cc))))

inside_left : (k : ℕ) → Leaves (inside k)
unfolding inside
inside_left zero s x ns ms e = cc
inside_left (suc k) s x ns ms e = chain_left 124 Or _ (chain_left 38 And _ (factor_left (inside k) (inside_left k))) s x ns ms e

pub set_left : (k : ℕ) → Leaves (set_at k)
unfolding set_at term_at factor_at
set_left k = chain_left 124 Or _ (chain_left 38 And _ (factor_left (inside k) (inside_left k)))
