-- How a set is read into nodes: an executable reading on lists.
use Rattle.std.specs.Prelude.{◌≡◌, ℕ, zero, suc, ◌*◌, ◌-◌, ◌≤◌, true, cond, List, [], ◌∷◌, ◌++◌, length, Some, None, Ok, Err, Option, Result, ◌==◌, nat_lt}
use Rattle.grammar.specs.Text.{Read, got, none, number}
use Rattle.meaning.specs.Measures as measures
use Rattle.meaning.specs.Sets.{UserSet, members, holders, only, nobody, union, intersection}
use Rattle.grammar.specs.Phrase.{set, Phrase, meaning, levels, operands, in_range, Written, Ends}
use Rattle.bounded.specs.Entries.{entries}
use Rattle.bounded.specs.declared.bounded.Bounded.{Bounded}
use Rattle.trees.specs.declared.nodes.Node.{Node}
use Rattle.trees.specs.declared.nodes.Node.TheVariants.{Role, Permission, User, Nobody, Or, And}
use Rattle.grammar.specs.declared.grounds.Ground.{Ground}

-- the nodes of a set, operators behind their operands
abbrev pub postfix : UserSet → List Node
postfix (members n) = Role n ∷ []
postfix (holders n) = Permission n ∷ []
postfix (only n) = User n ∷ []
postfix nobody = Nobody ∷ []
postfix (union l r) = postfix l ++ (postfix r ++ Or ∷ [])
postfix (intersection l r) = postfix l ++ (postfix r ++ And ∷ [])

-- a set has at most so many nodes: its operands, and the operators between them
abbrev pub most_nodes : ℕ
most_nodes = 2 * measures.question_operands - 1

-- a table of nodes
abbrev pub Nodes : Type 0
Nodes = Bounded Node most_nodes

-- those in use
abbrev pub nodes_in : Nodes → List Node
nodes_in n = entries n

-- what a reading comes to: what is left with the nodes, or nothing
pub data Res : Type 0 where
  ok : List ℕ → List Node → Res
  bad : Res

abbrev pub told : Result (Unit {0}) Ground → List ℕ → List Node → Res
told (Ok u) s ns = ok s ns
told (Err e) s ns = bad

abbrev pub Reading : Type 0
Reading = List ℕ → List Node → Res

abbrev pub and_then : Res → Reading → Res
and_then (ok s ns) f = f s ns
and_then bad f = bad

abbrev pub pick : ℕ → List ℕ → (List ℕ → Res) → Res → Res
pick c [] then other = other
pick c (b ∷ bs) then other = cond (b == c) (then bs) other

abbrev pub add : Node → Reading
add n s ns = cond (nat_lt (length ns) most_nodes) (ok s (ns ++ n ∷ [])) bad

abbrev pub more : ℕ → Node → Reading → ℕ → Reading
more c op item zero s ns = ok s ns
more c op item (suc f) s ns = pick c s (λ s1. and_then (item s1 ns) (λ s2 ns2. and_then (add op s2 ns2) (more c op item f))) (ok s ns)

abbrev pub chain : ℕ → Node → Reading → Reading
chain c op item s ns = and_then (item s ns) (λ s1 ns1. more c op item (length s1) s1 ns1)

-- a number below the limit
abbrev pub limited : ℕ → Read → Read
limited limit (got n s) = cond (nat_lt n limit) (got n s) none
limited limit none = none

abbrev pub leaf_of : (ℕ → Node) → Read → List Node → Res
leaf_of mk (got n s) ns = add (mk n) s ns
leaf_of mk none ns = bad

abbrev pub close : ℕ → Reading
close c s ns = pick c s (λ s1. ok s1 ns) bad

unfoldable pub leaf_at : (ℕ → Node) → ℕ → Reading
leaf_at mk limit s ns = leaf_of mk (limited limit (number s)) ns

unfoldable pub user_at : Reading
user_at s ns = pick 117 s (λ s1. leaf_at User measures.users s1 ns) bad

unfoldable pub users_at : Reading
users_at = chain 44 Or user_at

unfoldable pub braces_at : Reading
braces_at s ns = pick 125 s (λ s1. add Nobody s1 ns) (and_then (users_at s ns) (close 125))

abbrev pub factor_with : Reading → Reading
factor_with inner s ns =
    pick 40 s (λ s1. and_then (inner s1 ns) (close 41))
    (pick 114 s (λ s1. leaf_at Role measures.roles s1 ns)
    (pick 112 s (λ s1. leaf_at Permission measures.permissions s1 ns)
    (pick 123 s (λ s1. braces_at s1 ns)
    bad)))

abbrev pub term_with : Reading → Reading
term_with inner = chain 38 And (factor_with inner)

abbrev pub set_with : Reading → Reading
set_with inner = chain 124 Or (term_with inner)

-- what stands between parentheses, where k levels are left
unfoldable pub inside : ℕ → Reading
inside zero s ns = bad
inside (suc k) s ns = set_with (inside k) s ns

unfoldable pub factor_at : ℕ → Reading
factor_at k = factor_with (inside k)

unfoldable pub term_at : ℕ → Reading
term_at k = chain 38 And (factor_at k)

unfoldable pub set_at : ℕ → Reading
set_at k = chain 124 Or (term_at k)

-- a set that the readers have room for
pub record Small (k : ℕ) (p : Phrase set) : Type 0 where
  pub range : in_range (meaning p) ≡ true
  pub deep : levels p ≤ k
  pub many : operands (meaning p) ≤ measures.question_operands

-- some of the text, or nothing, was read, and the rest is left
abbrev pub LeftOf : List ℕ → List ℕ → Type 0
LeftOf s left = (before : List ℕ) × (s ≡ before ++ left)

-- a text begins with one small set only, whatever phrases it is taken for
abbrev pub OneReading : ℕ → List ℕ → Type 0
OneReading k s = (x y : List ℕ) (p q : Phrase set) → Small k p → Small k q → Written s p x → Written s q y → Ends x → Ends y → (meaning p ≡ meaning q) × (x ≡ y)

-- every small set that stands in the text comes out as its nodes, and what follows it is left
abbrev pub NodesOf : UserSet → List ℕ → Option Nodes → List ℕ → Type 0
NodesOf t y (Some n) x = (nodes_in n ≡ postfix t) × (x ≡ y)
NodesOf t y None x = ⊥

abbrev pub Built : ℕ → List ℕ → Option Nodes → List ℕ → Type 0
Built k s r x = (p : Phrase set) (y : List ℕ) → Written s p y → Ends y → Small k p → NodesOf (meaning p) y r x
