-- How a set is scanned, step by step, and what the scanning tells.
use Rattle.std.specs.Prelude.{◌≡◌, ℕ, zero, suc, ◌+◌, ◌^◌, ◌<◌, max, true, cond, ◌&&◌, List, [], ◌∷◌, length, Some, None, Option, ◌==◌, nat_lt}
use Rattle.meaning.specs.Sets.{UserSet, members, holders, only, nobody}
use Rattle.grammar.specs.Text.{Read, got, none, number}
use Rattle.grammar.specs.Phrase.{Kind, set, Phrase, meaning, levels, operands, in_range, static, roles_alone, Written, Ends}
use Rattle.grammar.specs.declared.sizes.Size.{Size}
use Rattle.grammar.specs.declared.sizes.State.{State}
use Rattle.grammar.specs.declared.sizes.Mode.{Mode}
use Rattle.grammar.specs.declared.sizes.Mode.TheVariants.{Operand, Sign, User, Comma, Another}
use Rattle.grammar.specs.declared.sizes.Leaf.{Leaf}

-- the size of a tree that is written with so many levels
abbrev pub sized : UserSet → ℕ → Size
sized t l = record { operands = operands t; levels = l; fits = in_range t; fixed = static t; roles = roles_alone t }

-- the size of a whole phrase
abbrev pub size_of : {k : Kind} → Phrase k → Size
size_of p = sized (meaning p) (levels p)

-- the size so far with one counted in that stands at a depth
abbrev pub grow : ℕ → Size → Size → Size
grow d m z = record { operands = m.operands + z.operands; levels = max m.levels (d + z.levels); fits = m.fits && z.fits; fixed = m.fixed && z.fixed; roles = m.roles && z.roles }

abbrev pub empty : Size
empty = record { operands = 0; levels = 0; fits = true; fixed = true; roles = true }

pub data Next : Type 0 where
  go : State → List ℕ → Next
  stop : List ℕ → Next
  bad : Next

abbrev pub told : Option (Option State) → List ℕ → Next
told (Some (Some q)) s = go q s
told (Some None) s = stop s
told None s = bad

abbrev pub at : Mode → ℕ → Size → State
at k d m = record { mode = k; depth = d; size = m }

abbrev pub pick : ℕ → List ℕ → (List ℕ → Next) → Next → Next
pick c [] then other = other
pick c (b ∷ bs) then other = cond (b == c) (then bs) other

abbrev pub leaf : Mode → (ℕ → UserSet) → ℕ → ℕ → Size → Read → Next
leaf k mk l d m (got n s) = go (at k d (grow d m (sized (mk n) l))) s
leaf k mk l d m none = bad

abbrev pub close : ℕ → Size → List ℕ → Next
close zero m s = stop s
close (suc d) m s = pick 41 s (λ s1. go (at Sign d m) s1) bad

-- one step of the scanning
abbrev pub step_at : Mode → ℕ → Size → List ℕ → Next
step_at Operand d m s =
    pick 40 s (λ s1. go (at Operand (suc d) m) s1)
    (pick 114 s (λ s1. leaf Sign members 0 d m (number s1))
    (pick 112 s (λ s1. leaf Sign holders 0 d m (number s1))
    (pick 123 s (λ s1. pick 125 s1 (λ s2. go (at Sign d (grow d m (sized nobody 0))) s2) (go (at User d m) s1))
    bad)))
step_at Sign d m s = pick 124 s (λ s1. go (at Operand d m) s1) (pick 38 s (λ s1. go (at Operand d m) s1) (close d m s))
step_at User d m s = pick 117 s (λ s1. leaf Comma only 0 d m (number s1)) bad
step_at Comma d m s = pick 44 s (λ s1. go (at Another d m) s1) (pick 125 s (λ s1. go (at Sign d m) s1) bad)
step_at Another d m s = pick 117 s (λ s1. leaf Comma only 1 d m (number s1)) bad

unfoldable pub step : State → List ℕ → Next
step q s = step_at q.mode q.depth q.size s

pub data Out : Type 0 where
  ok : Size → List ℕ → Out
  no : Out

abbrev pub onward : Next → Size → List ℕ → (State → List ℕ → Out) → Out
onward (go q s1) m s f = f q s1
onward (stop s1) m s f = ok m s1
onward bad m s f = no

abbrev pub runs : ℕ → State → List ℕ → Out
runs zero q s = no
runs (suc f) q s = onward (step q s) q.size s (runs f)

-- all steps from a state
unfoldable pub scanned : State → List ℕ → Out
scanned q s = runs (suc (length s)) q s

abbrev pub heard : Option Size → List ℕ → Out
heard (Some m) x = ok m x
heard None x = no

-- what a scanning tells of the text: a set that stands there is found with its size and its end, what is found is real, and where none is found nothing is taken
pub record Scanned (s : List ℕ) (r : Option Size) (after : List ℕ) : Type 0 where
  pub found : (p : Phrase set) (x : List ℕ) → Written s p x → Ends x → (r ≡ Some (size_of p)) × (after ≡ x)
  pub real : (m : Size) → r ≡ Some m → (p : Phrase set) × (Written s p after) × (m ≡ size_of p)
  pub kept : r ≡ None → after ≡ s

-- each count has room for the bytes that are left
pub record Room (q : State) (s : List ℕ) : Type 0 where
  pub deep : q.depth + length s < 2 ^ 64
  pub many : q.size.operands + length s < 2 ^ 64

-- an operand by the limit of its number and its size
abbrev pub leaf_by : Leaf → ℕ → Size → Read → Next
leaf_by f d m (got n s) = go (at f.then d (grow d m (record { operands = f.size.operands; levels = f.size.levels; fits = nat_lt n f.limit; fixed = f.size.fixed; roles = f.size.roles }))) s
leaf_by f d m none = bad

abbrev pub user_step : Leaf → ℕ → Size → List ℕ → Next
user_step f d m s = pick 117 s (λ s1. leaf_by f d m (number s1)) bad
