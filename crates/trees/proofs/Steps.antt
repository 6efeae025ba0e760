-- One step of a reader, and one turn of a loop of `set` or `term`.
use Rattle.std.proofs.Common.{◌≡◌, ℕ, zero, suc, ◌-◌, ◌<◌, ◌≤◌, false, eqb, List, [], ◌∷◌, length, IsErrAnd, Option, Some, Result, sym, refl, ap, ◌∙◌, arith, le-ltb, lt-ltb, eq-eqb}
use Rattle.std.proofs.lemmas.Bool.{cond-true, cond-false}
use Rattle.trees.specs.declared.nodes.Node.{Node}
use Rattle.grammar.specs.declared.grounds.Ground.{Ground}
use Rattle.trees.specs.declared.nodes.Node.TheVariants.{Role, Permission}
use Rattle.std.proofs.lemmas.Result.{err_from_is_err_and}
use Rattle.meaning.specs.Measures as measures
use Rattle.grammar.specs.Text.{ahead, behind, begins, number, got, none}
use Rattle.grammar.proofs.Digits.{ahead_is, ahead_not}
use Rattle.trees.specs.Reading.{Res, ok, bad, Reading, told, and_then, pick, add, more, chain, limited, leaf_of, leaf_at, users_at, braces_at, close, inside, factor_at, term_at, set_at}

-- a number and its node
module _ (made : ℕ → Node) (limit : ℕ) (s x : List ℕ) (ns : List Node) where
  pub no_number : number s ≡ none → leaf_at made limit s ns ≡ bad
  unfolding leaf_at
  no_number e = ap (λ r. leaf_of made (limited limit r) ns) e

  pub too_large : (n : ℕ) → number s ≡ got n x → limit ≤ n → leaf_at made limit s ns ≡ bad
  unfolding leaf_at
  too_large n e l = ap (λ r. leaf_of made (limited limit r) ns) e ∙ ap (λ r. leaf_of made r ns) (cond-false _ _ _ (le-ltb n limit l))

  pub small_enough : (n : ℕ) → number s ≡ got n x → n < limit → leaf_at made limit s ns ≡ add (made n) x ns
  unfolding leaf_at
  small_enough n e l = ap (λ r. leaf_of made (limited limit r) ns) e ∙ ap (λ r. leaf_of made r ns) (cond-true _ _ _ (lt-ltb n limit l))

pub pick_take : (c : ℕ) (s s1 : List ℕ) (then : List ℕ → Res) (other : Res) → s ≡ c ∷ s1 → pick c s then other ≡ then s1
pick_take c s s1 then other e = ap (λ l. pick c l then other) e ∙ cond-true (eqb c c) (then s1) other (eq-eqb c c refl)

pub pick_not : (c : ℕ) (s : List ℕ) (then : List ℕ → Res) (other : Res) → begins c s ≡ false → pick c s then other ≡ other
pick_not c [] then other e = refl
pick_not c (b ∷ bs) then other e = cond-false (eqb b c) (then bs) other e

-- the loop over the items that follow the first
module _ (c : ℕ) (op : Node) (item : Reading) where
  pub turn : (f : ℕ) (s s1 s2 : List ℕ) (ns ns2 ns3 : List Node) → s ≡ c ∷ s1 → length s ≤ f → length s2 ≤ length s1 → item s1 ns ≡ ok s2 ns2 → add op s2 ns2 ≡ ok s2 ns3 →
      (g : ℕ) × (length s2 ≤ g) × (more c op item f s ns ≡ more c op item g s2 ns3)
  turn zero s s1 s2 ns ns2 ns3 e l m i a = absurd (omega (arith, ap length e))
  turn (suc f) s s1 s2 ns ns2 ns3 e l m i a = (
    f,
    omega (arith, ap length e),
    pick_take c s s1 _ _ e ∙ ap (λ x. and_then x (λ s2 ns2. and_then (add op s2 ns2) (more c op item f))) i ∙ ap (λ x. and_then x (more c op item f)) a,
  )

  pub turn_item : (f : ℕ) (s s1 : List ℕ) (ns : List Node) → s ≡ c ∷ s1 → length s ≤ f → item s1 ns ≡ bad → more c op item f s ns ≡ bad
  turn_item zero s s1 ns e l i = absurd (omega (arith, ap length e))
  turn_item (suc f) s s1 ns e l i = pick_take c s s1 _ _ e ∙ ap (λ x. and_then x (λ s2 ns2. and_then (add op s2 ns2) (more c op item f))) i

  pub turn_add : (f : ℕ) (s s1 s2 : List ℕ) (ns ns2 : List Node) → s ≡ c ∷ s1 → length s ≤ f → item s1 ns ≡ ok s2 ns2 → add op s2 ns2 ≡ bad → more c op item f s ns ≡ bad
  turn_add zero s s1 s2 ns ns2 e l i a = absurd (omega (arith, ap length e))
  turn_add (suc f) s s1 s2 ns ns2 e l i a =
      pick_take c s s1 _ _ e ∙ ap (λ x. and_then x (λ s2 ns2. and_then (add op s2 ns2) (more c op item f))) i ∙ ap (λ x. and_then x (more c op item f)) a

  pub stop : (f : ℕ) (s : List ℕ) (ns : List Node) → begins c s ≡ false → more c op item f s ns ≡ ok s ns
  stop zero s ns e = refl
  stop (suc f) s ns e = pick_not c s _ _ e

  pub first : (s s1 : List ℕ) (ns ns1 : List Node) → item s ns ≡ ok s1 ns1 → chain c op item s ns ≡ more c op item (length s1) s1 ns1
  first s s1 ns ns1 e = ap (λ r. and_then r (λ s1 ns1. more c op item (length s1) s1 ns1)) e

  pub first_bad : (s : List ℕ) (ns : List Node) → item s ns ≡ bad → chain c op item s ns ≡ bad
  first_bad s ns e = ap (λ r. and_then r (λ s1 ns1. more c op item (length s1) s1 ns1)) e

-- the exit of a `?`
pub exit : (r : Result (Unit {0}) Ground) (P : Ground → Type 0) (s : List ℕ) (ns : List Node) (R : Res) → IsErrAnd r P → R ≡ bad → R ≡ told r s ns
exit r P s ns R by e =
    let p = err_from_is_err_and r by in
    e ∙ sym (ap (λ q. told q s ns) p.1)

-- the ways of a factor
module _ (k : ℕ) (s : List ℕ) (ns : List Node) where
  pub opens : (s1 : List ℕ) (R : Res) → s ≡ 40 ∷ s1 → inside k s1 ns ≡ R → factor_at k s ns ≡ and_then R (close 41)
  unfolding factor_at
  opens s1 R e i = pick_take 40 s s1 _ _ e ∙ ap (λ r. and_then r (close 41)) i

  pub is_role : (s1 : List ℕ) → begins 40 s ≡ false → s ≡ 114 ∷ s1 → factor_at k s ns ≡ leaf_at Role measures.roles s1 ns
  unfolding factor_at
  is_role s1 a e = pick_not 40 s _ _ a ∙ pick_take 114 s s1 _ _ e

  pub is_permission : (s1 : List ℕ) → begins 40 s ≡ false → begins 114 s ≡ false → s ≡ 112 ∷ s1 → factor_at k s ns ≡ leaf_at Permission measures.permissions s1 ns
  unfolding factor_at
  is_permission s1 a b e = pick_not 40 s _ _ a ∙ pick_not 114 s _ _ b ∙ pick_take 112 s s1 _ _ e

  pub is_braces : (s1 : List ℕ) → begins 40 s ≡ false → begins 114 s ≡ false → begins 112 s ≡ false → s ≡ 123 ∷ s1 → factor_at k s ns ≡ braces_at s1 ns
  unfolding factor_at
  is_braces s1 a b d e = pick_not 40 s _ _ a ∙ pick_not 114 s _ _ b ∙ pick_not 112 s _ _ d ∙ pick_take 123 s s1 _ _ e

  pub is_none : begins 40 s ≡ false → begins 114 s ≡ false → begins 112 s ≡ false → begins 123 s ≡ false → factor_at k s ns ≡ bad
  unfolding factor_at
  is_none a b d e = pick_not 40 s _ _ a ∙ pick_not 114 s _ _ b ∙ pick_not 112 s _ _ d ∙ pick_not 123 s _ _ e

pub inside_none : (k : ℕ) (s : List ℕ) (ns : List Node) → k ≡ 0 → inside k s ns ≡ bad
unfolding inside
inside_none k s ns e = ap (λ j. inside j s ns) e

pub inside_some : (k : ℕ) (s : List ℕ) (ns : List Node) → (k ≡ 0 → ⊥) → inside k s ns ≡ set_at (k - 1) s ns
unfolding inside set_at term_at factor_at
inside_some zero s ns n = absurd (n refl)
inside_some (suc k) s ns n = let e : k ≡ suc k - 1 = omega arith in ap (λ j. set_at j s ns) e

pub still : (c : ℕ) (s s1 : List ℕ) → s1 ≡ s → begins c s1 ≡ false → begins c s ≡ false
still c s s1 e h = ap (begins c) (sym e) ∙ h

pub brace_users : (s s1 : List ℕ) (ns : List Node) (R : Res) → begins 125 s ≡ false → s ≡ s1 → users_at s1 ns ≡ R → braces_at s ns ≡ and_then R (close 125)
unfolding braces_at
brace_users s s1 ns R a e i = pick_not 125 s _ _ a ∙ ap (λ r. and_then r (close 125)) (ap (λ l. users_at l ns) e ∙ i)

-- the sign that was seen and passed over
pub passed : (s s1 : List ℕ) (r : Option ℕ) (c : ℕ) → r ≡ ahead s → r ≡ Some c → s1 ≡ behind s → s ≡ c ∷ s1
passed s s1 r c a e b = ahead_is s c (sym a ∙ e) ∙ ap (λ l. c ∷ l) (sym b)

-- a sign that was seen is no other
pub unlike : (s : List ℕ) (r : Option ℕ) (c : ℕ) → r ≡ ahead s → (r ≡ Some c → ⊥) → begins c s ≡ false
unlike s r c a n = ahead_not s c (λ e. n (a ∙ e))
