-- One step of the scanning, and all of them.
use Rattle.std.proofs.Common.{◌≡◌, ℕ, zero, suc, Bool, true, false, cond, eqb, ◌⊎◌, List, [], ◌∷◌, sym, refl, ap, ◌∙◌, subst, inl, inr, arith, eq-eqb, eqb-true}
use Rattle.std.proofs.lemmas.Bool.{cond-true, cond-false}
use Rattle.meaning.specs.Measures as measures
use Rattle.grammar.specs.declared.sizes.Size.{Size}
use Rattle.grammar.specs.declared.sizes.State.{State}
use Rattle.grammar.specs.declared.sizes.Leaf.{Leaf}
use Rattle.grammar.specs.declared.sizes.Mode.{Mode}
use Rattle.grammar.specs.declared.sizes.Mode.TheVariants.{Operand, Sign, User, Comma, Another}
use Rattle.grammar.specs.Text.{begins, Read, got, none, number}
use Rattle.meaning.specs.Sets.{UserSet, members, holders, only, nobody}
use Rattle.grammar.specs.Scan.{sized, grow, Next, go, bad, at, pick, leaf, leaf_by, user_step, close, step_at}

pub pick_take : (c : ℕ) (s s1 : List ℕ) (f : List ℕ → Next) (o : Next) → s ≡ c ∷ s1 → pick c s f o ≡ f s1
pick_take c s s1 f o e = ap (λ l. pick c l f o) e ∙ cond-true (eqb c c) (f s1) o (eq-eqb c c refl)

pub pick_not : (c : ℕ) (s : List ℕ) (f : List ℕ → Next) (o : Next) → begins c s ≡ false → pick c s f o ≡ o
pick_not c [] f o e = refl
pick_not c (b ∷ bs) f o e = cond-false (eqb b c) (f bs) o e

abbrev pub Way : ℕ → List ℕ → (List ℕ → Next) → Next → Next → Type 0
Way c s f o x = ((s1 : List ℕ) × (s ≡ c ∷ s1) × (f s1 ≡ x)) ⊎ ((begins c s ≡ false) × (o ≡ x))

pub pick_ways : (c : ℕ) (s : List ℕ) (f : List ℕ → Next) (o x : Next) → pick c s f o ≡ x → Way c s f o x
pick_ways c [] f o x e = inr (refl, e)
pick_ways c (b ∷ bs) f o x e = split (eqb b c) refl e
  where
    split : (v : Bool) → eqb b c ≡ v → cond v (f bs) o ≡ x → Way c (b ∷ bs) f o x
    split true h k = inl (bs, ap (λ y. y ∷ bs) (eqb-true b c h), k)
    split false h k = inr (h, k)

-- the steps that go on
pub data Move : Mode → ℕ → Size → List ℕ → State → List ℕ → Type 0 where
  opens : {d : ℕ} {m : Size} {s : List ℕ} → Move Operand d m (40 ∷ s) (at Operand (suc d) m) s
  a_role : {d : ℕ} {m : Size} {s : List ℕ} (n : ℕ) (x : List ℕ) → number s ≡ got n x → Move Operand d m (114 ∷ s) (at Sign d (grow d m (sized (members n) 0))) x
  a_permission : {d : ℕ} {m : Size} {s : List ℕ} (n : ℕ) (x : List ℕ) → number s ≡ got n x → Move Operand d m (112 ∷ s) (at Sign d (grow d m (sized (holders n) 0))) x
  none_in : {d : ℕ} {m : Size} {s : List ℕ} → Move Operand d m (123 ∷ 125 ∷ s) (at Sign d (grow d m (sized nobody 0))) s
  enters : {d : ℕ} {m : Size} {s : List ℕ} → Move Operand d m (123 ∷ s) (at User d m) s
  joins_or : {d : ℕ} {m : Size} {s : List ℕ} → Move Sign d m (124 ∷ s) (at Operand d m) s
  joins_and : {d : ℕ} {m : Size} {s : List ℕ} → Move Sign d m (38 ∷ s) (at Operand d m) s
  closes : {d : ℕ} {m : Size} {s : List ℕ} → Move Sign (suc d) m (41 ∷ s) (at Sign d m) s
  a_user : {d : ℕ} {m : Size} {s : List ℕ} (n : ℕ) (x : List ℕ) → number s ≡ got n x → Move User d m (117 ∷ s) (at Comma d (grow d m (sized (only n) 0))) x
  comma : {d : ℕ} {m : Size} {s : List ℕ} → Move Comma d m (44 ∷ s) (at Another d m) s
  leaves : {d : ℕ} {m : Size} {s : List ℕ} → Move Comma d m (125 ∷ s) (at Sign d m) s
  another : {d : ℕ} {m : Size} {s : List ℕ} (n : ℕ) (x : List ℕ) → number s ≡ got n x → Move Another d m (117 ∷ s) (at Comma d (grow d m (sized (only n) 1))) x

leaf_goes : (k : Mode) (mk : ℕ → UserSet) (l d : ℕ) (m : Size) (r : Read) (q : State) (x : List ℕ) → leaf k mk l d m r ≡ go q x → (n : ℕ) × (r ≡ got n x) × (q ≡ at k d (grow d m (sized (mk n) l)))
leaf_goes k mk l d m (got n s) q x e = let a : s ≡ x = cc in (n, ap (got n) a, cc)
leaf_goes k mk l d m none q x e = cc

never : {A : Type 0} (q : State) (x : List ℕ) → bad ≡ go q x → A
never q x e = cc

-- a step whose text and state are known up to equations
moved : (k : Mode) (d : ℕ) (m : Size) (s s1 x y : List ℕ) (q p : State) → s ≡ s1 → q ≡ p → x ≡ y → Move k d m s1 p y → Move k d m s q x
moved k d m s s1 x y q p a b c h = subst (λ l. Move k d m l q x) (sym a) (subst (λ r. Move k d m s1 r x) (sym b) (subst (λ l. Move k d m s1 p l) (sym c) h))

pub moves : (k : Mode) (d : ℕ) (m : Size) (s : List ℕ) (q : State) (x : List ℕ) → step_at k d m s ≡ go q x → Move k d m s q x
moves Operand d m s q x e = first (pick_ways 40 s _ _ _ e)
  where
    third : Way 112 s (λ s1. leaf Sign holders 0 d m (number s1)) (pick 123 s (λ s1. pick 125 s1 (λ s2. go (at Sign d (grow d m (sized nobody 0))) s2) (go (at User d m) s1)) bad) (go q x) → Move Operand d m s q x
    third (inl w) = let l = leaf_goes Sign holders 0 d m (number w.0) q x w.2 in moved _ _ _ _ _ _ _ _ _ w.1 l.2 refl (a_permission l.0 x l.1)
    third (inr w) = fourth (pick_ways 123 s _ _ _ w.1)
      where
        fifth : (s1 : List ℕ) → s ≡ 123 ∷ s1 → Way 125 s1 (λ s2. go (at Sign d (grow d m (sized nobody 0))) s2) (go (at User d m) s1) (go q x) → Move Operand d m s q x
        fifth s1 h (inl v) = let a : v.0 ≡ x = cc v.2 in moved _ _ _ _ _ _ _ _ _ (h ∙ ap (λ l. 123 ∷ l) v.1) (cc v.2) (sym a) none_in
        fifth s1 h (inr v) = let a : s1 ≡ x = cc v.1 in moved _ _ _ _ _ _ _ _ _ h (cc v.1) (sym a) enters

        fourth : Way 123 s (λ s1. pick 125 s1 (λ s2. go (at Sign d (grow d m (sized nobody 0))) s2) (go (at User d m) s1)) bad (go q x) → Move Operand d m s q x
        fourth (inl v) = fifth v.0 v.1 (pick_ways 125 v.0 _ _ _ v.2)
        fourth (inr v) = never q x v.1

    second : Way 114 s (λ s1. leaf Sign members 0 d m (number s1)) (pick 112 s (λ s1. leaf Sign holders 0 d m (number s1)) (pick 123 s (λ s1. pick 125 s1 (λ s2. go (at Sign d (grow d m (sized nobody 0))) s2) (go (at User d m) s1)) bad)) (go q x) → Move Operand d m s q x
    second (inl w) = let l = leaf_goes Sign members 0 d m (number w.0) q x w.2 in moved _ _ _ _ _ _ _ _ _ w.1 l.2 refl (a_role l.0 x l.1)
    second (inr w) = third (pick_ways 112 s _ _ _ w.1)

    first : Way 40 s (λ s1. go (at Operand (suc d) m) s1) (pick 114 s (λ s1. leaf Sign members 0 d m (number s1)) (pick 112 s (λ s1. leaf Sign holders 0 d m (number s1)) (pick 123 s (λ s1. pick 125 s1 (λ s2. go (at Sign d (grow d m (sized nobody 0))) s2) (go (at User d m) s1)) bad))) (go q x) → Move Operand d m s q x
    first (inl w) = let a : w.0 ≡ x = cc w.2 in moved _ _ _ _ _ _ _ _ _ w.1 (cc w.2) (sym a) opens
    first (inr w) = second (pick_ways 114 s _ _ _ w.1)
moves Sign d m s q x e = first (pick_ways 124 s _ _ _ e)
  where
    shut : (b : ℕ) → d ≡ b → close b m s ≡ go q x → Move Sign d m s q x
    shut zero h k = cc
    shut (suc b) h k = subst (λ j. Move Sign j m s q x) (sym h) (last (pick_ways 41 s _ _ _ k))
      where
        last : Way 41 s (λ s1. go (at Sign b m) s1) bad (go q x) → Move Sign (suc b) m s q x
        last (inl w) = let a : w.0 ≡ x = cc w.2 in moved _ _ _ _ _ _ _ _ _ w.1 (cc w.2) (sym a) closes
        last (inr w) = never q x w.1

    second : Way 38 s (λ s1. go (at Operand d m) s1) (close d m s) (go q x) → Move Sign d m s q x
    second (inl w) = let a : w.0 ≡ x = cc w.2 in moved _ _ _ _ _ _ _ _ _ w.1 (cc w.2) (sym a) joins_and
    second (inr w) = shut d refl w.1

    first : Way 124 s (λ s1. go (at Operand d m) s1) (pick 38 s (λ s1. go (at Operand d m) s1) (close d m s)) (go q x) → Move Sign d m s q x
    first (inl w) = let a : w.0 ≡ x = cc w.2 in moved _ _ _ _ _ _ _ _ _ w.1 (cc w.2) (sym a) joins_or
    first (inr w) = second (pick_ways 38 s _ _ _ w.1)
moves User d m s q x e = first (pick_ways 117 s _ _ _ e)
  where
    first : Way 117 s (λ s1. leaf Comma only 0 d m (number s1)) bad (go q x) → Move User d m s q x
    first (inl w) = let l = leaf_goes Comma only 0 d m (number w.0) q x w.2 in moved _ _ _ _ _ _ _ _ _ w.1 l.2 refl (a_user l.0 x l.1)
    first (inr w) = never q x w.1
moves Comma d m s q x e = first (pick_ways 44 s _ _ _ e)
  where
    second : Way 125 s (λ s1. go (at Sign d m) s1) bad (go q x) → Move Comma d m s q x
    second (inl w) = let a : w.0 ≡ x = cc w.2 in moved _ _ _ _ _ _ _ _ _ w.1 (cc w.2) (sym a) leaves
    second (inr w) = never q x w.1

    first : Way 44 s (λ s1. go (at Another d m) s1) (pick 125 s (λ s1. go (at Sign d m) s1) bad) (go q x) → Move Comma d m s q x
    first (inl w) = let a : w.0 ≡ x = cc w.2 in moved _ _ _ _ _ _ _ _ _ w.1 (cc w.2) (sym a) comma
    first (inr w) = second (pick_ways 125 s _ _ _ w.1)
moves Another d m s q x e = first (pick_ways 117 s _ _ _ e)
  where
    first : Way 117 s (λ s1. leaf Comma only 1 d m (number s1)) bad (go q x) → Move Another d m s q x
    first (inl w) = let l = leaf_goes Comma only 1 d m (number w.0) q x w.2 in moved _ _ _ _ _ _ _ _ _ w.1 l.2 refl (another l.0 x l.1)
    first (inr w) = never q x w.1

-- the operands that the code counts in, by the limit of their numbers, are the tree's
abbrev pub leaf_of : Mode → ℕ → ℕ → Bool → Bool → Leaf
leaf_of k limit l f a = record { then = k; limit = limit; size = record { operands = 1; levels = l; fits = true; fixed = f; roles = a } }

pub leaf_role : (d : ℕ) (m : Size) (r : Read) → leaf Sign members 0 d m r ≡ leaf_by (leaf_of Sign measures.roles 0 false true) d m r
leaf_role d m r = grind arith

pub leaf_permission : (d : ℕ) (m : Size) (r : Read) → leaf Sign holders 0 d m r ≡ leaf_by (leaf_of Sign measures.permissions 0 false false) d m r
leaf_permission d m r = grind arith

leaf_user : (l d : ℕ) (m : Size) (r : Read) → leaf Comma only l d m r ≡ leaf_by (leaf_of Comma measures.users l true false) d m r
leaf_user l d m r = grind arith

-- a user behind a brace and one behind a comma differ in their levels alone
pub users_step : (l d : ℕ) (m : Size) (s : List ℕ) → pick 117 s (λ s1. leaf Comma only l d m (number s1)) bad ≡ user_step (leaf_of Comma measures.users l true false) d m s
users_step l d m [] = refl
users_step l d m (b ∷ bs) = ap (λ y. cond (eqb b 117) y bad) (leaf_user l d m (number bs))
