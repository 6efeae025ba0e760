-- All steps of the scanning, with no bound on their number.
use Rattle.std.proofs.Common.{◌≡◌, ℕ, zero, suc, ◌+◌, ◌^◌, ◌<◌, ◌≤◌, ◌⊎◌, List, ◌++◌, length, decimal, refl, ap, ◌∙◌, inl, inr, arith, length-append}
use Rattle.grammar.specs.declared.sizes.Size.{Size}
use Rattle.grammar.specs.declared.sizes.State.{State}
use Rattle.grammar.specs.declared.sizes.Mode.{Mode}
use Rattle.grammar.specs.Text.{got, number}
use Rattle.grammar.specs.Scan.{Next, go, stop, bad, step, ok, no, onward, runs, scanned, Room}
use Rattle.grammar.proofs.Numbers.{number_read}
use Rattle.grammar.proofs.Steps.{Move, moves}

pub number_less : (s x : List ℕ) (n : ℕ) → number s ≡ got n x → length x ≤ length s
number_less s x n e = let r = ap length (number_read s x n e).0 in let a : length (decimal n ++ x) ≡ length (decimal n) + length x = length-append (decimal n) x in omega arith

less : {k : Mode} {d : ℕ} {m : Size} {s : List ℕ} {q : State} {x : List ℕ} → Move k d m s q x → length x < length s
less h = grind (arith, number_less)

pub step_less : (q : State) (s : List ℕ) (p : State) (x : List ℕ) → step q s ≡ go p x → length x < length s
unfolding step
step_less q s p x e = less (moves q.mode q.depth q.size s p x e)

-- a step that goes on keeps room for each count
roomy : {k : Mode} {d : ℕ} {m : Size} {s : List ℕ} {q : State} {x : List ℕ} → Move k d m s q x → length x < length s → d + length s < 2 ^ 64 → m.operands + length s < 2 ^ 64 → Room q x
roomy h l a b = grind arith

pub step_room : (q : State) (s : List ℕ) (p : State) (x : List ℕ) → step q s ≡ go p x → Room q s → Room p x
unfolding step
step_room q s p x e r = let m = moves q.mode q.depth q.size s p x e in roomy m (less m) r.deep r.many

-- more turns than bytes change nothing
pub runs_same : (f g : ℕ) (q : State) (s : List ℕ) → length s < f → length s < g → runs f q s ≡ runs g q s
runs_same zero g q s h k = absurd (omega arith)
runs_same (suc f) zero q s h k = absurd (omega arith)
runs_same (suc f) (suc g) q s h k = split (step q s) refl (λ p x l. runs_same f g p x (omega arith) (omega arith))
  where
    split : (n : Next) → step q s ≡ n → ((p : State) (x : List ℕ) → length x < length s → runs f p x ≡ runs g p x) → onward n q.size s (runs f) ≡ onward n q.size s (runs g)
    split (go p x) e r = r p x (step_less q s p x e)
    split (stop y) e r = refl
    split bad e r = refl

pub go_on : (q p : State) (s x : List ℕ) → step q s ≡ go p x → scanned q s ≡ scanned p x
unfolding scanned
go_on q p s x e = ap (λ n. onward n q.size s (runs (length s))) e ∙ runs_same (length s) (suc (length x)) p x (step_less q s p x e) (omega arith)

pub stops : (q : State) (s x : List ℕ) → step q s ≡ stop x → scanned q s ≡ ok q.size x
unfolding scanned
stops q s x e = ap (λ n. onward n q.size s (runs (length s))) e

pub fails : (q : State) (s : List ℕ) → step q s ≡ bad → scanned q s ≡ no
unfolding scanned
fails q s e = ap (λ n. onward n q.size s (runs (length s))) e

-- the first turn of a scanning that ends well
pub first_turn : (f : ℕ) (q : State) (s x : List ℕ) (e : Size) → runs f q s ≡ ok e x →
    (g : ℕ) × (f ≡ suc g) × (((p : State) × (s1 : List ℕ) × (step q s ≡ go p s1) × (runs g p s1 ≡ ok e x)) ⊎ ((step q s ≡ stop x) × (q.size ≡ e)))
first_turn zero q s x e h = cc
first_turn (suc g) q s x e h = (g, refl, split (step q s) refl h)
  where
    split : (n : Next) → step q s ≡ n → onward n q.size s (runs g) ≡ ok e x → ((p : State) × (s1 : List ℕ) × (step q s ≡ go p s1) × (runs g p s1 ≡ ok e x)) ⊎ ((step q s ≡ stop x) × (q.size ≡ e))
    split (go p s1) w k = inl (p, s1, w, k)
    split (stop y) w k = inr (w ∙ ap stop (cc k), cc)
    split bad w k = cc
