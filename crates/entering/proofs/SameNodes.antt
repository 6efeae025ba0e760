-- Nodes are compared by kind and number.
use Rattle.std.proofs.Common.{◌≡◌, ℕ, Decides, refl, ap, arith}
use borrow.Author.Tests.{clash}
use Rattle.std.proofs.lemmas.Bool.{eqb-true, eq-eqb}
use Rattle.trees.specs.declared.nodes.Node.{Node}
use Rattle.trees.specs.declared.nodes.Node.TheVariants.{Role, Permission, User, Nobody, Or, And}
use Rattle.trees.specs.contracts.nodes.NodePartialEq.TheImpl.{eq-value}

-- the kind of a node, and its number
abbrev kind : Node → ℕ
kind (Role n) = 0
kind (Permission n) = 1
kind (User n) = 2
kind Nobody = 3
kind Or = 4
kind And = 5

abbrev number : Node → ℕ
number (Role n) = n
number (Permission n) = n
number (User n) = n
number Nobody = 0
number Or = 0
number And = 0

-- the test of two nodes tells whether they are the same
pub tells : (x y : Node) → Decides (eq-value.it x y) (x ≡ y)
tells (Role m) (Role n) = (λ e. ap Role (eqb-true m n e), λ e. eq-eqb m n (ap number e))
tells (Role m) (Permission n) = (λ e. absurd (clash e), λ e. let k : ◌≡◌ {A = ℕ} 0 1 = ap kind e in absurd (omega arith))
tells (Role m) (User n) = (λ e. absurd (clash e), λ e. let k : ◌≡◌ {A = ℕ} 0 2 = ap kind e in absurd (omega arith))
tells (Role m) Nobody = (λ e. absurd (clash e), λ e. let k : ◌≡◌ {A = ℕ} 0 3 = ap kind e in absurd (omega arith))
tells (Role m) Or = (λ e. absurd (clash e), λ e. let k : ◌≡◌ {A = ℕ} 0 4 = ap kind e in absurd (omega arith))
tells (Role m) And = (λ e. absurd (clash e), λ e. let k : ◌≡◌ {A = ℕ} 0 5 = ap kind e in absurd (omega arith))
tells (Permission m) (Role n) = (λ e. absurd (clash e), λ e. let k : ◌≡◌ {A = ℕ} 1 0 = ap kind e in absurd (omega arith))
tells (Permission m) (Permission n) = (λ e. ap Permission (eqb-true m n e), λ e. eq-eqb m n (ap number e))
tells (Permission m) (User n) = (λ e. absurd (clash e), λ e. let k : ◌≡◌ {A = ℕ} 1 2 = ap kind e in absurd (omega arith))
tells (Permission m) Nobody = (λ e. absurd (clash e), λ e. let k : ◌≡◌ {A = ℕ} 1 3 = ap kind e in absurd (omega arith))
tells (Permission m) Or = (λ e. absurd (clash e), λ e. let k : ◌≡◌ {A = ℕ} 1 4 = ap kind e in absurd (omega arith))
tells (Permission m) And = (λ e. absurd (clash e), λ e. let k : ◌≡◌ {A = ℕ} 1 5 = ap kind e in absurd (omega arith))
tells (User m) (Role n) = (λ e. absurd (clash e), λ e. let k : ◌≡◌ {A = ℕ} 2 0 = ap kind e in absurd (omega arith))
tells (User m) (Permission n) = (λ e. absurd (clash e), λ e. let k : ◌≡◌ {A = ℕ} 2 1 = ap kind e in absurd (omega arith))
tells (User m) (User n) = (λ e. ap User (eqb-true m n e), λ e. eq-eqb m n (ap number e))
tells (User m) Nobody = (λ e. absurd (clash e), λ e. let k : ◌≡◌ {A = ℕ} 2 3 = ap kind e in absurd (omega arith))
tells (User m) Or = (λ e. absurd (clash e), λ e. let k : ◌≡◌ {A = ℕ} 2 4 = ap kind e in absurd (omega arith))
tells (User m) And = (λ e. absurd (clash e), λ e. let k : ◌≡◌ {A = ℕ} 2 5 = ap kind e in absurd (omega arith))
tells Nobody (Role n) = (λ e. absurd (clash e), λ e. let k : ◌≡◌ {A = ℕ} 3 0 = ap kind e in absurd (omega arith))
tells Nobody (Permission n) = (λ e. absurd (clash e), λ e. let k : ◌≡◌ {A = ℕ} 3 1 = ap kind e in absurd (omega arith))
tells Nobody (User n) = (λ e. absurd (clash e), λ e. let k : ◌≡◌ {A = ℕ} 3 2 = ap kind e in absurd (omega arith))
tells Nobody Nobody = (λ e. refl, λ e. refl)
tells Nobody Or = (λ e. absurd (clash e), λ e. let k : ◌≡◌ {A = ℕ} 3 4 = ap kind e in absurd (omega arith))
tells Nobody And = (λ e. absurd (clash e), λ e. let k : ◌≡◌ {A = ℕ} 3 5 = ap kind e in absurd (omega arith))
tells Or (Role n) = (λ e. absurd (clash e), λ e. let k : ◌≡◌ {A = ℕ} 4 0 = ap kind e in absurd (omega arith))
tells Or (Permission n) = (λ e. absurd (clash e), λ e. let k : ◌≡◌ {A = ℕ} 4 1 = ap kind e in absurd (omega arith))
tells Or (User n) = (λ e. absurd (clash e), λ e. let k : ◌≡◌ {A = ℕ} 4 2 = ap kind e in absurd (omega arith))
tells Or Nobody = (λ e. absurd (clash e), λ e. let k : ◌≡◌ {A = ℕ} 4 3 = ap kind e in absurd (omega arith))
tells Or Or = (λ e. refl, λ e. refl)
tells Or And = (λ e. absurd (clash e), λ e. let k : ◌≡◌ {A = ℕ} 4 5 = ap kind e in absurd (omega arith))
tells And (Role n) = (λ e. absurd (clash e), λ e. let k : ◌≡◌ {A = ℕ} 5 0 = ap kind e in absurd (omega arith))
tells And (Permission n) = (λ e. absurd (clash e), λ e. let k : ◌≡◌ {A = ℕ} 5 1 = ap kind e in absurd (omega arith))
tells And (User n) = (λ e. absurd (clash e), λ e. let k : ◌≡◌ {A = ℕ} 5 2 = ap kind e in absurd (omega arith))
tells And Nobody = (λ e. absurd (clash e), λ e. let k : ◌≡◌ {A = ℕ} 5 3 = ap kind e in absurd (omega arith))
tells And Or = (λ e. absurd (clash e), λ e. let k : ◌≡◌ {A = ℕ} 5 4 = ap kind e in absurd (omega arith))
tells And And = (λ e. refl, λ e. refl)
