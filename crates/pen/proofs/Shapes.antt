-- Trees laid out behind one another.
use Rattle.std.proofs.Common.{◌≡◌, ℕ, ◌+◌, ◌-◌, ◌<◌, ◌⊎◌, inl, inr, ⊎_elim, Bool, true, false, not, List, [], ◌∷◌, ◌++◌, length, take, drop, sym, refl, ap, ◌∙◌, append_assoc, arith, length-append, take_all}
use Rattle.std.proofs.Math.Seq.{take-append_seam, drop-append_seam}
use Rattle.std.proofs.lemmas.List.{append-nil}
use denote.Enum.Bare.{sameb}
use Rattle.meaning.specs.Sets.{UserSet, members, holders, only, nobody, union, intersection}
use Rattle.pen.specs.declared.spot.Spot.{Spot}
use Rattle.pen.specs.declared.spot.Spot.TheVariants.{Set, Term, Factor}
use Rattle.pen.specs.contracts.spot.Spot.{the_type}
use Rattle.pen.specs.Texts.{written, leaf}
use Rattle.trees.specs.Reading.{postfix}
use Rattle.trees.specs.declared.nodes.Node.{Node}
use Rattle.trees.specs.declared.nodes.Node.TheVariants.{Role, Permission, User, Nobody, Or, And}

-- the nodes of trees, the first of the list last
abbrev pub laid : List UserSet → List Node
laid [] = []
laid (t ∷ ts) = laid ts ++ postfix t

-- a tree's nodes without its last, and its last
abbrev body : UserSet → List Node
body (union a b) = postfix a ++ postfix b
body (intersection a b) = postfix a ++ postfix b
body (members n) = []
body (holders n) = []
body (only n) = []
body nobody = []

abbrev root : UserSet → Node
root (union a b) = Or
root (intersection a b) = And
root (members n) = Role n
root (holders n) = Permission n
root (only n) = User n
root nobody = Nobody

rooted : (t : UserSet) → postfix t ≡ body t ++ root t ∷ []
rooted (union a b) = sym (append_assoc (postfix a) (postfix b) (Or ∷ []))
rooted (intersection a b) = sym (append_assoc (postfix a) (postfix b) (And ∷ []))
rooted (members n) = refl
rooted (holders n) = refl
rooted (only n) = refl
rooted nobody = refl

last_same : (xs ys : List Node) (x y : Node) → xs ++ x ∷ [] ≡ ys ++ y ∷ [] → (xs ≡ ys) × (x ≡ y)
last_same [] [] x y e = (refl, cc)
last_same [] (b ∷ []) x y e = let h : [] ≡ y ∷ [] = cc in cc
last_same [] (b ∷ d ∷ ys) x y e = let h : [] ≡ d ∷ (ys ++ y ∷ []) = cc in cc
last_same (a ∷ []) [] x y e = let h : x ∷ [] ≡ [] = cc in cc
last_same (a ∷ d ∷ xs) [] x y e = let h : d ∷ (xs ++ x ∷ []) ≡ [] = cc in cc
last_same (a ∷ xs) (b ∷ ys) x y e = let h : xs ++ x ∷ [] ≡ ys ++ y ∷ [] = cc in let i = last_same xs ys x y h in let j : a ≡ b = cc in (ap (λ l. a ∷ l) i.0 ∙ ap (λ c. c ∷ ys) j, i.1)

-- the last node of trees laid out is the root of the first of the list
pub last_root : (front xs : List Node) (x : Node) (t : UserSet) (ts : List UserSet) → xs ++ x ∷ [] ≡ front ++ laid (t ∷ ts) → (xs ≡ front ++ (laid ts ++ body t)) × (x ≡ root t)
last_root front xs x t ts e =
    last_same xs (front ++ (laid ts ++ body t)) x (root t)
    (e ∙ ap (λ l. front ++ (laid ts ++ l)) (rooted t) ∙ ap (λ l. front ++ l) (sym (append_assoc (laid ts) (body t) (root t ∷ []))) ∙ sym (append_assoc front (laid ts ++ body t) (root t ∷ [])))

-- the trees below the root
abbrev pub kids : UserSet → List UserSet
kids (union a b) = b ∷ a ∷ []
kids (intersection a b) = b ∷ a ∷ []
kids (members n) = []
kids (holders n) = []
kids (only n) = []
kids nobody = []

laid_kids : (t : UserSet) (ts : List UserSet) → laid ts ++ body t ≡ laid (kids t ++ ts)
laid_kids (union a b) ts = sym (append_assoc (laid ts) (postfix a) (postfix b))
laid_kids (intersection a b) ts = sym (append_assoc (laid ts) (postfix a) (postfix b))
laid_kids (members n) ts = append-nil (laid ts)
laid_kids (holders n) ts = append-nil (laid ts)
laid_kids (only n) ts = append-nil (laid ts)
laid_kids nobody ts = append-nil (laid ts)

-- an operator stands over two trees, an operand over none
pub two_kids : (t : UserSet) (x : Node) → x ≡ root t → (x ≡ Or) ⊎ (x ≡ And) → length (kids t) ≡ 2
two_kids (union a b) x e h = refl
two_kids (intersection a b) x e h = refl
two_kids (members n) x e (inl h) = cc
two_kids (members n) x e (inr h) = cc
two_kids (holders n) x e (inl h) = cc
two_kids (holders n) x e (inr h) = cc
two_kids (only n) x e (inl h) = cc
two_kids (only n) x e (inr h) = cc
two_kids nobody x e (inl h) = cc
two_kids nobody x e (inr h) = cc

pub no_kids : (t : UserSet) (x : Node) → x ≡ root t → (x ≡ Or → ⊥) → (x ≡ And → ⊥) → length (kids t) ≡ 0
no_kids (union a b) x e n m = absurd (n e)
no_kids (intersection a b) x e n m = absurd (m e)
no_kids (members n) x e a b = refl
no_kids (holders n) x e a b = refl
no_kids (only n) x e a b = refl
no_kids nobody x e a b = refl

-- so many trees are left behind the front
abbrev pub Left : List Node → ℕ → List Node → Type 0
Left ns n front = (ts : List UserSet) × (length ts ≡ n) × (ns ≡ front ++ laid ts)

-- one node further to the front: an operator is read, or an operand
abbrev pub Read : Node → ℕ → ℕ → Type 0
Read x n m = (((x ≡ Or) ⊎ (x ≡ And)) × (m ≡ n + 1)) ⊎ ((x ≡ Or → ⊥) × (x ≡ And → ⊥) × (m ≡ n - 1))

pub step : (ns xs front : List Node) (n m : ℕ) (x : Node) → ns ≡ xs ++ x ∷ [] → 0 < n → Read x n m → Left ns n front → Left xs m front
step ns xs front n m x e c r ([], l, h) = absurd (omega arith)
step ns xs front n m x e c r (t ∷ us, l, h) =
    let d = last_root front xs x t us (sym e ∙ h) in
    let u : length (kids t ++ us) ≡ length (kids t) + length us = length-append (kids t) us in
    let k : length (kids t) + n ≡ m + 1 = ⊎_elim
    (λ (o : ((x ≡ Or) ⊎ (x ≡ And)) × (m ≡ n + 1)). omega (arith, two_kids t x d.1 o.0, o.1))
    (λ (o : (x ≡ Or → ⊥) × (x ≡ And → ⊥) × (m ≡ n - 1)). omega (arith, no_kids t x d.1 o.0 o.1, o.2))
    r in
    (kids t ++ us, omega arith, d.0 ∙ ap (λ l. front ++ l) (laid_kids t us))

pub at_end : (ns front : List Node) → Left ns 0 front → length ns ≡ length front
at_end ns front ([], l, h) = ap length (h ∙ append-nil front)
at_end ns front (t ∷ ts, l, h) = absurd (omega arith)

some_nodes : (t : UserSet) → 0 < length (postfix t)
some_nodes t = let l : length (body t ++ root t ∷ []) ≡ length (body t) + 1 = length-append (body t) (root t ∷ []) in omega (arith, ap length (rooted t))

pub not_empty : (ns front : List Node) (n : ℕ) → 0 < n → length ns ≡ 0 → Left ns n front → ⊥
not_empty ns front n a z ([], l, h) = omega arith
not_empty ns front n a z (t ∷ ts, l, h) =
    let p = some_nodes t in
    let u : length (front ++ (laid ts ++ postfix t)) ≡ length front + length (laid ts ++ postfix t) = length-append front (laid ts ++ postfix t) in
    let v : length (laid ts ++ postfix t) ≡ length (laid ts) + length (postfix t) = length-append (laid ts) (postfix t) in
    omega (arith, ap length h)

-- the two sides of nodes that lay one tree behind another
pub record Sides (ns pa pb : List Node) (mid : ℕ) : Type 0 where
  pub left : take mid ns ≡ pa
  pub right : take (length ns - mid) (drop mid ns) ≡ pb

pub sides : (ns pa pb : List Node) (mid : ℕ) → ns ≡ pa ++ pb → mid ≡ length pa → Sides ns pa pb mid
sides ns pa pb mid e m =
    let d : drop mid ns ≡ pb = ap (λ k. drop k ns) m ∙ ap (drop (length pa)) e ∙ drop-append_seam pa pb in
    record {
      left = ap (λ k. take k ns) m ∙ ap (take (length pa)) e ∙ take-append_seam pa pb;
      right = ap (take (length ns - mid)) d ∙ take_all (length ns - mid) pb (omega (arith, ap length e ∙ length-append pa pb));
    }

-- the nodes of a set before its last, and the last
pub rooted_is : (ns xs : List Node) (x : Node) (t : UserSet) → ns ≡ xs ++ x ∷ [] → ns ≡ postfix t → (xs ≡ body t) × (x ≡ root t)
rooted_is ns xs x t e f = last_same xs (body t) x (root t) (sym e ∙ f ∙ rooted t)

-- two sets with a sign between them, and the same in parentheses
abbrev pub between : Spot → ℕ → Spot → UserSet → UserSet → List ℕ
between l sign r a b = written l a ++ (sign ∷ written r b)

abbrev pub wrapped : List ℕ → List ℕ
wrapped s = 40 ∷ (s ++ 41 ∷ [])

-- a set is two sets with a sign between them, in parentheses where it does not stand bare
pub record Signed (t : UserSet) (s l : Spot) (sign : ℕ) (r : Spot) (bare : Bool) : Type 0 where
  pub one : UserSet
  pub two : UserSet
  pub nodes : body t ≡ postfix one ++ postfix two
  pub loose : bare ≡ true → between l sign r one two ≡ written s t
  pub tight : bare ≡ false → wrapped (between l sign r one two) ≡ written s t

pub signed_or : (t : UserSet) (s : Spot) → Or ≡ root t → Signed t s Set 124 Term (sameb the_type s Set)
signed_or (union a b) Set e = record { one = a; two = b; nodes = refl; loose = λ h. refl; tight = λ h. cc }
signed_or (union a b) Term e = record { one = a; two = b; nodes = refl; loose = λ h. cc; tight = λ h. refl }
signed_or (union a b) Factor e = record { one = a; two = b; nodes = refl; loose = λ h. cc; tight = λ h. refl }
signed_or (intersection a b) s e = cc
signed_or (members n) s e = cc
signed_or (holders n) s e = cc
signed_or (only n) s e = cc
signed_or nobody s e = cc

pub signed_and : (t : UserSet) (s : Spot) → And ≡ root t → Signed t s Term 38 Factor (not (sameb the_type s Factor))
signed_and (union a b) s e = cc
signed_and (intersection a b) Set e = record { one = a; two = b; nodes = refl; loose = λ h. refl; tight = λ h. cc }
signed_and (intersection a b) Term e = record { one = a; two = b; nodes = refl; loose = λ h. refl; tight = λ h. cc }
signed_and (intersection a b) Factor e = record { one = a; two = b; nodes = refl; loose = λ h. cc; tight = λ h. refl }
signed_and (members n) s e = cc
signed_and (holders n) s e = cc
signed_and (only n) s e = cc
signed_and nobody s e = cc

pub leaf_is : (t : UserSet) (x : Node) (s : Spot) → x ≡ root t → (x ≡ Or → ⊥) → (x ≡ And → ⊥) → leaf x ≡ written s t
leaf_is (union a b) x s e n m = absurd (n e)
leaf_is (intersection a b) x s e n m = absurd (m e)
leaf_is (members n) x Set e a b = ap leaf e
leaf_is (members n) x Term e a b = ap leaf e
leaf_is (members n) x Factor e a b = ap leaf e
leaf_is (holders n) x Set e a b = ap leaf e
leaf_is (holders n) x Term e a b = ap leaf e
leaf_is (holders n) x Factor e a b = ap leaf e
leaf_is (only n) x Set e a b = ap leaf e
leaf_is (only n) x Term e a b = ap leaf e
leaf_is (only n) x Factor e a b = ap leaf e
leaf_is nobody x Set e a b = ap leaf e
leaf_is nobody x Term e a b = ap leaf e
leaf_is nobody x Factor e a b = ap leaf e

pub none_of : (ns : List Node) (t : UserSet) → length ns ≡ 0 → ns ≡ postfix t → ⊥
none_of ns t l e = let p = some_nodes t in omega (arith, ap length e)
