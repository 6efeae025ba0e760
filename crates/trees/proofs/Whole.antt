-- A set's nodes are balanced, balanced nodes are a set's, and decoding gives it back.
use Rattle.std.proofs.Common.{◌≡◌, ℕ, ◌+◌, ◌-◌, ◌<◌, ◌≤◌, Bool, true, false, cond, eqb, ltb, List, [], ◌∷◌, ◌++◌, length, get_or, drop, Some, None, sym, refl, ap, ◌∙◌, subst, append_assoc, append-nil, arith, le-ltb, lt-ltb, eqb-true}
use borrow.Author.Tests.{clash}
use Rattle.std.proofs.lemmas.List.{drop_more, drop_all}
use Rattle.std.proofs.lemmas.Bool.{cond-true, cond-false}
use Rattle.meaning.specs.Sets.{UserSet, members, holders, only, nobody, union, intersection}
use Rattle.trees.specs.declared.nodes.Node.{Node}
use Rattle.trees.specs.declared.nodes.Node.TheVariants.{Role, Permission, User, Nobody, Or, And}
use Rattle.trees.specs.Reading.{postfix}
use Rattle.trees.specs.Trees.{is_join, balanced, decoded, decode, Inverse}

-- the nodes are those of a set
abbrev pub Whole : List Node → Type 0
Whole ns = (t : UserSet) × (ns ≡ postfix t)

abbrev two : (l r : List Node) (n : Node) (ns : List Node) → (l ++ (r ++ n ∷ [])) ++ ns ≡ l ++ (r ++ n ∷ ns)
two l r n ns = append_assoc l (r ++ n ∷ []) ns ∙ ap (λ x. l ++ x) (append_assoc r (n ∷ []) ns)

-- two finished sets and an operator are one finished set
regroup : (p x y : List Node) (n : Node) (ns : List Node) → (p ++ (x ++ (y ++ n ∷ []))) ++ ns ≡ ((p ++ x) ++ y) ++ n ∷ ns
regroup p x y n ns = simp append_assoc

at_two : (h : ℕ) (b : Bool) → cond (ltb (h + 1 + 1) 2) false b ≡ b
at_two h b = cond-false _ _ _ (le-ltb (h + 1 + 1) 2 (omega arith))

less_one : (h : ℕ) (ns : List Node) → balanced (h + 1 + 1 - 1) ns ≡ balanced (h + 1) ns
less_one h ns = let e : h + 1 + 1 - 1 ≡ h + 1 = omega arith in ap (λ x. balanced x ns) e

pub balanced_tree : (t : UserSet) (h : ℕ) (ns : List Node) → balanced h (postfix t ++ ns) ≡ balanced (h + 1) ns
balanced_tree (members n) h ns = refl
balanced_tree (holders n) h ns = refl
balanced_tree (only n) h ns = refl
balanced_tree nobody h ns = refl
balanced_tree (union l r) h ns =
    ap (balanced h) (two (postfix l) (postfix r) Or ns) ∙ balanced_tree l h (postfix r ++ Or ∷ ns) ∙ balanced_tree r (h + 1) (Or ∷ ns) ∙ at_two h _ ∙ less_one h ns
balanced_tree (intersection l r) h ns =
    ap (balanced h) (two (postfix l) (postfix r) And ns) ∙ balanced_tree l h (postfix r ++ And ∷ ns) ∙ balanced_tree r (h + 1) (And ∷ ns) ∙ at_two h _ ∙ less_one h ns

pub whole_balanced : (ns : List Node) → Whole ns → balanced 0 ns ≡ true
whole_balanced ns w = ap (balanced 0) (w.1 ∙ sym (append-nil (postfix w.0))) ∙ balanced_tree w.0 0 []

-- the nodes of the finished sets, the last on top
abbrev flat : List UserSet → List Node
flat [] = []
flat (t ∷ st) = flat st ++ postfix t

pub tree_of : (ns : List Node) (st : List UserSet) (h : ℕ) → h ≡ length st → balanced h ns ≡ true → Whole (flat st ++ ns)
tree_of [] [] h e b = absurd (omega (arith, eqb-true h 1 b))
tree_of [] (t ∷ []) h e b = (t, append-nil (postfix t))
tree_of [] (t ∷ u ∷ st) h e b = absurd (omega (arith, eqb-true h 1 b))
tree_of (Role n ∷ ns) st h e b = subst Whole (append_assoc (flat st) (Role n ∷ []) ns) (tree_of ns (members n ∷ st) (h + 1) (omega arith) b)
tree_of (Permission n ∷ ns) st h e b = subst Whole (append_assoc (flat st) (Permission n ∷ []) ns) (tree_of ns (holders n ∷ st) (h + 1) (omega arith) b)
tree_of (User n ∷ ns) st h e b = subst Whole (append_assoc (flat st) (User n ∷ []) ns) (tree_of ns (only n ∷ st) (h + 1) (omega arith) b)
tree_of (Nobody ∷ ns) st h e b = subst Whole (append_assoc (flat st) (Nobody ∷ []) ns) (tree_of ns (nobody ∷ st) (h + 1) (omega arith) b)
tree_of (Or ∷ ns) [] h e b = absurd (clash (sym (cond-true (ltb h 2) false (balanced (h - 1) ns) (lt-ltb h 2 (omega arith))) ∙ b))
tree_of (Or ∷ ns) (x ∷ []) h e b = absurd (clash (sym (cond-true (ltb h 2) false (balanced (h - 1) ns) (lt-ltb h 2 (omega arith))) ∙ b))
tree_of (Or ∷ ns) (y ∷ x ∷ st) h e b =
    subst Whole (regroup (flat st) (postfix x) (postfix y) Or ns)
    (tree_of ns (union x y ∷ st) (h - 1) (omega arith) (sym (cond-false (ltb h 2) false (balanced (h - 1) ns) (le-ltb h 2 (omega arith))) ∙ b))
tree_of (And ∷ ns) [] h e b = absurd (clash (sym (cond-true (ltb h 2) false (balanced (h - 1) ns) (lt-ltb h 2 (omega arith))) ∙ b))
tree_of (And ∷ ns) (x ∷ []) h e b = absurd (clash (sym (cond-true (ltb h 2) false (balanced (h - 1) ns) (lt-ltb h 2 (omega arith))) ∙ b))
tree_of (And ∷ ns) (y ∷ x ∷ st) h e b =
    subst Whole (regroup (flat st) (postfix x) (postfix y) And ns)
    (tree_of ns (intersection x y ∷ st) (h - 1) (omega arith) (sym (cond-false (ltb h 2) false (balanced (h - 1) ns) (le-ltb h 2 (omega arith))) ∙ b))

pub balanced_whole : (ns : List Node) → balanced 0 ns ≡ true → Whole ns
balanced_whole ns b = tree_of ns [] 0 refl b

pub balanced_end : (ns : List Node) (i h : ℕ) → length ns ≤ i → balanced h (drop i ns) ≡ eqb h 1
balanced_end ns i h l = ap (balanced h) (drop_all i ns l)

leaf_first : (h : ℕ) (n : Node) (ns : List Node) → is_join n ≡ false → balanced h (n ∷ ns) ≡ balanced (h + 1) ns
leaf_first h n ns e = grind arith

join_first : (h : ℕ) (n : Node) (ns : List Node) → is_join n ≡ true → balanced h (n ∷ ns) ≡ cond (ltb h 2) false (balanced (h - 1) ns)
join_first h n ns e = grind arith

-- a turn of the check, at the node of index i
module _ (ns : List Node) (i : ℕ) (d : Node) (lt : i < length ns) where
  turn_balanced : (h : ℕ) → balanced h (drop i ns) ≡ balanced h (get_or ns i d ∷ drop (i + 1) ns)
  turn_balanced h = ap (balanced h) (drop_more ns i d lt)

  pub turn_leaf : (h : ℕ) → is_join (get_or ns i d) ≡ false → balanced h (drop i ns) ≡ balanced (h + 1) (drop (i + 1) ns)
  turn_leaf h e = turn_balanced h ∙ leaf_first h (get_or ns i d) (drop (i + 1) ns) e

  pub turn_low : (h : ℕ) → is_join (get_or ns i d) ≡ true → h < 2 → balanced h (drop i ns) ≡ false
  turn_low h e l = turn_balanced h ∙ join_first h (get_or ns i d) (drop (i + 1) ns) e ∙ cond-true _ _ _ (lt-ltb h 2 l)

  pub turn_join : (h : ℕ) → is_join (get_or ns i d) ≡ true → 2 ≤ h → balanced h (drop i ns) ≡ balanced (h - 1) (drop (i + 1) ns)
  turn_join h e l = turn_balanced h ∙ join_first h (get_or ns i d) (drop (i + 1) ns) e ∙ cond-false _ _ _ (le-ltb h 2 l)

pub refused : (ns : List Node) → balanced 0 ns ≡ false → Whole ns → ⊥
refused ns e w = clash (sym e ∙ whole_balanced ns w)

-- ---- decoding

decoded_set : (t : UserSet) (ns : List Node) (st : List UserSet) → decoded (postfix t ++ ns) st ≡ decoded ns (t ∷ st)
decoded_set (members n) ns st = refl
decoded_set (holders n) ns st = refl
decoded_set (only n) ns st = refl
decoded_set nobody ns st = refl
decoded_set (union a b) ns st = ap (λ l. decoded l st) (two (postfix a) (postfix b) Or ns) ∙ decoded_set a (postfix b ++ Or ∷ ns) st ∙ decoded_set b (Or ∷ ns) (a ∷ st)
decoded_set (intersection a b) ns st = ap (λ l. decoded l st) (two (postfix a) (postfix b) And ns) ∙ decoded_set a (postfix b ++ And ∷ ns) st ∙ decoded_set b (And ∷ ns) (a ∷ st)

some_not : {A : Type 0} (t : UserSet) → None ≡ Some t → A
some_not t e = cc

decoded_back : (ns : List Node) (st : List UserSet) (t : UserSet) → decoded ns st ≡ Some t → flat st ++ ns ≡ postfix t
decoded_back [] [] t e = some_not t e
decoded_back [] (u ∷ []) t e = let q : u ≡ t = cc in append-nil (postfix u) ∙ ap postfix q
decoded_back [] (u ∷ v ∷ st) t e = some_not t e
decoded_back (Role n ∷ ns) st t e = sym (append_assoc (flat st) (Role n ∷ []) ns) ∙ decoded_back ns (members n ∷ st) t e
decoded_back (Permission n ∷ ns) st t e = sym (append_assoc (flat st) (Permission n ∷ []) ns) ∙ decoded_back ns (holders n ∷ st) t e
decoded_back (User n ∷ ns) st t e = sym (append_assoc (flat st) (User n ∷ []) ns) ∙ decoded_back ns (only n ∷ st) t e
decoded_back (Nobody ∷ ns) st t e = sym (append_assoc (flat st) (Nobody ∷ []) ns) ∙ decoded_back ns (nobody ∷ st) t e
decoded_back (Or ∷ ns) [] t e = some_not t e
decoded_back (Or ∷ ns) (b ∷ []) t e = some_not t e
decoded_back (Or ∷ ns) (b ∷ a ∷ st) t e = sym (regroup (flat st) (postfix a) (postfix b) Or ns) ∙ decoded_back ns (union a b ∷ st) t e
decoded_back (And ∷ ns) [] t e = some_not t e
decoded_back (And ∷ ns) (b ∷ []) t e = some_not t e
decoded_back (And ∷ ns) (b ∷ a ∷ st) t e = sym (regroup (flat st) (postfix a) (postfix b) And ns) ∙ decoded_back ns (intersection a b ∷ st) t e

pub inverse : Inverse
inverse = record {
  there = λ t. ap decode (sym (append-nil (postfix t))) ∙ decoded_set t [] [];
  back = λ ns t e. decoded_back ns [] t e;
}
