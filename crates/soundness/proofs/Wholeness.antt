-- Nodes of roles alone.
use Rattle.std.proofs.Common.{◌≡◌, ℕ, suc, ◌<◌, Bool, true, false, ◌&&◌, ltb, List, [], ◌∷◌, ◌++◌, length, get_or, Option, Some, None, is_some, MatchBool, Decides, subst, sym, refl, ap, ◌∙◌, ap₂, not-suc-le-zero, arith}
use Rattle.meaning.specs.Measures.{roles}
use Rattle.meaning.specs.Sets.{UserSet, members, holders, only, nobody, union, intersection}
use Rattle.trees.specs.declared.nodes.Node.{Node}
use Rattle.trees.specs.declared.nodes.Node.TheVariants.{Or, And}
use Rattle.trees.specs.Reading.{Nodes, postfix, nodes_in}
use Rattle.std.proofs.lemmas.List.Folds.{list_all-append}
use Rattle.std.specs.List.{AllWithin, HoldsAt}
use Rattle.meaning.specs.Lists.{Nth}
use Rattle.meaning.proofs.Numbered.{nth_at, at_nth}
use Rattle.trees.specs.declared.tree.UserTree.{UserTree}
use Rattle.trees.specs.Made.{Made}
use Rattle.tables.specs.declared.entries.Needs.TheVariants.{Roles}
use Rattle.soundness.specs.Valid.{Whole, only_roles}
use Rattle.soundness.specs.Checks.{is_role_node, all_roles}

with_true : (a : Bool) → (a && true) ≡ a
with_true true = refl
with_true false = refl

both_alone : (xs ys : List Node) (n : Node) → is_role_node n ≡ true → all_roles (xs ++ (ys ++ n ∷ [])) ≡ (all_roles xs && all_roles ys)
both_alone xs ys n is = list_all-append is_role_node xs (ys ++ n ∷ []) ∙ ap (λ b. all_roles xs && b) (list_all-append is_role_node ys (n ∷ []) ∙ ap (λ b. all_roles ys && (b && true)) is ∙ with_true (all_roles ys))

-- the nodes of a set are roles and operators where the set is one of roles alone
pub alone_is : (x : UserSet) → all_roles (postfix x) ≡ only_roles x
alone_is (members n) = with_true (ltb n roles)
alone_is (holders n) = refl
alone_is (only n) = refl
alone_is nobody = refl
alone_is (union a b) = both_alone (postfix a) (postfix b) Or refl ∙ ap₂ (λ (p q : Bool). p && q) (alone_is a) (alone_is b)
alone_is (intersection a b) = both_alone (postfix a) (postfix b) And refl ∙ ap₂ (λ (p q : Bool). p && q) (alone_is a) (alone_is b)

-- a set's nodes, all of them roles and operators
pub whole_told : (n : Nodes) (t : UserSet) (r : Bool) → nodes_in n ≡ postfix t → r ≡ all_roles (nodes_in n) → Decides r ((x : UserSet) × (nodes_in n ≡ postfix x) × (only_roles x ≡ true))
whole_told n t r is told = (
  (λ e. (t, is, sym (alone_is t) ∙ ap all_roles (sym is) ∙ sym told ∙ e)),
  λ (x, same, alone). told ∙ ap all_roles same ∙ alone_is x ∙ alone,
)

pub made_told : (n : Nodes) (o : Option UserTree) (r : Bool) (ns : List Node) → Made n o → true ≡ is_some o → ns ≡ nodes_in n → r ≡ all_roles ns → Decides r (Whole (Roles n))
made_told n (Some u) r ns made some is told = whole_told n made.1.0 r made.1.1 (told ∙ ap all_roles is)
made_told n None r ns made some is told = cc

-- entries that all passed, or one that did not
pub all_decided : {A : Type 0} (P : A → Type 0) (xs : List A) (r : Bool) → MatchBool r (AllWithin P xs 0 (length xs)) ((k : ℕ) × (k < length xs) × HoldsAt (λ x. P x → ⊥) xs k) → Decides r ((k : ℕ) (e : A) → Nth k e xs → P e)
all_decided P xs true all = ((λ _ k e n. let (i, _, l, at) = at_nth e n in subst P at (all i e (omega arith) l)), λ _. refl)
all_decided P [] false (k, l, fails) = absurd (not-suc-le-zero l)
all_decided P (y ∷ ys) false (k, l, fails) = ((λ e. cc), λ all. absurd (fails y (all (suc k) (get_or (y ∷ ys) k y) (nth_at y (y ∷ ys) k l))))
