-- Static sets have nodes that ask nothing of roles.
use Rattle.std.proofs.Common.{◌≡◌, Bool, true, false, ◌&&◌, List, [], ◌∷◌, ◌++◌, Decides, sym, refl, ap, ◌∙◌, subst, ap₂}
use mathlib.Core.Path.{subst⁻¹}
use Rattle.std.proofs.lemmas.Bool.{both_ways}
use Rattle.std.proofs.lemmas.List.Folds.{list_all-append}
use Rattle.meaning.specs.Sets.{UserSet, members, holders, only, nobody, union, intersection, Static}
use Rattle.trees.specs.declared.nodes.Node.{Node}
use Rattle.trees.specs.declared.nodes.Node.TheVariants.{Or, And}
use Rattle.trees.specs.Reading.{Nodes, postfix, nodes_in as nodes_of}
use Rattle.trees.specs.Trees.{balanced, decode}
use Rattle.trees.proofs.Whole.{balanced_whole, inverse}
use Rattle.tables.specs.View.{set_of, or_nobody}
use Rattle.questions.specs.Statics.{still, all_still}

and_on : (a b : Bool) → (a && (b && (true && true))) ≡ (a && b)
and_on true true = refl
and_on true false = refl
and_on false b = refl

two_parts : (x y : UserSet) (n : Node) → still n ≡ true → all_still (postfix x ++ (postfix y ++ n ∷ [])) ≡ (all_still (postfix x) && all_still (postfix y))
two_parts x y n e =
    list_all-append still (postfix x) (postfix y ++ n ∷ []) ∙ ap (λ b. all_still (postfix x) && b) (list_all-append still (postfix y) (n ∷ []) ∙ ap (λ b. all_still (postfix y) && (b && true)) e)
    ∙ and_on (all_still (postfix x)) (all_still (postfix y))

parts : (a b : Bool) → (a && b) ≡ true → (a ≡ true) × (b ≡ true)
parts true b e = (refl, e)
parts false b e = absurd (both_ways false refl e)

pub still_static : (x : UserSet) → all_still (postfix x) ≡ true → Static x
still_static (members r) e = both_ways false refl e
still_static (holders n) e = both_ways false refl e
still_static (only u) e = tt
still_static nobody e = tt
still_static (union x y) e = let (a, b) = parts (all_still (postfix x)) (all_still (postfix y)) (sym (two_parts x y Or refl) ∙ e) in (still_static x a, still_static y b)
still_static (intersection x y) e = let (a, b) = parts (all_still (postfix x)) (all_still (postfix y)) (sym (two_parts x y And refl) ∙ e) in (still_static x a, still_static y b)

pub static_still : (x : UserSet) → Static x → all_still (postfix x) ≡ true
static_still (members r) h = absurd h
static_still (holders n) h = absurd h
static_still (only u) h = refl
static_still nobody h = refl
static_still (union x y) h = two_parts x y Or refl ∙ ap₂ ◌&&◌ (static_still x h.0) (static_still y h.1)
static_still (intersection x y) h = two_parts x y And refl ∙ ap₂ ◌&&◌ (static_still x h.0) (static_still y h.1)

pub static_told : (n : Nodes) → balanced 0 (nodes_of n) ≡ true → (r : Bool) (ns : List Node) → ns ≡ nodes_of n → r ≡ all_still ns → Decides r (Static (set_of n))
static_told n w r ns read is = (
  (λ e. subst⁻¹ Static set_is (still_static x (ap all_still (sym (read ∙ nodes_are)) ∙ sym is ∙ e))),
  λ h. is ∙ ap all_still (read ∙ nodes_are) ∙ static_still x (subst Static set_is h),
)
  where
    x : UserSet
    x = (balanced_whole (nodes_of n) w).0

    nodes_are : nodes_of n ≡ postfix x
    nodes_are = (balanced_whole (nodes_of n) w).1

    set_is : set_of n ≡ x
    set_is = ap or_nobody (ap decode nodes_are ∙ inverse.there x)
