-- A text begins with one small set only.
use Rattle.std.proofs.Common.{◌≡◌, ℕ, List, Some, sym, ap, ◌∙◌}
use Rattle.meaning.specs.Sets.{UserSet}
use Rattle.grammar.specs.Phrase.{meaning}
use Rattle.trees.specs.Reading.{postfix, ok, OneReading}
use Rattle.trees.specs.Trees.{decode}
use Rattle.trees.proofs.Build.{whole}
use Rattle.trees.proofs.Whole.{inverse}

same_tree : (t u : UserSet) → postfix t ≡ postfix u → t ≡ u
same_tree t u e = let h : Some t ≡ Some u = sym (inverse.there t) ∙ ap decode e ∙ inverse.there u in cc

pub one_reading : (k : ℕ) (s : List ℕ) → OneReading k s
one_reading k s x y p q g h v w e f =
    let o : ok x (postfix (meaning p)) ≡ ok y (postfix (meaning q)) = sym (whole p k s x v e g) ∙ whole q k s y w f h in
    (same_tree (meaning p) (meaning q) (cc), cc)
