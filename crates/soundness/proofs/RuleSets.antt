-- What is so of all entries is so of the first and of the others; and a board's conditions are sets.
use Rattle.std.proofs.Common.{◌≡◌, suc, true, List, ◌∷◌, refl, subst}
use Rattle.meaning.specs.Lists.{first, later}
use Rattle.trees.proofs.Whole.{whole_balanced}
use Rattle.tables.specs.declared.entries.Needs.{Needs}
use Rattle.tables.specs.declared.entries.Needs.TheVariants.{Everybody, Roles}
use Rattle.tables.specs.declared.entries.AssignEntry.{AssignEntry}
use Rattle.bounded.specs.Entries.{entries}
use Rattle.soundness.specs.declared.valid.Valid.{Valid}
use Rattle.soundness.specs.Valid.{Whole}
use Rattle.soundness.specs.Rules.{is_set, AllSets}
use Rattle.soundness.proofs.Stable.{sound}
use Rattle.trees.specs.Reading.{nodes_in}

pub head : (es : List AssignEntry) (x : AssignEntry) (xs : List AssignEntry) → es ≡ x ∷ xs → AllSets es → is_set x.needs ≡ true
head es x xs e h = subst AllSets e h 1 x first

pub tail : (es : List AssignEntry) (x : AssignEntry) (xs : List AssignEntry) → es ≡ x ∷ xs → AllSets es → AllSets xs
tail es x xs e h k y n = subst AllSets e h (suc k) y (later n)

whole_set : (n : Needs) → Whole n → is_set n ≡ true
whole_set Everybody w = refl
whole_set (Roles n) (x, e, _) = whole_balanced (nodes_in n) (x, e)

pub all_sets : (b : Valid) → AllSets (entries b.tables.assigns)
all_sets b k e n = whole_set e.needs ((sound b).conditions k e n)
