-- The line of an entry is that of the rule or the requirement that it says.
use Rattle.std.proofs.Common.{◌≡◌, true, List, ◌++◌, Some, None, codes, decimal, Option, sym, refl, ap, ◌∙◌, ap₂}
use Rattle.std.proofs.lemmas.Bool.{and_parts, and_from}
use Rattle.meaning.specs.Measures.{roles as all_roles}
use Rattle.meaning.specs.Sets.{UserSet, members, holders, only, nobody, union, intersection, as_condition}
use Rattle.grammar.specs.Phrase.{render}
use Rattle.grammar.specs.Phrase.{roles_alone as of_roles}
use Rattle.trees.specs.Reading.{Nodes, nodes_in}
use Rattle.trees.specs.declared.nodes.Node.{Node}
use Rattle.lines.proofs.Rowing.{some_is, no_some}
use Rattle.rbac.specs.Roles.{roles_of}
use Rattle.pen.specs.Ascending.{ascending}
use Rattle.pen.specs.Canon.{as_set}
use Rattle.saving.specs.Canonical as S
use Rattle.saving.specs.Canonical.{canonical, Trees, text_of}
use Rattle.saving.proofs.Laying.{text_is}
use Rattle.tables.specs.declared.entries.Needs.{Needs}
use Rattle.tables.specs.declared.entries.Needs.TheVariants.{Everybody, Roles}
use Rattle.tables.specs.declared.entries.AssignEntry.{AssignEntry}
use Rattle.tables.specs.View.{set_of, condition_of, assign_of, stored_question}
use Rattle.soundness.specs.Valid.{Whole, only_roles}
use Rattle.drafts.specs.Neat.{OfSet}
use Rattle.drafts.proofs.Sets.{set_is}
use Rattle.boardtext.specs.Canonical.{condition_text, assign_text, question_text}
use Rattle.boardtext.proofs.Saying.{text_is as condition_is}
use Rattle.lines.specs.Entries.{entry_bytes}

alone : (t : UserSet) → only_roles t ≡ true → of_roles t ≡ true
alone (members r) h = refl
alone (holders n) h = h
alone (only u) h = h
alone nobody h = h
alone (union a b) h = let p = and_parts (only_roles a) (only_roles b) h in and_from _ _ (alone a p.0) (alone b p.1)
alone (intersection a b) h = let p = and_parts (only_roles a) (only_roles b) h in and_from _ _ (alone a p.0) (alone b p.1)

-- the tree that lies beside an assign rule's line
abbrev pub Tree : Needs → Option Nodes → Type 0
Tree Everybody tree = tree ≡ None
Tree (Roles n) tree = tree ≡ Some n

condition_same : (needs : Needs) (tree : Option Nodes) → Tree needs tree → Whole needs → S.condition_text tree ≡ condition_text (condition_of needs)
condition_same Everybody tree e h = ap S.condition_text e
condition_same (Roles n) tree e (x, is, a) =
    ap S.condition_text e ∙ sym (text_is n x is) ∙ sym (condition_is x (alone x a)) ∙ ap (λ t. condition_text (as_condition t)) (sym (set_is n x is))

pub condition_tree : (needs : Needs) (tree : Option Nodes) → Tree needs tree → Whole needs → (ns : Nodes) → tree ≡ Some ns → S.Whole ns
condition_tree Everybody tree e h ns f = no_some ns (sym e ∙ f)
condition_tree (Roles n) tree e (x, is, a) ns f = let same : n ≡ ns = some_is n ns (sym e ∙ f) in (x, ap listed_of (sym same) ∙ is)
  where
    listed_of : Nodes → List Node
    listed_of k = nodes_in k

pub assign_line : (entry : AssignEntry) (tree : Option Nodes) → Tree entry.needs tree → Whole entry.needs →
    codes "assign r" ++ (decimal entry.admin.number ++ (codes " : " ++ (S.condition_text tree ++ (codes " :" ++ entry_bytes 114 (ascending (roles_of entry.targets) all_roles))))) ≡ assign_text (assign_of entry)
assign_line entry tree t h =
    ap (λ s. codes "assign r" ++ (decimal entry.admin.number ++ (codes " : " ++ (s ++ (codes " :" ++ entry_bytes 114 (ascending (roles_of entry.targets) all_roles)))))) (condition_same entry.needs tree t h)

-- ---- two sides

side_same : (n : Nodes) → OfSet n → text_of n ≡ render (as_set (set_of n))
side_same n (x, is) = sym (text_is n x is) ∙ ap (λ t. render (as_set t)) (sym (set_is n x is))

pub sides_same : (larger smaller : Nodes) → OfSet larger × OfSet smaller → text_of larger ++ (codes " >= " ++ text_of smaller) ≡ question_text (stored_question larger smaller)
sides_same larger smaller h = ap₂ (λ a b. a ++ (codes " >= " ++ b)) (side_same larger h.0) (side_same smaller h.1)
