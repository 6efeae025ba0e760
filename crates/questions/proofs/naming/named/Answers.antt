use Rattle.std.proofs.Common.{◌≡◌, List, length, count_by, sym, ap, ◌∙◌, subst, rules}
use Rattle.std.proofs.lemmas.List.Sums.{length-filter}
use Rattle.trees.specs.declared.nodes.Node.{Node}
use Rattle.questions.specs.Naming.{users_in, is_named, is_inside, AllInside}
use Rattle.questions.proofs.Names.{users_counted, all_inside}
use Rattle.questions.proofs.naming.named.Goals as goal

pub returns-clause-many : goal.returns-clause-many
returns-clause-many c =
    let nodes = c.entries-nodes.result.now in
    let many : c.count.result ≡ count_by is_named nodes = search rules in
    many ∙ sym (length-filter is_named nodes) ∙ users_counted nodes ∙ ap (λ ns. length (users_in ns)) c.entries-nodes.ensures.all

pub returns-clause-inside : goal.returns-clause-inside
returns-clause-inside c =
    let nodes = c.entries-nodes.result.now in
    let many : c.count.result ≡ count_by is_named nodes = search rules in
    let inside : c.count.result ≡ count_by is_inside nodes = search rules in
    subst (λ (ns : List Node). AllInside (users_in ns)) c.entries-nodes.ensures.all (all_inside nodes (length-filter is_named nodes ∙ sym many ∙ inside ∙ sym (length-filter is_inside nodes)))
