-- Tables that cannot fail to be neat are neat: everything that is asked of them can be told.
use Rattle.std.proofs.Common.{◌≡◌, Bool, true, false, map, refl, sym, ap, ◌∙◌}
use borrow.Author.Tests.{clash}
use Rattle.trees.specs.Reading.{Nodes, nodes_in}
use Rattle.trees.specs.Trees.{balanced}
use Rattle.trees.proofs.Whole.{whole_balanced, balanced_whole}
use Rattle.lines.specs.Entries.{repeats}
use Rattle.lines.specs.Lists.{number_of}
use Rattle.bounded.specs.Entries.{entries}
use Rattle.tables.specs.declared.entries.Needs.{Needs}
use Rattle.tables.specs.declared.entries.Needs.TheVariants.{Everybody, Roles}
use Rattle.tables.specs.declared.tables.Tables.{Tables}
use Rattle.soundness.specs.Valid.{Whole, only_roles}
use Rattle.drafts.specs.View.{book_of}
use Rattle.drafts.specs.Neat.{OfSet, Neat}
use Rattle.drafts.proofs.Sets.{set_is}
use Rattle.boardtext.proofs.Surely.{Sure, sure_true, sure_both, orderly_surely}

sure_false : (b : Bool) → Sure (b ≡ false) → b ≡ false
sure_false true s = absurd (s (λ e. clash (sym e)))
sure_false false s = refl

sure_set : (n : Nodes) → Sure (OfSet n) → OfSet n
sure_set n s = balanced_whole (nodes_in n) (sure_true (balanced 0 (nodes_in n)) (λ no. s (λ h. no (whole_balanced (nodes_in n) h))))

sure_needs : (n : Needs) → Sure (Whole n) → Whole n
sure_needs Everybody s = tt
sure_needs (Roles n) s =
    let (x, is) = sure_set n (λ no. s (λ (y, same, alone). no (y, same))) in
    (x, is, sure_true (only_roles x) (λ no. s (λ (y, same, alone). no (ap only_roles (sym (set_is n x is) ∙ set_is n y same) ∙ alone))))

pub neat_surely : (t : Tables) → ((Neat t → ⊥) → ⊥) → Neat t
neat_surely t s = record {
  needs_whole = λ k e h. sure_needs e.needs (λ no. s (λ n. no (n.needs_whole k e h)));
  sides_whole = λ k e h. sure_both (sure_set e.larger) (sure_set e.smaller) (λ no. s (λ n. no (n.sides_whole k e h)));
  trusted_once = sure_false (repeats (map number_of (entries t.trusted))) (λ no. s (λ n. no n.trusted_once));
  orderly = orderly_surely (book_of t) (λ no. s (λ n. no n.orderly));
}
