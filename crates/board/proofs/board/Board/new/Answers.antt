use Rattle.std.proofs.Common.{List, ap, ◌∙◌, subst}
use mathlib.Core.Path.{subst⁻¹}
use Rattle.meaning.specs.Lists.{Nth}
use Rattle.meaning.specs.Requirements.{Requirement}
use Rattle.tables.specs.declared.tables.Tables.{Tables}
use Rattle.book.specs.Book.{Book}
use Rattle.drafts.specs.Neat.{Neat}
use Rattle.drafts.specs.View.{book_of}
use Rattle.drafts.proofs.Blank.{no_entry}
use Rattle.board.proofs.board.Board.new.Goals as goal

pub invariant_of-result : goal.invariant_of-result
invariant_of-result c =
    let same = c.in-Ok.ensures.0 in
    record {
      neat = subst⁻¹ (λ (t : Tables). (Neat t → ⊥) → ⊥) same c.blank-draft.result.neat;
      lasting = (λ k d n deny. no_entry (subst (λ (ds : List Requirement). Nth k d ds) (ap (λ (b : Book). b.requirements) (ap book_of same ∙ c.blank-draft.ensures)) n));
    }
