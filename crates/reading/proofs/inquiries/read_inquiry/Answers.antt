use Rattle.std.proofs.Common.{ap₂}
use mathlib.Core.Path.{subst⁻¹}
use Rattle.meaning.specs.Sets.{Question}
use Rattle.meaning.specs.declared.terms.Kind.{Kind}
use Rattle.reading.proofs.Posing.{by_nodes}
use Rattle.reading.proofs.inquiries.read_inquiry.Goals as goal
use Rattle.book.specs.Says.{Poses}
use Rattle.tables.specs.View.{stored_question}

pub unreachable-requires : goal.unreachable-requires
unreachable-requires c =
    let (clean, told) = c.in_ok-kind.ensures in
    let (f, said, asks) = told.some in c.in-None.ensures (by_nodes c.args.text.now clean c.read_question.new.extra c.in_ok-kind.kind f said asks).posable

pub returns : goal.returns
returns c =
    let (clean, told) = c.in_ok-kind.ensures in
    let (f, said, asks) = told.some in
    let made = c.in-Some.ensures in
    record {
      faultless = clean;
      sentence = f;
      said = said;
      poses = subst⁻¹ (λ (k : Kind). Poses f k (stored_question c.in-Some.inquiry.larger.nodes c.in-Some.inquiry.smaller.nodes)) made.kind_is
          (subst⁻¹ (λ (q : Question). Poses f c.in_ok-kind.kind q) (ap₂ stored_question made.larger_is made.smaller_is) (by_nodes c.args.text.now clean c.read_question.new.extra c.in_ok-kind.kind f said asks).poses);
    }
