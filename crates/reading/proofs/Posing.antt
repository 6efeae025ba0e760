-- A sentence that asks poses a question that can be asked.
use Rattle.std.proofs.Common.{◌≡◌, ℕ, Bool, true, false, List, refl, ap₂}
use mathlib.Core.Path.{subst⁻¹}
use Rattle.meaning.specs.Sets.{UserSet, Question, Askable}
use Rattle.meaning.specs.declared.terms.Kind.{Kind}
use Rattle.meaning.specs.declared.terms.Kind.TheVariants as Asking
use Rattle.grammar.specs.declared.grounds.Ground.TheVariants.{Range, Measure, NotSemiStatic}
use Rattle.grammar.specs.Phrase.{meaning}
use Rattle.lines.specs.declared.change.Extra.{Extra}
use Rattle.lines.specs.declared.keyword.Keyword.TheVariants.{Possible, Necessary}
use Rattle.lines.specs.Bodies.{Sides, question_of}
use Rattle.lines.specs.Languages.{Says}
use Rattle.lines.specs.Lines.{Sentence, questions}
use Rattle.texts.specs.declared.faults.Fault.{Fault}
use Rattle.texts.specs.declared.faults.Fault.TheVariants.{InLine}
use Rattle.texts.specs.Answers.{Faulty}
use Rattle.survey.proofs.Askable.{sides_askable}
use Rattle.tables.specs.View.{set_of}
use Rattle.tables.specs.View as View
use Rattle.questions.specs.Inquired.{Posable}
use Rattle.drafts.proofs.Sets.{set_is}
use Rattle.book.specs.Says.{Poses, possibly, necessarily}
use Rattle.lines.specs.Changes.{Sided}
use Rattle.texts.specs.Sentences.{Asks, asks_possible, asks_necessary}

is_so : (b : Bool) → (b ≡ false → ⊥) → b ≡ true
is_so true f = refl
is_so false f = absurd (f refl)

module _ (text : List ℕ) (faultless : (d : Fault) → Faulty questions text d → ⊥) where
  -- what is asked of the two sides of a sentence is not refused
  passes : (f : Sentence) → Says questions text f → (questions.ranged f ≡ true) × (questions.small f ≡ true) × (questions.semi_static f ≡ true)
  passes f s = (
    is_so (questions.ranged f) (λ e. faultless (InLine Range 1) (refl, (f, s, e))),
    is_so (questions.small f) (λ e. faultless (InLine Measure 1) (refl, (f, s, e))),
    is_so (questions.semi_static f) (λ e. faultless (InLine NotSemiStatic 1) (refl, (f, s, e))),
  )

  -- what a sentence poses by the nodes beside it
  pub record ByNodes (e : Extra) (kind : Kind) (f : Sentence) : Type 0 where
    pub posable : Posable e.left e.right
    pub poses : Poses f kind (View.stored_question e.left e.right)

  same_question : (x : Sides) (e : Extra) → Sided x e → View.stored_question e.left e.right ≡ question_of x
  same_question x e s =
      let make : UserSet → UserSet → Question = λ a b. record { larger = a; smaller = b } in
      ap₂ make (set_is e.left (meaning x.larger) s.left) (set_is e.right (meaning x.smaller) s.right)

  pub by_nodes : (e : Extra) (kind : Kind) (f : Sentence) → Says questions text f → Asks e kind f → ByNodes e kind f
  by_nodes e kind f said (asks_possible {x = x} s) =
      let (ranged, small, static) = passes (record { keyword = Possible; body = x }) said in
      record {
        posable = record { larger_set = (meaning x.larger, s.left); smaller_set = (meaning x.smaller, s.right); askable = subst⁻¹ Askable (same_question x e s) (sides_askable x ranged small static) };
        poses = subst⁻¹ (λ (q : Question). Poses (record { keyword = Possible; body = x }) Asking.Possible q) (same_question x e s) (possibly {x = x});
      }
  by_nodes e kind f said (asks_necessary {x = x} s) =
      let (ranged, small, static) = passes (record { keyword = Necessary; body = x }) said in
      record {
        posable = record { larger_set = (meaning x.larger, s.left); smaller_set = (meaning x.smaller, s.right); askable = subst⁻¹ Askable (same_question x e s) (sides_askable x ranged small static) };
        poses = subst⁻¹ (λ (q : Question). Poses (record { keyword = Necessary; body = x }) Asking.Necessary q) (same_question x e s) (necessarily {x = x});
      }
