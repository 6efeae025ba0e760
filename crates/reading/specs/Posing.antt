-- What a question poses.
use Rattle.std.specs.Prelude.{ℕ, ◌<◌, List, Ok, Err, Result}
use Rattle.meaning.specs.Sets.{Question}
use Rattle.meaning.specs.declared.terms.Kind.{Kind}
use Rattle.meaning.specs.declared.terms.Kind.TheVariants.{Possible, Necessary}
use Rattle.lines.specs.Bodies.{Sides, question_of}
use Rattle.lines.specs.Languages.{Says}
use Rattle.lines.specs.Lines.{Sentence, questions}
use Rattle.lines.specs.declared.keyword.Keyword.TheVariants as keyword
use Rattle.texts.specs.declared.faults.Fault.{Fault}
use Rattle.texts.specs.Answers.{told, Faulty}
use Rattle.questions.specs.declared.inquiry.Inquiry.{Inquiry}
use Rattle.questions.specs.Inquired.{inquired}
use Rattle.book.specs.Says.{Poses}

-- the text is a sentence that poses this question, and nothing is to be refused
pub record PosedBy (text : List ℕ) (kind : Kind) (q : Question) : Type 0 where
  pub faultless : (d : Fault) → Faulty questions text d → ⊥
  pub sentence : Sentence
  pub said : Says questions text sentence
  pub poses : Poses sentence kind q

-- this fault, and none of a smaller number
pub record FaultyBy (text : List ℕ) (f : Fault) : Type 0 where
  pub faulty : Faulty questions text f
  pub least : (d : Fault) → (told d).number < (told f).number → Faulty questions text d → ⊥

abbrev pub Posed : List ℕ → Result Inquiry Fault → Type 0
Posed text (Ok x) = PosedBy text x.kind (inquired x)
Posed text (Err f) = FaultyBy text f
