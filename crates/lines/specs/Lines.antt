-- Lines, questions and changes as they are written.
use Rattle.std.specs.Prelude.{◌≡◌, ℕ, Bool, true, false, List, [], ◌++◌, codes}
use Rattle.meaning.specs.Measures as measures
use Rattle.lines.specs.declared.keyword.Keyword.{Keyword}
use Rattle.lines.specs.declared.keyword.Keyword.TheVariants.{Ua, Pa, Rh, Trust, Assign, Revoke, Always, Never, Possible, Necessary}
use Rattle.lines.specs.Languages.{Language}
use Rattle.lines.specs.Bodies.{role_listings, trusts, assigns, sides}

-- the word that a line or a question begins with
abbrev pub word : Keyword → List ℕ
word Ua = codes "ua"
word Pa = codes "pa"
word Rh = codes "rh"
word Trust = codes "trust"
word Assign = codes "assign"
word Revoke = codes "revoke"
word Always = codes "always"
word Never = codes "never"
word Possible = codes "possible"
word Necessary = codes "necessary"

-- what stands behind it
abbrev pub bodies : Keyword → Language
bodies Ua = role_listings 117 measures.users []
bodies Pa = role_listings 112 measures.permissions []
bodies Rh = role_listings 114 measures.roles []
bodies Trust = trusts
bodies Assign = assigns
bodies Revoke = role_listings 114 measures.roles (codes " :")
bodies Always = sides
bodies Never = sides
bodies Possible = sides
bodies Necessary = sides

-- `possible` and `necessary` begin questions, the other words begin lines of a board
abbrev pub asks : Keyword → Bool
asks Possible = true
asks Necessary = true
asks k = false

-- a line or a question: a word and what stands behind it
pub record Sentence : Type 0 where
  pub keyword : Keyword
  pub body : (bodies keyword).Form

-- lines of a board where `question` is false, questions where it is true
abbrev pub sentences : Bool → Language
sentences question = record {
  Form = Sentence;
  bytes = λ x. word x.keyword ++ (bodies x.keyword).bytes x.body;
  proper = λ x. (asks x.keyword ≡ question) × (bodies x.keyword).proper x.body;
  ranged = λ x. (bodies x.keyword).ranged x.body;
  small = λ x. (bodies x.keyword).small x.body;
  semi_static = λ x. (bodies x.keyword).semi_static x.body;
}

abbrev pub lines : Language
lines = sentences false

abbrev pub questions : Language
questions = sentences true

-- a line that nothing refuses
pub record Fine (x : Sentence) : Type 0 where
  pub proper : lines.proper x
  pub ranged : lines.ranged x ≡ true
  pub small : lines.small x ≡ true
  pub semi_static : lines.semi_static x ≡ true
