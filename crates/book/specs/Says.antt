-- What a written line names.
use Rattle.meaning.specs.Rules.{AssignRule, RevokeRule}
use Rattle.meaning.specs.Requirements.{always, never}
use Rattle.meaning.specs.Lists.{listed}
use Rattle.lines.specs.Bodies.{roles_in, users_in, Assigning, condition, question_of, Sides, RoleListing}
use Rattle.lines.specs.Lines.{Sentence, bodies}
use Rattle.lines.specs.declared.keyword.Keyword.{Keyword}
use Rattle.lines.specs.declared.keyword.Keyword.TheVariants.{Ua, Pa, Rh, Trust, Assign, Revoke, Always, Never, Possible, Necessary}
use Rattle.book.specs.Book.{Entry, pairs, gifts, edges, trusts, assigns, revokes, requires}
use Rattle.meaning.specs.Sets.{Question}
use Rattle.meaning.specs.declared.terms.Kind.{Kind}
use Rattle.meaning.specs.declared.terms.Kind.TheVariants as kind

abbrev pub assign_rule : Assigning → AssignRule
assign_rule x = record { admin = x.row.subject; condition = condition x.clause; targets = listed (roles_in x.row) }

abbrev pub revoke_rule : RoleListing → RevokeRule
revoke_rule x = record { admin = x.subject; targets = listed (roles_in x) }

-- by its keyword; the two words of questions begin no line of a board, and stand here only since a sentence may have them
abbrev pub entry_of : (k : Keyword) → (bodies k).Form → Entry
entry_of Ua x = pairs x.subject (roles_in x)
entry_of Pa x = gifts x.subject (roles_in x)
entry_of Rh x = edges x.subject (roles_in x)
entry_of Trust x = trusts (users_in x)
entry_of Assign x = assigns (assign_rule x) (roles_in x.row)
entry_of Revoke x = revokes (revoke_rule x) (roles_in x)
entry_of Always x = requires (always (question_of x))
entry_of Never x = requires (never (question_of x))
entry_of Possible x = requires (always (question_of x))
entry_of Necessary x = requires (always (question_of x))

abbrev pub line_entry : Sentence → Entry
line_entry f = entry_of f.keyword f.body

-- the kind of a question, and what is asked
pub data Poses : Sentence → Kind → Question → Type 0 where
  possibly : {x : Sides} → Poses (record { keyword = Possible; body = x }) kind.Possible (question_of x)
  necessarily : {x : Sides} → Poses (record { keyword = Necessary; body = x }) kind.Necessary (question_of x)
