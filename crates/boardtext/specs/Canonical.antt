-- The one canonical text of a whole board, in the words of its book.
use Rattle.std.specs.Prelude.{ℕ, zero, suc, List, [], ◌∷◌, ◌++◌, codes, decimal}
use Rattle.meaning.specs.Measures.{users, roles, permissions}
use Rattle.meaning.specs.Membership.{Row}
use Rattle.meaning.specs.Rules.{Condition, everybody, in_role, both, either, AssignRule, RevokeRule, aatu, aar, Regime as RegimeMeant}
use Rattle.meaning.specs.Sets.{UserSet, members, nobody, union, intersection, Question}
use Rattle.meaning.specs.Requirements.{Requirement, always, never}
use Rattle.meaning.specs.declared.terms.Regime.TheVariants.{Aatu, Aar}
use Rattle.grammar.specs.Phrase.{render}
use Rattle.texts.specs.Board.{mark_line, regime_line}
use Rattle.pen.specs.Ascending.{ascending}
use Rattle.pen.specs.Canon.{as_set}
use Rattle.book.specs.Book.{Book}
use Rattle.lines.specs.Entries.{entry_bytes}

-- a line, and the byte that ends it
abbrev pub ended : List ℕ → List ℕ
ended line = line ++ 10 ∷ []

-- one line for each entry of a list, in order
abbrev pub each : {A : Type 0} → (A → List ℕ) → List A → List ℕ
each text [] = []
each text (x ∷ xs) = ended (text x) ++ each text xs

-- ---- who is assigned what, what is given to whom, who is senior to whom

-- the line of a number and the roles beside it; where there are none there is no line
abbrev pub row_line : List ℕ → ℕ → List ℕ → List ℕ
row_line word n [] = []
row_line word n (r ∷ rs) = ended (word ++ (decimal n ++ entry_bytes 114 (r ∷ rs)))

-- the lines of the numbers below a limit, ascending, and so the roles of each
unfoldable pub row_lines : List ℕ → (ℕ → Row) → ℕ → List ℕ
row_lines word f zero = []
row_lines word f (suc n) = row_lines word f n ++ row_line word n (ascending (f n) roles)

-- ---- who is trusted

abbrev pub trust_line : List ℕ → List ℕ
trust_line [] = []
trust_line (u ∷ us) = ended (codes "trust" ++ entry_bytes 117 (u ∷ us))

-- ---- rules and requirements

-- the set that meets a condition; no set is `true`, which stands alone
abbrev pub set_of_condition : Condition → UserSet
set_of_condition everybody = nobody
set_of_condition (in_role r) = members r
set_of_condition (both c d) = intersection (set_of_condition c) (set_of_condition d)
set_of_condition (either c d) = union (set_of_condition c) (set_of_condition d)

abbrev pub condition_text : Condition → List ℕ
condition_text everybody = codes "true"
condition_text (in_role r) = render (as_set (set_of_condition (in_role r)))
condition_text (both c d) = render (as_set (set_of_condition (both c d)))
condition_text (either c d) = render (as_set (set_of_condition (either c d)))

abbrev pub assign_text : AssignRule → List ℕ
assign_text rule = codes "assign r" ++ (decimal rule.admin ++ (codes " : " ++ (condition_text rule.condition ++ (codes " :" ++ entry_bytes 114 (ascending rule.targets roles)))))

abbrev pub revoke_text : RevokeRule → List ℕ
revoke_text rule = codes "revoke r" ++ (decimal rule.admin ++ (codes " :" ++ entry_bytes 114 (ascending rule.targets roles)))

abbrev pub question_text : Question → List ℕ
question_text q = render (as_set q.larger) ++ (codes " >= " ++ render (as_set q.smaller))

abbrev pub requirement_text : Requirement → List ℕ
requirement_text (always q) = codes "always " ++ question_text q
requirement_text (never q) = codes "never " ++ question_text q

-- ---- the whole board

abbrev pub regime_text : RegimeMeant → List ℕ
regime_text aatu = regime_line Aatu
regime_text aar = regime_line Aar

-- the lines behind the regime
abbrev pub board_lines : Book → List ℕ
board_lines b =
    row_lines (codes "ua u") b.state users
    ++ (row_lines (codes "pa p") b.policy.gives permissions
    ++ (row_lines (codes "rh r") b.policy.edge roles
    ++ (trust_line (ascending b.policy.trusted users)
    ++ (each assign_text b.policy.assigns ++ (each revoke_text b.policy.revokes ++ each requirement_text b.requirements)))))

abbrev pub canonical_board : Book → List ℕ
canonical_board b = mark_line ++ (regime_text b.policy.regime ++ board_lines b)
