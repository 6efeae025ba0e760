-- No byte of a line ends it.
use Rattle.std.proofs.Common.{◌≡◌, ℕ, ◌<◌, ◌≤◌, true, not, leb, List, [], ◌∷◌, ◌++◌, codes, decimal, refl, ap, arith, leb-true, ne_eqb}
use Rattle.std.proofs.lemmas.Bool.{and_parts, and_from}
use Rattle.std.specs.Str.{all_ascii_digits}
use Rattle.std.proofs.lemmas.Fmt.{digits_decimal}
use Rattle.meaning.specs.Measures as measures
use Rattle.grammar.specs.Text.{number_limit, is_digit}
use Rattle.grammar.specs.Phrase.{Kind, Phrase, one, or, lone, and, a_role, a_permission, no_users, braces, parens, a_user, also, render, meaning, Short}
use Rattle.grammar.proofs.Numbers.{own}
use Rattle.lines.specs.Entries.{AllShort, entry_bytes}
use Rattle.lines.specs.Bodies.{roles_in, users_in, Clause, always_true, in_set, clause_bytes, ProperClause, Assigning, assigns, Sides, sides, RoleListing, role_listings}
use Rattle.lines.specs.Lines.{Sentence, word, bodies, lines, Fine}
use Rattle.lines.specs.declared.keyword.Keyword.{Keyword}
use Rattle.lines.specs.declared.keyword.Keyword.TheVariants.{Ua, Pa, Rh, Trust, Assign, Revoke, Always, Never, Possible, Necessary}
use Rattle.texts.specs.Board.{goes_on, unbroken}

pub joined : (s t : List ℕ) → unbroken s ≡ true → unbroken t ≡ true → unbroken (s ++ t) ≡ true
joined [] t a b = b
joined (x ∷ s) t a b = let p = and_parts (goes_on x) (unbroken s) a in and_from _ _ p.0 (joined s t p.1 b)

digits : (ds : List ℕ) → all_ascii_digits ds ≡ true → unbroken ds ≡ true
digits [] h = refl
digits (d ∷ ds) h =
    let p = and_parts (is_digit d) (all_ascii_digits ds) h in
    let q = and_parts (leb 48 d) (leb d 57) p.0 in
    let l : 48 ≤ d = leb-true 48 d q.0 in
    and_from _ _ (ap not (ne_eqb d 10 (λ e. omega arith))) (digits ds p.1)

number : (n : ℕ) → n < number_limit → unbroken (decimal n) ≡ true
number n l = digits (decimal n) (digits_decimal own n (omega arith))

module _ (c : ℕ) (goes : goes_on c ≡ true) where
  many : (ns : List ℕ) → AllShort ns → unbroken (entry_bytes c ns) ≡ true
  many [] h = refl
  many (n ∷ ns) h = and_from _ _ goes (joined (decimal n) (entry_bytes c ns) (number n h.0) (many ns h.1))

written : {k : Kind} (p : Phrase k) → Short (meaning p) → unbroken (render p) ≡ true
written (one t) h = written t h
written (or s t) h = joined (render s) (124 ∷ render t) (written s h.0) (written t h.1)
written (lone f) h = written f h
written (and t f) h = joined (render t) (38 ∷ render f) (written t h.0) (written f h.1)
written (a_role n) h = number n h
written (a_permission n) h = number n h
written no_users h = refl
written (braces us) h = joined (render us) (125 ∷ []) (written us h) refl
written (parens s) h = joined (render s) (41 ∷ []) (written s h) refl
written (a_user n) h = number n h
written (also us n) h = joined (render us) (44 ∷ 117 ∷ decimal n) (written us h.0) (number n h.1)

row : (letter limit : ℕ) (between : List ℕ) → goes_on letter ≡ true → unbroken between ≡ true → (x : RoleListing) → (role_listings letter limit between).proper x → unbroken ((role_listings letter limit between).bytes x) ≡ true
row letter limit between l b x h =
    and_from _ _ l (joined (decimal x.subject) (between ++ entry_bytes 114 (roles_in x)) (number x.subject h.0) (joined between (entry_bytes 114 (roles_in x)) b (many 114 refl (roles_in x) h.1)))

clause : (c : Clause) → ProperClause c → unbroken (clause_bytes c) ≡ true
clause always_true h = refl
clause (in_set p) h = written p h.0

assigning : (x : Assigning) → assigns.proper x → unbroken (assigns.bytes x) ≡ true
assigning x h =
    joined (decimal x.row.subject) (codes " : " ++ (clause_bytes x.clause ++ (codes " :" ++ entry_bytes 114 (roles_in x.row)))) (number x.row.subject h.0)
    (joined (clause_bytes x.clause) (codes " :" ++ entry_bytes 114 (roles_in x.row)) (clause x.clause h.2) (many 114 refl (roles_in x.row) h.1))

both : (x : Sides) → sides.proper x → unbroken (sides.bytes x) ≡ true
both x h = joined (render x.larger) (codes " >= " ++ render x.smaller) (written x.larger h.0) (written x.smaller h.1)

body : (k : Keyword) (x : (bodies k).Form) → (bodies k).proper x → unbroken ((bodies k).bytes x) ≡ true
body Ua x h = row 117 measures.users [] refl refl x h
body Pa x h = row 112 measures.permissions [] refl refl x h
body Rh x h = row 114 measures.roles [] refl refl x h
body Trust x h = many 117 refl (users_in x) h
body Assign x h = assigning x h
body Revoke x h = row 114 measures.roles (codes " :") refl refl x h
body Always x h = both x h
body Never x h = both x h
body Possible x h = both x h
body Necessary x h = both x h

words : (k : Keyword) → unbroken (word k) ≡ true
words Ua = refl
words Pa = refl
words Rh = refl
words Trust = refl
words Assign = refl
words Revoke = refl
words Always = refl
words Never = refl
words Possible = refl
words Necessary = refl

pub one_line : (x : Sentence) → Fine x → unbroken (lines.bytes x) ≡ true
one_line x h = joined (word x.keyword) ((bodies x.keyword).bytes x.body) (words x.keyword) (body x.keyword x.body h.proper.1)
