-- What a line says, and that its canonical text says the same.
use Rattle.std.specs.Prelude.{◌≡◌, ℕ, ◌≤◌, Bool, List, length, Some, None, Ok, Err, Option, Result}
use Rattle.meaning.specs.Measures.{trusted_users}
use Rattle.meaning.specs.Rules.{Condition}
use Rattle.meaning.specs.Sets.{UserSet}
use Rattle.grammar.specs.Phrase.{meaning}
use Rattle.grammar.specs.declared.grounds.Ground.{Ground}
use Rattle.lines.specs.declared.change.Change.{Change}
use Rattle.lines.specs.declared.change.Extra.{Extra}
use Rattle.lines.specs.declared.keyword.Keyword.{Keyword}
use Rattle.lines.specs.declared.keyword.Keyword.TheVariants.{Ua, Pa, Rh, Trust, Assign, Revoke, Always, Never, Possible, Necessary}
use Rattle.meaning.specs.Lists.{listed as named}
use Rattle.lines.specs.Bodies.{roles_in, users_in, condition}
use Rattle.lines.specs.Lines.{bodies, Sentence, lines, Fine}
use Rattle.saving.specs.Canonical.{canonical}
use Rattle.lines.specs.Changes.{Means}

-- what a line says: numbers, the numbers that a list names, a condition, sets
pub data Value : Type 0 where
  ua pa rh revoke : ℕ → (ℕ → Bool) → Value
  trust : (ℕ → Bool) → Value
  assign : ℕ → Condition → (ℕ → Bool) → Value
  always never possible necessary : UserSet → UserSet → Value

abbrev pub value_of : (k : Keyword) → (bodies k).Form → Value
value_of Ua x = ua x.subject (named (roles_in x))
value_of Pa x = pa x.subject (named (roles_in x))
value_of Rh x = rh x.subject (named (roles_in x))
value_of Trust x = trust (named (users_in x))
value_of Assign x = assign x.row.subject (condition x.clause) (named (roles_in x.row))
value_of Revoke x = revoke x.subject (named (roles_in x))
value_of Always x = always (meaning x.larger) (meaning x.smaller)
value_of Never x = never (meaning x.larger) (meaning x.smaller)
value_of Possible x = possible (meaning x.larger) (meaning x.smaller)
value_of Necessary x = necessary (meaning x.larger) (meaning x.smaller)

-- the users of a `trust` line have places beside it
abbrev pub Fits : (k : Keyword) → (bodies k).Form → Type 0
Fits Ua x = Unit {0}
Fits Pa x = Unit {0}
Fits Rh x = Unit {0}
Fits Trust x = length (users_in x) ≤ trusted_users
Fits Assign x = Unit {0}
Fits Revoke x = Unit {0}
Fits Always x = Unit {0}
Fits Never x = Unit {0}
Fits Possible x = Unit {0}
Fits Necessary x = Unit {0}

-- the text is a line that nothing refuses, and says the value
pub record Back (v : Value) (s : List ℕ) : Type 0 where
  pub line : Sentence
  pub bytes : s ≡ lines.bytes line
  pub fine : Fine line
  pub same : value_of line.keyword line.body ≡ v

-- the canonical text of what was read from a line says what the line says
abbrev pub RoundTrip : Type 0
RoundTrip = (x : Sentence) (c : Change) (e : Extra) → Fine x → Fits x.keyword x.body → Means x.keyword x.body c e → Back (value_of x.keyword x.body) (canonical c e)

-- what was read back says the value
abbrev pub ReadBack : Value → Option (Result Change Ground) → Extra → Type 0
ReadBack v (Some (Ok c)) e = (y : Sentence) × (Means y.keyword y.body c e) × (value_of y.keyword y.body ≡ v)
ReadBack v (Some (Err g)) e = ⊥
ReadBack v None e = ⊥
