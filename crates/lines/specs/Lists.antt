-- What the readers of lists answer.
use Rattle.std.specs.Prelude.{◌≡◌, ℕ, ◌/◌, Bool, true, false, List, ◌∷◌, map, length, take, Some, None, Ok, Err, Option, Result}
use Rattle.meaning.specs.Measures as measures
use Rattle.bounded.specs.Entries.{entries as kept}
use Rattle.words.specs.Words.{bits}
use Rattle.grammar.specs.declared.grounds.Ground.{Ground}
use Rattle.grammar.specs.declared.grounds.Ground.TheVariants.{Range}
use Rattle.rbac.specs.Roles.{roles_of}
use Rattle.rbac.specs.declared.users.User.{User}
use Rattle.lines.specs.declared.parts.Names.{Names}
use Rattle.lines.specs.declared.change.Extra.{Extra}
use Rattle.lines.specs.Entries.{AllShort, all_below, repeats, entry_bytes}
use Rattle.meaning.specs.Lists.{listed as named}

-- the roles of a list that are all in range: the set of them, and whether one is named twice
pub record Named (v : Names) (ns : List ℕ) : Type 0 where
  pub set : roles_of v.roles ≡ named ns
  pub twice : v.twice ≡ repeats ns

-- what was noted of the roles of a list, which is nothing where one is out of range
abbrev pub Noted : Option Names → List ℕ → Type 0
Noted (Some v) ns = (all_below measures.roles ns ≡ true) × Named v ns
Noted None ns = all_below measures.roles ns ≡ false

abbrev pub number_of : User → ℕ
number_of u = u.number

-- what was noted of the users of a list: which they are, how many there are, the first of them, as many as a board trusts, and whether one is named twice
pub record Users (e : Extra) (good : Bool) (ns : List ℕ) : Type 0 where
  pub fits : good ≡ all_below measures.users ns
  pub named : good ≡ true → bits e.named ≡ named ns
  pub many : good ≡ true → e.many ≡ length ns
  pub first : good ≡ true → map number_of (kept e.trusted) ≡ take measures.trusted_users ns
  pub twice : good ≡ true → e.twice ≡ repeats ns

-- the answer of a list where each number is in range, and where one is not
abbrev pub in_range : Bool → Result (Unit {0}) Ground
in_range true = Ok tt
in_range false = Err Range

-- a table with a bit for each user has so many words
abbrev pub user_words : ℕ
user_words = measures.users / 64

-- the same while a list is read, in such a table
pub record Seen (e : Extra) (good : Bool) (ns : List ℕ) : Type 0 where
  pub users : Users e good ns
  pub wide : length e.named ≡ user_words

-- all of the text is a list of one or more entries of that letter, and the answer tells of it; else there is none
pub record Listed (c : ℕ) {V : Type 0} (Tells : V → List ℕ → Type 0) (s : List ℕ) (r : Option V) : Type 0 where
  pub found : (n : ℕ) (ns : List ℕ) → s ≡ entry_bytes c (n ∷ ns) → AllShort (n ∷ ns) → (v : V) × (r ≡ Some v) × Tells v (n ∷ ns)
  pub real : (v : V) → r ≡ Some v → (n : ℕ) × (ns : List ℕ) × (s ≡ entry_bytes c (n ∷ ns)) × AllShort (n ∷ ns) × Tells v (n ∷ ns)
