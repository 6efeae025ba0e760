-- What refuses an entry in a book, ground by ground, and what refuses a whole book.
use Rattle.std.specs.Prelude.{◌≡◌, ℕ, ◌+◌, ◌<◌, ◌≤◌, not, T, ◌⊎◌, List, [], ◌∷◌, length}
use Rattle.meaning.specs.Measures.{trusted_users, assign_rules, revoke_rules}
use Rattle.meaning.specs.Measures as Measures
use Rattle.meaning.specs.Membership.{User, Senior}
use Rattle.meaning.specs.Rules.{aatu, aar, Policy}
use Rattle.meaning.specs.Lists.{Nth, Apart}
use Rattle.meaning.specs.Requirements.{Requirement, Stands}
use Rattle.meaning.specs.Rows.{Holder, FreeRow}
use Rattle.lines.specs.Entries.{repeats}
use Rattle.book.specs.Book.{Book, Entry, pairs, gifts, edges, trusts, assigns, revokes, requires, put}

-- the entry belongs to the other regime: `trust` under aar, `revoke` under aatu
abbrev pub WrongRegime : Book → Entry → Type 0
WrongRegime b (trusts us) = b.policy.regime ≡ aar
WrongRegime b (revokes rule rs) = b.policy.regime ≡ aatu
WrongRegime b e = ⊥

-- this is so of some number of a list
abbrev pub AnyListed : (ℕ → Type 0) → List ℕ → Type 0
AnyListed P [] = ⊥
AnyListed P (x ∷ xs) = P x ⊎ AnyListed P xs

-- the line's list names a number twice
abbrev pub NamedTwice : Entry → Type 0
NamedTwice (pairs u rs) = T (repeats rs)
NamedTwice (gifts n rs) = T (repeats rs)
NamedTwice (edges q rs) = T (repeats rs)
NamedTwice (trusts us) = T (repeats us)
NamedTwice (assigns rule rs) = T (repeats rs)
NamedTwice (revokes rule rs) = T (repeats rs)
NamedTwice (requires d) = ⊥

-- something that the entry names is there; something is not
abbrev pub There : Book → Entry → Type 0
There b (pairs u rs) = AnyListed (λ r. T (b.state u r)) rs
There b (gifts n rs) = AnyListed (λ r. T (b.policy.gives n r)) rs
There b (edges q rs) = AnyListed (λ r. T (b.policy.edge q r)) rs
There b (trusts us) = AnyListed (λ u. T (b.policy.trusted u)) us
There b (assigns rule rs) = (k : ℕ) × Nth k rule b.policy.assigns
There b (revokes rule rs) = (k : ℕ) × Nth k rule b.policy.revokes
There b (requires d) = (k : ℕ) × Nth k d b.requirements

abbrev pub Missing : Book → Entry → Type 0
Missing b (pairs u rs) = AnyListed (λ r. T (not (b.state u r))) rs
Missing b (gifts n rs) = AnyListed (λ r. T (not (b.policy.gives n r))) rs
Missing b (edges q rs) = AnyListed (λ r. T (not (b.policy.edge q r))) rs
Missing b (trusts us) = AnyListed (λ u. T (not (b.policy.trusted u))) us
Missing b e = There b e → ⊥

-- all of these users are trusted
abbrev pub AllTrusted : Policy → List User → Type 0
AllTrusted p [] = Unit {0}
AllTrusted p (u ∷ us) = T (p.trusted u) × AllTrusted p us

-- trusted users and these are together more than a board has places for
pub record Crowded (p : Policy) (us : List User) : Type 0 where
  pub there : List User
  pub apart : Apart there
  pub trusted : AllTrusted p there
  pub many : trusted_users < length there + length us

-- a user without a row finds none free
pub record NoRow (b : Book) (u : User) : Type 0 where
  pub none : Holder b.state u → ⊥
  pub full : FreeRow b.state → ⊥

-- rows, or the table of its kind, have no room for the entry
abbrev pub NoRoom : Book → Entry → Type 0
NoRoom b (pairs u rs) = NoRow b u
NoRoom b (trusts us) = Crowded b.policy us
NoRoom b (assigns rule rs) = assign_rules ≤ length b.policy.assigns
NoRoom b (revokes rule rs) = revoke_rules ≤ length b.policy.revokes
NoRoom b (requires d) = Measures.requirements ≤ length b.requirements
NoRoom b e = ⊥

-- with these edges some role of the list would be senior to the role that is to be over it
abbrev pub ClosesCircle : Book → Entry → Type 0
ClosesCircle b (edges q rs) = AnyListed (λ r. Senior (put (edges q rs) b).policy.edge r q) rs
ClosesCircle b e = ⊥

-- a board under aar breaks one of the properties that it keeps
pub record Breached (b : Book) (Property : Type 0) : Type 0 where
  pub under_aar : b.policy.regime ≡ aar
  pub broken : Property → ⊥

-- the requirement with this number does not stand, and it is the first
pub record Fails (b : Book) (k : ℕ) : Type 0 where
  pub requirement : Requirement
  pub numbered : Nth k requirement b.requirements
  pub falls : Stands b.policy b.state requirement → ⊥
  pub first : (j : ℕ) (d : Requirement) → j < k → Nth j d b.requirements → Stands b.policy b.state d
