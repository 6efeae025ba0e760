-- What a line that nothing refuses names is in range.
use Rattle.std.proofs.Common.{◌≡◌, ℕ, ◌<◌, true, ◌&&◌, T, eqb, ltb, List, [], ◌∷◌, subst, eqb→eq, ⊎_elim}
use mathlib.Core.Path.{subst⁻¹}
use Rattle.std.proofs.Math.Facts.{ltb_yes}
use Rattle.meaning.specs.Measures as measures
use Rattle.meaning.specs.Membership.{IsUser}
use Rattle.meaning.specs.Lists.{listed}
use Rattle.meaning.proofs.Tests.{either, first, second, as_test}
use Rattle.lines.specs.Entries.{all_below}
use Rattle.lines.specs.Bodies.{roles_in, users_in}
use Rattle.lines.specs.Lines.{Fine, bodies}
use Rattle.lines.specs.declared.keyword.Keyword.{Keyword}
use Rattle.lines.specs.declared.keyword.Keyword.TheVariants.{Ua, Pa, Rh, Trust, Assign, Revoke, Always, Never, Possible, Necessary}
use Rattle.book.specs.Book.{Entry, pairs, gifts, edges, trusts, assigns, revokes, requires}
use Rattle.book.specs.Orderly.{Said}
use Rattle.book.specs.Says.{entry_of}

-- all numbers of the list are below the limit
abbrev pub AllBelow : ℕ → List ℕ → Type 0
AllBelow limit ns = (n : ℕ) → T (listed ns n) → n < limit

pub below : (limit : ℕ) (ns : List ℕ) → T (all_below limit ns) → AllBelow limit ns
below limit [] t n h = absurd h
below limit (m ∷ ns) t n h = ⊎_elim
    (λ e. subst⁻¹ (λ (k : ℕ). k < limit) (eqb→eq n m e) (ltb_yes (first (ltb m limit) (all_below limit ns) t)))
    (λ i. below limit ns (second (ltb m limit) (all_below limit ns) t) n i)
    (either (eqb n m) (listed ns n) h)

abbrev pub Inside : Entry → Type 0
Inside (pairs u rs) = IsUser u × AllBelow measures.roles rs
Inside (gifts n rs) = (n < measures.permissions) × AllBelow measures.roles rs
Inside (edges q rs) = (q < measures.roles) × AllBelow measures.roles rs
Inside (trusts us) = AllBelow measures.users us
Inside (assigns rule rs) = Unit {0}
Inside (revokes rule rs) = Unit {0}
Inside (requires d) = Unit {0}

row_inside : (limit n : ℕ) (rs : List ℕ) → (ltb n limit && all_below measures.roles rs) ≡ true → (n < limit) × AllBelow measures.roles rs
row_inside limit n rs e =
    let t = as_test (ltb n limit && all_below measures.roles rs) e in
    (ltb_yes (first (ltb n limit) (all_below measures.roles rs) t), below measures.roles rs (second (ltb n limit) (all_below measures.roles rs) t))

from_body : (k : Keyword) (b : (bodies k).Form) → Fine (record { keyword = k; body = b }) → Inside (entry_of k b)
from_body Ua b h = row_inside measures.users b.subject (roles_in b) h.ranged
from_body Pa b h = row_inside measures.permissions b.subject (roles_in b) h.ranged
from_body Rh b h = row_inside measures.roles b.subject (roles_in b) h.ranged
from_body Trust b h = below measures.users (users_in b) (as_test (all_below measures.users (users_in b)) h.ranged)
from_body Assign b h = tt
from_body Revoke b h = tt
from_body Always b h = tt
from_body Never b h = tt
from_body Possible b h = tt
from_body Necessary b h = tt

pub inside : (e : Entry) → Said e → Inside e
inside e s = subst Inside s.names (from_body s.line.keyword s.line.body s.fine)
