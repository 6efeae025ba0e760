-- A change makes one book.
use Rattle.std.proofs.Common.{◌≡◌, sym, ap, ◌∙◌}
use Rattle.texts.specs.declared.faults.Way.{Way}
use Rattle.texts.specs.declared.faults.Way.TheVariants.{Add, Remove}
use Rattle.book.specs.Book.{Book, Entry, pairs, gifts, edges, trusts, assigns, revokes, requires, Took, with_policy, with_requirements}
use Rattle.book.specs.Calls.{Makes}
use Rattle.book.specs.Orderly.{Once}
use Rattle.book.proofs.Listing.{without_unique}
use Rattle.book.proofs.Parts.{with_assigns, with_revokes}

module _ (b : Book) (assigns_once : Once b.policy.assigns) (revokes_once : Once b.policy.revokes) (requirements_once : Once b.requirements) where
  took_one : (e : Entry) (y z : Book) → Took e b y → Took e b z → y ≡ z
  took_one (pairs u rs) y z m n = m ∙ sym n
  took_one (gifts p rs) y z m n = m ∙ sym n
  took_one (edges q rs) y z m n = m ∙ sym n
  took_one (trusts us) y z m n = m ∙ sym n
  took_one (assigns rule rs) y z (xs, v, m) (ys, w, n) = m ∙ ap (λ rules. with_policy (with_assigns rules b.policy) b) (without_unique assigns_once v w) ∙ sym n
  took_one (revokes rule rs) y z (xs, v, m) (ys, w, n) = m ∙ ap (λ rules. with_policy (with_revokes rules b.policy) b) (without_unique revokes_once v w) ∙ sym n
  took_one (requires d) y z (xs, v, m) (ys, w, n) = m ∙ ap (λ ds. with_requirements ds b) (without_unique requirements_once v w) ∙ sym n

  pub one_book : (w : Way) (e : Entry) (y z : Book) → Makes w e b y → Makes w e b z → y ≡ z
  one_book Add e y z m n = m ∙ sym n
  one_book Remove e y z m n = took_one e y z m n
