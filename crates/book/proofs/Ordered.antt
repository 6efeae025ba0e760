-- An orderly book stays so with other assignments, where they are in range and few enough users have a row.
use Rattle.std.proofs.Common.{ℕ, ◌<◌, not, ◌&&◌, ◌||◌, T, List, [], ◌∷◌, ⊎_elim}
use mathlib.Core.Path.{subst⁻¹}
use Rattle.meaning.specs.Measures as measures
use Rattle.meaning.specs.Membership.{User, Role, IsUser, State}
use Rattle.meaning.specs.Rows.{Holder, Holders, FreeRow}
use Rattle.meaning.specs.Runs.{pair}
use Rattle.meaning.proofs.Tests.{either, first, is_it}
use Rattle.book.specs.Book.{Book, with_state}
use Rattle.book.specs.Orderly.{Orderly}
use Rattle.book.proofs.Rowed.{FewRows, few_after}

pub state_orderly : (b : Book) (s : State) → Orderly b → ((u : User) (r : Role) → T (s u r) → IsUser u × (r < measures.roles)) → FewRows s → Orderly (with_state s b)
state_orderly b s o inside few = record {
  assigned_inside = inside;
  edges_inside = o.edges_inside;
  given_inside = o.given_inside;
  trusted_inside = o.trusted_inside;
  few_rows = few;
  few_trusted = o.few_trusted;
  few_assigns = o.few_assigns;
  few_revokes = o.few_revokes;
  few_requirements = o.few_requirements;
  no_circle = o.no_circle;
  regime = o.regime;
  assigns_once = o.assigns_once;
  revokes_once = o.revokes_once;
  requirements_once = o.requirements_once;
  assigns_said = o.assigns_said;
  revokes_said = o.revokes_said;
  requirements_said = o.requirements_said;
}

-- one pair more
pub pair_orderly : (b : Book) (u : User) (r : Role) → Orderly b → IsUser u → r < measures.roles → ((Holder b.state u → ⊥) → FreeRow b.state)
    → Orderly (with_state (λ v q. b.state v q || pair u r v q) b)
pair_orderly b u r o a_user a_role room =
    state_orderly b (λ v q. b.state v q || pair u r v q) o
    (λ v q t. ⊎_elim (λ h. o.assigned_inside v q h)
    (λ h. let (e, f) = is_it u r v q h in (subst⁻¹ IsUser e a_user, subst⁻¹ (λ (n : ℕ). n < measures.roles) f a_role)) (either (b.state v q) (pair u r v q) t))
    (few_after b.state (λ v q. b.state v q || pair u r v q) u
    (λ v ne (q, t). ⊎_elim (λ h. (q, h)) (λ h. absurd (ne (is_it u r v q h).0)) (either (b.state v q) (pair u r v q) t)) o.few_rows room)

-- one pair less
pub less_orderly : (b : Book) (u : User) (r : Role) → Orderly b → Orderly (with_state (λ v q. b.state v q && not (pair u r v q)) b)
less_orderly b u r o =
    state_orderly b (λ v q. b.state v q && not (pair u r v q)) o (λ v q t. o.assigned_inside v q (first (b.state v q) (not (pair u r v q)) t))
    (λ us apart held. o.few_rows us apart (still us held))
  where
    still : (us : List User) → Holders (λ v q. b.state v q && not (pair u r v q)) us → Holders b.state us
    still [] h = tt
    still (v ∷ vs) ((q, t), h) = ((q, first (b.state v q) (not (pair u r v q)) t), still vs h)
