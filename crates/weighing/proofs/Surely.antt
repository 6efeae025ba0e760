-- Whether a requirement stands can be told, so what cannot fail to stand does.
use Rattle.std.proofs.Common.{[], ⊎_elim, arith}
use Rattle.meaning.specs.Membership.{State}
use Rattle.meaning.specs.Requirements.{Requirement, always, never, Stands}
use Rattle.theory.specs.Bounds.{WithinMeasures}
use Rattle.theory.proofs.Deciding.{holds?}
use Rattle.rbac.specs.declared.users.User.{User as AUser}
use Rattle.bounded.specs.Entries.{entries}
use Rattle.bounded.proofs.Listing.{few}
use Rattle.deciding.proofs.Viewing.{map_length}
use Rattle.planning.proofs.Hiring.{numbers, trusted_listed}
use Rattle.planning.proofs.Planning.{given_inside, target_inside}
use Rattle.planning.proofs.Masking.{edge_inside}
use Rattle.tables.specs.declared.tables.Tables.{Tables}
use Rattle.tables.specs.Fresh.{nothing_assigned}
use Rattle.tables.specs.View.{policy_of}

-- whatever is assigned, what the tables say of edges, permissions and rules is in range
within : (t : Tables) → WithinMeasures (policy_of t) nothing_assigned
within t = record {
  row_holders = [];
  few_rows = omega arith;
  all_row_holders = λ u h. absurd h.1;
  only_row_holders = λ u h. absurd h;
  trusted_list = numbers (entries t.trusted);
  few_trusted = let e = map_length (λ (x : AUser). x.number) (entries t.trusted) in omega (arith, few t.trusted);
  all_trusted = trusted_listed t;
  assigned_inside = λ u r h. absurd h;
  edges_inside = edge_inside t;
  given_inside = given_inside t;
  targets_inside = target_inside t;
}

pub stands_surely : (t : Tables) (s : State) (d : Requirement) → ((Stands (policy_of t) s d → ⊥) → ⊥) → Stands (policy_of t) s d
stands_surely t s (always q) surely run lawful = ⊎_elim
    (λ holds. holds)
    (λ fails. absurd (surely (λ stands. fails (stands run lawful))))
    (holds? (policy_of t) nothing_assigned (within t) _ q)
stands_surely t s (never q) surely run lawful = λ holds. surely (λ stands. stands run lawful holds)
