-- All targets of a board's rules are roles.
use Rattle.std.proofs.Common.{ℕ, ◌<◌, T, List, [], ◌∷◌, map}
use Rattle.meaning.specs.Measures.{roles, rows}
use Rattle.meaning.specs.Rules.{RevokeRule}
use Rattle.meaning.specs.Lists.{Nth, first, later}
use Rattle.bounded.specs.Entries.{entries}
use Rattle.tables.specs.declared.entries.RevokeEntry.{RevokeEntry}
use Rattle.tables.specs.declared.tables.Tables.{Tables}
use Rattle.tables.specs.View.{policy_of, revoke_of}
use Rattle.planning.proofs.Planning.{target_inside}
use Rattle.planning.proofs.Masking.{small}
use Rattle.book.proofs.Granting.{TargetsInside}

mapped : (xs : List RevokeEntry) {k : ℕ} {rule : RevokeRule} → Nth k rule (map revoke_of xs) → (r : ℕ) → T (rule.targets r) → r < roles
mapped [] n = elim n [ ]
mapped (x ∷ xs) first = small x.targets
mapped (x ∷ xs) (later n) = mapped xs n

revoked_inside : (t : Tables) (k : ℕ) (rule : RevokeRule) → Nth k rule (policy_of t).revokes → (r : ℕ) → T (rule.targets r) → r < roles
unfolding policy_of
revoked_inside t k rule n = mapped (entries t.revokes) n

pub targets_inside : (t : Tables) → TargetsInside (policy_of t)
targets_inside t = record { assigns = target_inside t; revokes = revoked_inside t }
