use Rattle.std.proofs.Common.{ℕ, ◌<◌, T, List, map, Decides, subst}
use Rattle.meaning.specs.Measures.{users}
use Rattle.meaning.specs.Lists.{listed as named}
use Rattle.rbac.specs.declared.users.User.{User}
use Rattle.bounded.specs.Entries.{entries}
use Rattle.lines.specs.Lists.{number_of}
use Rattle.pen.proofs.Join.{none, to}
use Rattle.tables.specs.View.{policy_of}
use Rattle.storing.proofs.Listing.{trust_written, nobody_written}
use Rattle.storing.proofs.Parts.{trusted_at}
use Rattle.storing.proofs.rules.put_trust.Goals as goal

abbrev Somebody : List User → Type 0
Somebody us = (u : ℕ) × (u < users) × T (named (map number_of us) u)

pub returns-then-names_somebody : goal.returns-then-names_somebody
returns-then-names_somebody c =
    let t = c.args.tables.now in
    let d : Decides c.names_somebody.result (Somebody (entries t.trusted)) = subst (λ (us : List User). Decides c.names_somebody.result (Somebody us)) c.entries.ensures.all c.names_somebody.ensures in
    to _ _ _ _ (trust_written (policy_of t).trusted (named (map number_of (entries t.trusted))) (trusted_at t) c.names_somebody.result d c.if-names_somebody.true) (c.put.ensures tt)

pub returns-else-names_somebody : goal.returns-else-names_somebody
returns-else-names_somebody c =
    let t = c.args.tables.now in
    let d : Decides c.names_somebody.result (Somebody (entries t.trusted)) = subst (λ (us : List User). Decides c.names_somebody.result (Somebody us)) c.entries.ensures.all c.names_somebody.ensures in
    to _ _ _ _ (nobody_written (policy_of t).trusted (named (map number_of (entries t.trusted))) (trusted_at t) c.names_somebody.result d c.if-names_somebody.false) (none c.args.w.now)
