use Rattle.std.proofs.Common.{rules}
use mathlib.Core.Path.{subst⁻¹}
use Rattle.std.proofs.lemmas.Iterator.{YieldsList-from_slice, IsFirst-from_position}
use Rattle.bounded.specs.Entries.{entries}
use Rattle.tables.specs.declared.entries.RevokeEntry.{RevokeEntry}
use Rattle.tables.specs.View.{revoke_of}
use Rattle.entering.specs.Places.{Place}
use Rattle.entering.proofs.Revoking.{revokes_are}
use Rattle.entering.proofs.Listing.{place_is, Yes, No}
use Rattle.entering.proofs.revokes.place_of.Goals as goal

pub returns : goal.returns
returns c =
    let xs = entries c.args.tables.now.revokes in
    let x = revoke_of c.args.entry in
    let yes = Yes revoke_of (λ (e : RevokeEntry). Unit {0}) x in
    let no = No revoke_of (λ (e : RevokeEntry). Unit {0}) x in
    subst⁻¹ (λ l. Place x l c.position.result) (revokes_are c.args.tables.now)
    (place_is revoke_of (λ (e : RevokeEntry). Unit {0}) x xs (λ k e n. tt) c.position.result
    (IsFirst-from_position _ _ _ yes no c.position.ensures.ran (YieldsList-from_slice xs (search rules)) (λ y q k. search rules) (λ y q k. search rules)))
