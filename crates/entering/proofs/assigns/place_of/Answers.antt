use Rattle.std.proofs.Common.{◌≡◌, true, false, Decides, refl, rules}
use borrow.Author.Tests.{clash}
use mathlib.Core.Path.{subst⁻¹}
use Rattle.std.proofs.lemmas.Iterator.{YieldsList-from_slice, IsFirst-from_position}
use Rattle.bounded.specs.Entries.{entries}
use Rattle.tables.specs.declared.entries.AssignEntry.{AssignEntry}
use Rattle.tables.specs.View.{assign_of}
use Rattle.tables.proofs.Viewing.{assigns_are}
use Rattle.soundness.specs.Valid.{Whole}
use Rattle.entering.specs.Places.{Place}
use Rattle.entering.proofs.Listing.{place_is, Yes, No}
use Rattle.entering.proofs.assigns.place_of.Goals as goal

pub returns : goal.returns
returns c all whole =
    let xs = entries c.args.tables.now.assigns in
    let x = assign_of c.args.entry.now in
    let yes = Yes assign_of (λ (e : AssignEntry). Whole e.needs) x in
    let no = No assign_of (λ (e : AssignEntry). Whole e.needs) x in
    subst⁻¹ (λ l. Place x l c.position.result) (assigns_are c.args.tables.now)
    (place_is assign_of (λ (e : AssignEntry). Whole e.needs) x xs all c.position.result
    (IsFirst-from_position _ _ _ yes no c.position.ensures.ran (YieldsList-from_slice xs (search rules))
    (λ y q k g. let told : Whole y.now.needs → Whole c.args.entry.now.needs → Decides true (assign_of y.now ≡ x) = search rules in (told g whole).0 refl)
    (λ y q k. (search rules, λ g e. let told : Whole y.now.needs → Whole c.args.entry.now.needs → Decides false (assign_of y.now ≡ x) = search rules in absurd (clash ((told g whole).1 e))))))
