use Rattle.std.proofs.Common.{◌≡◌, true, false, Decides, refl, rules}
use borrow.Author.Tests.{clash}
use mathlib.Core.Path.{subst⁻¹}
use Rattle.std.proofs.lemmas.Iterator.{YieldsList-from_slice, IsFirst-from_position}
use Rattle.bounded.specs.Entries.{entries}
use Rattle.tables.specs.View.{requirement_of}
use Rattle.entering.specs.Places.{Place}
use Rattle.entering.specs.Laid.{SidesWhole}
use Rattle.entering.proofs.Listing.{place_is, Yes, No}
use Rattle.entering.proofs.Requiring.{requirements_are}
use Rattle.entering.proofs.requirements.place_of.Goals as goal

pub returns : goal.returns
returns c all whole =
    let xs = entries c.args.tables.now.requirements in
    let x = requirement_of c.args.entry.now in
    let yes = Yes requirement_of SidesWhole x in
    let no = No requirement_of SidesWhole x in
    subst⁻¹ (λ l. Place x l c.position.result) (requirements_are c.args.tables.now)
    (place_is requirement_of SidesWhole x xs all c.position.result
    (IsFirst-from_position _ _ _ yes no c.position.ensures.ran (YieldsList-from_slice xs (search rules))
    (λ y q k g. let told : SidesWhole y.now → SidesWhole c.args.entry.now → Decides true (requirement_of y.now ≡ x) = search rules in (told g whole).0 refl)
    (λ y q k. (search rules, λ g e. let told : SidesWhole y.now → SidesWhole c.args.entry.now → Decides false (requirement_of y.now ≡ x) = search rules in absurd (clash ((told g whole).1 e))))))
