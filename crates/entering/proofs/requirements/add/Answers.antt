use Rattle.std.proofs.Common.{◌≡◌, refl, rules, sym, ◌∙◌, inl, ⊎_elim}
use mathlib.Core.Path.{subst⁻¹}
use Rattle.texts.specs.declared.faults.Way.TheVariants.{Add}
use Rattle.tables.specs.View.{requirements_of, requirement_of}
use Rattle.book.specs.Book.{requires as required}
use Rattle.book.specs.Entering.{Entered}
use Rattle.drafts.specs.View.{book_of}
use Rattle.entering.specs.Laid.{SidesWhole}
use Rattle.entering.proofs.Refusing.{there}
use Rattle.entering.proofs.Listing.{good_after}
use Rattle.entering.proofs.Places.{told, is_there, is_new}
use Rattle.entering.proofs.Requiring.{with_entries, requirements_pushed, requirements_laid}
use Rattle.entering.proofs.requirements.add.Goals as goal

pub returns-then-is_some-clause-entered : goal.returns-then-is_some-clause-entered
returns-then-is_some-clause-entered c =
    let t = c.args.tables.now in
    let x = requirement_of c.args.entry.now in
    (there (book_of t) (required x) (λ z. z) (inl (is_there x (requirements_of t) c.place_of.result (c.place_of.ensures c.requires.sides c.requires.whole) (sym c.is_some.ensures ∙ c.if-is_some.true))), refl)

pub returns-clause-entered : goal.returns-clause-entered
returns-clause-entered c =
    let t = c.args.tables.now in
    let x = requirement_of c.args.entry.now in
    let is : c.map_err.result ≡ told c.push.result = search rules in
    subst⁻¹ (λ r. Entered Add (book_of t) (required x) r (book_of (with_entries t c.push.new.self))) is
    (requirements_pushed t c.args.entry.now c.push.new.self (λ z. z)
    (λ o. ⊎_elim (is_new x (requirements_of t) c.place_of.result (c.place_of.ensures c.requires.sides c.requires.whole) (sym c.is_some.ensures ∙ c.if-is_some.false)) (λ z. z) o)
    c.push.result c.push.ensures)

pub returns-clause-laid : goal.returns-clause-laid
returns-clause-laid c h =
    let t = c.args.tables.now in
    requirements_laid t c.push.new.self
    (good_after requirement_of t.requirements c.push.new.self c.args.entry.now SidesWhole c.requires.sides c.requires.whole c.push.result c.push.ensures) h
