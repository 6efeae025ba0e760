use Rattle.std.proofs.Common.{◌≡◌, Some, rules}
use Rattle.tables.specs.View.{requirements_of, requirement_of}
use Rattle.book.specs.Book.{requires as required}
use Rattle.drafts.specs.View.{book_of}
use Rattle.entering.specs.Laid.{SidesWhole}
use Rattle.entering.proofs.Listing.{good_without}
use Rattle.entering.proofs.Places.{at_place}
use Rattle.entering.proofs.Refusing.{removed}
use Rattle.entering.proofs.Requiring.{requirements_removed, requirements_laid}
use Rattle.entering.proofs.requirements.remove.Goals as goal

pub returns-clause-entered : goal.returns-clause-entered
returns-clause-entered c =
    let t = c.args.tables.now in
    let x = requirement_of c.args.entry.now in
    let found : c.place_of.result ≡ Some c.in_ok-place.place = search rules in
    let n = at_place x (requirements_of t) c.place_of.result c.in_ok-place.place (c.place_of.ensures c.requires.sides c.requires.whole) found in (
      removed (book_of t) (required x) (λ z. z) (λ z. z) (λ none. none (_, n)),
      requirements_removed t c.args.entry.now c.remove.new.self c.in_ok-place.place n c.remove.result c.remove.ensures,
    )

pub returns-clause-laid : goal.returns-clause-laid
returns-clause-laid c h =
    let t = c.args.tables.now in
    requirements_laid t c.remove.new.self
    (good_without requirement_of t.requirements c.remove.new.self c.args.entry.now SidesWhole c.requires.sides c.in_ok-place.place c.remove.result c.remove.ensures) h
