use Rattle.std.proofs.Common.{◌≡◌, Some, rules}
use Rattle.tables.specs.declared.entries.AssignEntry.{AssignEntry}
use Rattle.tables.specs.View.{policy_of, assign_of}
use Rattle.soundness.specs.Valid.{Whole}
use Rattle.lines.specs.Entries.{repeats}
use Rattle.book.specs.Book.{assigns}
use Rattle.drafts.specs.View.{book_of}
use Rattle.entering.proofs.Listing.{good_without}
use Rattle.entering.proofs.Places.{at_place, once}
use Rattle.entering.proofs.Refusing.{removed}
use Rattle.entering.proofs.Assigning.{assigns_removed, assigns_laid}
use Rattle.entering.proofs.assigns.remove.Goals as goal

pub returns-clause-entered : goal.returns-clause-entered
returns-clause-entered c rs l =
    let t = c.args.tables.now in
    let x = assign_of c.args.entry.now in
    let found : c.place_of.result ≡ Some c.in_ok-place.place = search rules in
    let n = at_place x (policy_of t).assigns c.place_of.result c.in_ok-place.place (c.place_of.ensures c.requires.needs c.requires.whole) found in (
      removed (book_of t) (assigns x rs) (λ z. z) (once (repeats rs) l.twice c.if-extra.false) (λ none. none (_, n)),
      assigns_removed t c.args.entry.now rs c.remove.new.self c.in_ok-place.place n c.remove.result c.remove.ensures,
    )

pub returns-clause-laid : goal.returns-clause-laid
returns-clause-laid c h =
    let t = c.args.tables.now in
    assigns_laid t c.remove.new.self
    (good_without assign_of t.assigns c.remove.new.self c.args.entry.now (λ (e : AssignEntry). Whole e.needs) c.requires.needs c.in_ok-place.place c.remove.result c.remove.ensures) h
