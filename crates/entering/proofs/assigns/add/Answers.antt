use Rattle.std.proofs.Common.{◌≡◌, refl, rules}
use mathlib.Core.Path.{subst⁻¹}
use Rattle.texts.specs.declared.faults.Way.TheVariants.{Add}
use Rattle.tables.specs.declared.entries.AssignEntry.{AssignEntry}
use Rattle.tables.specs.View.{policy_of, assign_of}
use Rattle.soundness.specs.Valid.{Whole}
use Rattle.lines.specs.Entries.{repeats}
use Rattle.book.specs.Book.{assigns}
use Rattle.book.specs.Entering.{Entered}
use Rattle.drafts.specs.View.{book_of}
use Rattle.entering.proofs.Refusing.{there}
use Rattle.entering.proofs.Listing.{good_after}
use Rattle.entering.proofs.Places.{told, there_or_again, new_and_once}
use Rattle.entering.proofs.Assigning.{with_entries, assigns_pushed, assigns_laid}
use Rattle.entering.proofs.assigns.add.Goals as goal

pub returns-then-extra-is_some-clause-entered : goal.returns-then-extra-is_some-clause-entered
returns-then-extra-is_some-clause-entered c rs l =
    let t = c.args.tables.now in
    let x = assign_of c.args.entry.now in (
      there (book_of t) (assigns x rs) (λ z. z)
          (there_or_again x (policy_of t).assigns c.args.extra.now.twice c.is_some.result c.place_of.result (c.place_of.ensures c.requires.needs c.requires.whole) c.is_some.ensures (repeats rs) l.twice c.if-extra-is_some.true),
      refl,
    )

pub returns-clause-entered : goal.returns-clause-entered
returns-clause-entered c rs l =
    let t = c.args.tables.now in
    let x = assign_of c.args.entry.now in
    let is : c.map_err.result ≡ told c.push.result = search rules in
    subst⁻¹ (λ r. Entered Add (book_of t) (assigns x rs) r (book_of (with_entries t c.push.new.self))) is
    (assigns_pushed t c.args.entry.now rs c.push.new.self (λ z. z)
    (new_and_once x (policy_of t).assigns c.args.extra.now.twice c.is_some.result c.place_of.result (c.place_of.ensures c.requires.needs c.requires.whole) c.is_some.ensures (repeats rs) l.twice c.if-extra-is_some.false)
    c.push.result c.push.ensures)

pub returns-clause-laid : goal.returns-clause-laid
returns-clause-laid c h =
    let t = c.args.tables.now in
    assigns_laid t c.push.new.self
    (good_after assign_of t.assigns c.push.new.self c.args.entry.now (λ (e : AssignEntry). Whole e.needs) c.requires.needs c.requires.whole c.push.result c.push.ensures) h
