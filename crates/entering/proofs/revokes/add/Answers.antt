use Rattle.std.proofs.Common.{◌≡◌, refl, rules}
use mathlib.Core.Path.{subst⁻¹}
use Rattle.texts.specs.declared.faults.Way.TheVariants.{Add}
use Rattle.tables.specs.View.{policy_of, revoke_of}
use Rattle.lines.specs.Entries.{repeats}
use Rattle.book.specs.Book.{revokes}
use Rattle.book.specs.Entering.{Entered}
use Rattle.drafts.specs.View.{book_of}
use Rattle.entering.proofs.Refusing.{wrong_to_add, there}
use Rattle.entering.proofs.Places.{told, there_or_again, new_and_once}
use Rattle.entering.proofs.Revoking.{with_entries, revokes_pushed}
use Rattle.drafts.proofs.Weighing.{refuted}
use Rattle.entering.proofs.revokes.add.Goals as goal

pub returns-then-is_aatu-clause-entered : goal.returns-then-is_aatu-clause-entered
returns-then-is_aatu-clause-entered c rs l = (wrong_to_add (book_of c.args.tables.now) (revokes (revoke_of c.args.entry) rs) (c.is_aatu.ensures.aatu.0 c.if-is_aatu.true), refl)

pub returns-then-extra-is_some-clause-entered : goal.returns-then-extra-is_some-clause-entered
returns-then-extra-is_some-clause-entered c rs l =
    let t = c.args.tables.now in
    let x = revoke_of c.args.entry in (
      there (book_of t) (revokes x rs) (refuted c.is_aatu.result c.is_aatu.ensures.aatu c.if-is_aatu.false)
          (there_or_again x (policy_of t).revokes c.args.extra.now.twice c.is_some.result c.place_of.result c.place_of.ensures c.is_some.ensures (repeats rs) l.twice c.if-extra-is_some.true),
      refl,
    )

pub returns-clause-entered : goal.returns-clause-entered
returns-clause-entered c rs l =
    let t = c.args.tables.now in
    let x = revoke_of c.args.entry in
    let is : c.map_err.result ≡ told c.push.result = search rules in
    subst⁻¹ (λ r. Entered Add (book_of t) (revokes x rs) r (book_of (with_entries t c.push.new.self))) is
    (revokes_pushed t c.args.entry rs c.push.new.self (refuted c.is_aatu.result c.is_aatu.ensures.aatu c.if-is_aatu.false)
    (new_and_once x (policy_of t).revokes c.args.extra.now.twice c.is_some.result c.place_of.result c.place_of.ensures c.is_some.ensures (repeats rs) l.twice c.if-extra-is_some.false)
    c.push.result c.push.ensures)
