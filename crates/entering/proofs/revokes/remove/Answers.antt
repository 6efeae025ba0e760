use Rattle.std.proofs.Common.{◌≡◌, Some, rules}
use Rattle.tables.specs.View.{policy_of, revoke_of}
use Rattle.lines.specs.Entries.{repeats}
use Rattle.book.specs.Book.{revokes}
use Rattle.drafts.specs.View.{book_of}
use Rattle.drafts.proofs.Weighing.{refuted}
use Rattle.entering.proofs.Places.{at_place, once}
use Rattle.entering.proofs.Refusing.{removed}
use Rattle.entering.proofs.Revoking.{revokes_removed}
use Rattle.entering.proofs.revokes.remove.Goals as goal

pub returns-clause-entered : goal.returns-clause-entered
returns-clause-entered c rs l =
    let t = c.args.tables.now in
    let x = revoke_of c.args.entry in
    let found : c.place_of.result ≡ Some c.in_ok-place.place = search rules in
    let n = at_place x (policy_of t).revokes c.place_of.result c.in_ok-place.place c.place_of.ensures found in
    let right = refuted c.is_aatu.result c.is_aatu.ensures.aatu c.if-is_aatu.false in (
      removed (book_of t) (revokes x rs) right (once (repeats rs) l.twice c.if-extra.false) (λ none. none (_, n)),
      revokes_removed t c.args.entry rs c.remove.new.self c.in_ok-place.place n c.remove.result c.remove.ensures,
    )
