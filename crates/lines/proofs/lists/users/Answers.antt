use Rattle.std.proofs.Common.{◌≡◌, [], ◌∷◌, ◌++◌, true, ◌&&◌, length, Err, sym, refl, ap, ◌∙◌, subst, inl, inr, rules, arith}
use Rattle.grammar.specs.Text.{rest, taken}
use Rattle.grammar.specs.declared.grounds.Ground.TheVariants.{Syntax}
use Rattle.lines.specs.Bodies.{trusts}
use Rattle.lines.specs.Lists.{Users}
use Rattle.lines.specs.Readings.{TrustRead}
use Rattle.lines.proofs.Entering.{nil_is, nil_no, entry_less}
use Rattle.lines.proofs.Judging.{syntax_least}
use Rattle.lines.proofs.Rowing.{trust_read}
use Rattle.lines.proofs.Trusting.{see_start, both_fit}
use Rattle.lines.proofs.Walking.{walk_start, walk_more, walk_none, walk_end, walk_room}
use Rattle.lines.proofs.lists.users.Goals as goal

pub entries-init : goal.entries-init
entries-init c = ([], true, walk_start 117 _, refl, see_start _ refl refl refl c.new-extra.ensures, inl refl)

pub returns-in_err-number : goal.returns-in_err-number
returns-in_err-number c =
    let (ms, good, w, f, s, o) = c.entries.invariant in
    let q : c.from_residual.result ≡ Err Syntax = search rules in
    let e = c.entry.ensures.read ∙ ap (λ o. taken o (rest c.entry.new.r)) c.in_err-number.ensures.ok_part in
    subst (λ a. TrustRead (rest c.args.r.now) a c.entries.extra) (sym q) (syntax_least trusts _ (λ x p. walk_none 117 _ (rest c.entries.r) ms w e o x.first x.more p.0 p.1))

pub returns-then-is_at_end : goal.returns-then-is_at_end
returns-then-is_at_end c =
    let (ms, good, w, f, s, o) = c.entries.invariant in
    let n = c.in_ok-number.number in
    let e = c.entry.ensures.read ∙ ap (λ o. taken o (rest c.entry.new.r)) c.in_ok-number.ensures.ok_part in
    let more = walk_more 117 _ (rest c.entries.r) (rest c.entry.new.r) ms n w e in
    let (b, r, t) = c.note.ensures good ms (let l = walk_room 117 _ _ _ w in omega (arith, c.rest-left.type_inv.0, ap length c.rest-left.ensures)) s in
    let q = c.and-fits.ensures ∙ both_fit _ _ good b f r in
    subst (λ a. TrustRead (rest c.args.r.now) a c.note.new.extra) (sym q) (trust_read _ _ (good && b) (walk_end (Users c.note.new.extra) 117 _ (rest c.entry.new.r) ms n _ more (nil_is _ (sym c.is_at_end.ensures ∙ c.if-is_at_end.true)) t.users))

pub entries-smaller : goal.entries-smaller
entries-smaller c =
    let e = c.entry.ensures.read ∙ ap (λ o. taken o (rest c.entry.new.r)) c.in_ok-number.ensures.ok_part in
    entry_less 117 (rest c.entries.r) (rest c.entry.new.r) c.in_ok-number.number e

pub entries-preserved : goal.entries-preserved
entries-preserved c =
    let (ms, good, w, f, s, o) = c.entries.invariant in
    let n = c.in_ok-number.number in
    let e = c.entry.ensures.read ∙ ap (λ o. taken o (rest c.entry.new.r)) c.in_ok-number.ensures.ok_part in
    let more = walk_more 117 _ (rest c.entries.r) (rest c.entry.new.r) ms n w e in
    let (b, r, t) = c.note.ensures good ms (let l = walk_room 117 _ _ _ w in omega (arith, c.rest-left.type_inv.0, ap length c.rest-left.ensures)) s in
    let q = c.and-fits.ensures ∙ both_fit _ _ good b f r in
    (ms ++ n ∷ [], good && b, more, q, t, inr (nil_no _ (sym c.is_at_end.ensures ∙ c.if-is_at_end.false)))
