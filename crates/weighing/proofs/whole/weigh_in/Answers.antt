use Rattle.std.proofs.Common.{◌≡◌, length, Err, subst, rules}
use mathlib.Core.Path.{subst⁻¹}
use Rattle.tables.specs.declared.tables.Tables.{Tables}
use Rattle.book.specs.Stories.{AllStand}
use Rattle.drafts.specs.View.{book_of}
use Rattle.drafts.specs.Neat.{Neat}
use Rattle.weighing.specs.Weighing.{FailsBy, cause_of, Weighed}
use Rattle.weighing.proofs.Concluding.{by_regime, by_requirement, passes}
use Rattle.weighing.proofs.whole.weigh_in.Goals as goal

pub all_stand-requires : goal.all_stand-requires
all_stand-requires c = record {
  entries = c.entries.ensures.all;
  neat = subst⁻¹ (λ (t : Tables). (Neat t → ⊥) → ⊥) c.in_ok-valid.ensures.0 c.args.draft.now.neat;
  places = c.requires.places;
  words = c.requires.words;
}

pub returns-in_err-valid : goal.returns-in_err-valid
returns-in_err-valid c =
    let is : c.from_residual.result ≡ Err c.in_err-valid.field-0.0 = search rules in
    subst⁻¹ (λ r. Weighed c.args.draft.now.tables c.args.list.now (length c.args.work.now) r c.args.list.now) is
    (by_regime c.args.draft.now.tables c.args.list.now _ c.requires.places c.requires.words c.in_err-valid.field-0.0 c.in_err-valid.ensures)

pub returns-in_err-all_stand : goal.returns-in_err-all_stand
returns-in_err-all_stand c =
    let f = c.in_err-all_stand.field-0.0 in
    let is : c.from_residual-in_err-all_stand.result ≡ Err (cause_of f) = search rules in
    subst⁻¹ (λ r. Weighed c.args.draft.now.tables c.args.list.now (length c.args.work.now) r c.all_stand.new.list) is
    (by_requirement c.args.draft.now.tables c.args.list.now _ c.requires.places c.requires.words c.in_ok-valid.ensures.1 f c.all_stand.new.list
    (subst (λ (t : Tables). FailsBy (book_of t) f c.args.list.now c.all_stand.new.list) c.in_ok-valid.ensures.0 c.in_err-all_stand.ensures))

pub returns : goal.returns
returns c =
    passes c.args.draft.now.tables c.args.list.now _ c.requires.places c.requires.words c.in_ok-valid.ensures.1 c.in_ok-valid.valid c.in_ok-valid.ensures.0
    (subst (λ (t : Tables). AllStand (book_of t)) c.in_ok-valid.ensures.0 c.in_ok-all_stand.ensures.0) c.all_stand.new.list c.in_ok-all_stand.ensures.1
