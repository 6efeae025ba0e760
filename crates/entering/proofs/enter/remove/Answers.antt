use Rattle.std.proofs.Common.{ap, ◌∙◌, sym, subst}
use mathlib.Core.Path.{subst⁻¹}
use Rattle.texts.specs.declared.faults.Way.TheVariants.{Remove as removing}
use Rattle.tables.specs.declared.entries.AssignEntry.{AssignEntry}
use Rattle.tables.specs.View.{assign_of, requirement_of}
use Rattle.soundness.specs.Valid.{Whole}
use Rattle.book.specs.Book.{Entry, assigns, requires as required}
use Rattle.book.specs.Entering.{Entered}
use Rattle.drafts.specs.View.{book_of}
use Rattle.entering.specs.Laid.{SidesWhole}
use Rattle.entering.proofs.Named.{Names, names}
use Rattle.entering.proofs.enter.remove.Goals as goal
use Rattle.book.specs.Says.{line_entry}
use Rattle.lines.specs.Changes.{NamesRoles}

pub remove-requires-in-Assign-clause-whole : goal.remove-requires-in-Assign-clause-whole
remove-requires-in-Assign-clause-whole c =
    let (rs, is, lists, whole) = subst (λ x. Names x c.args.extra.now (line_entry c.requires.readable.line)) c.in-Assign.is (names c.args.change c.args.extra.now c.requires.readable) in
    subst⁻¹ (λ (e : AssignEntry). Whole e.needs) c.rule.ensures whole

pub remove-requires-in-Always-clause-whole : goal.remove-requires-in-Always-clause-whole
remove-requires-in-Always-clause-whole c =
    let (is, whole) = subst (λ x. Names x c.args.extra.now (line_entry c.requires.readable.line)) c.in-Always.is (names c.args.change c.args.extra.now c.requires.readable) in
    subst⁻¹ SidesWhole c.requirement.ensures whole

pub remove-requires-in-Never-clause-whole : goal.remove-requires-in-Never-clause-whole
remove-requires-in-Never-clause-whole c =
    let (is, whole) = subst (λ x. Names x c.args.extra.now (line_entry c.requires.readable.line)) c.in-Never.is (names c.args.change c.args.extra.now c.requires.readable) in
    subst⁻¹ SidesWhole c.requirement-in-Never.ensures whole

pub returns-in-Ua-clause-entered : goal.returns-in-Ua-clause-entered
returns-in-Ua-clause-entered c x =
    let (rs, is, lists) = subst (λ y. Names y c.args.extra.now (line_entry x.line)) c.in-Ua.is (names c.args.change c.args.extra.now x) in
    subst⁻¹ (λ (e : Entry). Entered removing (book_of c.args.tables.now) e c.remove.result (book_of c.remove.new.tables)) is (c.remove.ensures.entered rs lists)

pub returns-in-Pa-clause-entered : goal.returns-in-Pa-clause-entered
returns-in-Pa-clause-entered c x =
    let (rs, is, lists) = subst (λ y. Names y c.args.extra.now (line_entry x.line)) c.in-Pa.is (names c.args.change c.args.extra.now x) in
    subst⁻¹ (λ (e : Entry). Entered removing (book_of c.args.tables.now) e c.remove-in-Pa.result (book_of c.remove-in-Pa.new.tables)) is (c.remove-in-Pa.ensures.entered rs lists)

pub returns-in-Rh-clause-entered : goal.returns-in-Rh-clause-entered
returns-in-Rh-clause-entered c x =
    let (rs, is, lists) = subst (λ y. Names y c.args.extra.now (line_entry x.line)) c.in-Rh.is (names c.args.change c.args.extra.now x) in
    subst⁻¹ (λ (e : Entry). Entered removing (book_of c.args.tables.now) e c.remove-in-Rh.result (book_of c.remove-in-Rh.new.tables)) is (c.remove-in-Rh.ensures.entered rs lists)

pub returns-in-Revoke-clause-entered : goal.returns-in-Revoke-clause-entered
returns-in-Revoke-clause-entered c x =
    let (rs, is, lists) = subst (λ y. Names y c.args.extra.now (line_entry x.line)) c.in-Revoke.is (names c.args.change c.args.extra.now x) in
    subst⁻¹ (λ (e : Entry). Entered removing (book_of c.args.tables.now) e c.remove-in-Revoke.result (book_of c.remove-in-Revoke.new.tables)) is (c.remove-in-Revoke.ensures.entered rs lists)

pub returns-in-Trust-clause-entered : goal.returns-in-Trust-clause-entered
returns-in-Trust-clause-entered c x =
    let (us, is, told, inside) = subst (λ y. Names y c.args.extra.now (line_entry x.line)) c.in-Trust.is (names c.args.change c.args.extra.now x) in
    subst⁻¹ (λ (e : Entry). Entered removing (book_of c.args.tables.now) e c.remove-in-Trust.result (book_of c.remove-in-Trust.new.tables)) is (c.remove-in-Trust.ensures.entered us told inside)

pub returns-in-Assign-clause-entered : goal.returns-in-Assign-clause-entered
returns-in-Assign-clause-entered c x =
    let t = c.args.tables.now in
    let e = c.args.extra.now in
    let (rs, is, lists, whole) = subst (λ y. Names y e (line_entry x.line)) c.in-Assign.is (names c.args.change e x) in
    subst⁻¹ (λ (n : Entry). Entered removing (book_of t) n c.remove-in-Assign.result (book_of c.remove-in-Assign.new.tables)) (is ∙ ap (λ a. assigns (assign_of a) rs) (sym c.rule.ensures))
    (c.remove-in-Assign.ensures.entered rs (subst⁻¹ (λ (a : AssignEntry). NamesRoles rs a.targets e) c.rule.ensures lists))

pub returns-in-Always-clause-entered : goal.returns-in-Always-clause-entered
returns-in-Always-clause-entered c x =
    let t = c.args.tables.now in
    let (is, whole) = subst (λ y. Names y c.args.extra.now (line_entry x.line)) c.in-Always.is (names c.args.change c.args.extra.now x) in
    subst⁻¹ (λ (n : Entry). Entered removing (book_of t) n c.remove-in-Always.result (book_of c.remove-in-Always.new.tables)) (is ∙ ap (λ r. required (requirement_of r)) (sym c.requirement.ensures)) c.remove-in-Always.ensures.entered

pub returns-in-Never-clause-entered : goal.returns-in-Never-clause-entered
returns-in-Never-clause-entered c x =
    let t = c.args.tables.now in
    let (is, whole) = subst (λ y. Names y c.args.extra.now (line_entry x.line)) c.in-Never.is (names c.args.change c.args.extra.now x) in
    subst⁻¹ (λ (n : Entry). Entered removing (book_of t) n c.remove-in-Never.result (book_of c.remove-in-Never.new.tables)) (is ∙ ap (λ r. required (requirement_of r)) (sym c.requirement-in-Never.ensures)) c.remove-in-Never.ensures.entered
