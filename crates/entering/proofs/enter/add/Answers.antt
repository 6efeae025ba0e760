use Rattle.std.proofs.Common.{ap, ◌∙◌, sym, subst}
use mathlib.Core.Path.{subst⁻¹}
use Rattle.texts.specs.declared.faults.Way.TheVariants.{Add as adding}
use Rattle.tables.specs.declared.entries.AssignEntry.{AssignEntry}
use Rattle.tables.specs.View.{assign_of, requirement_of}
use Rattle.soundness.specs.Valid.{Whole}
use Rattle.book.specs.Book.{Entry, assigns, requires as required}
use Rattle.book.specs.Entering.{Entered}
use Rattle.drafts.specs.View.{book_of}
use Rattle.entering.specs.Laid.{SidesWhole}
use Rattle.entering.proofs.Named.{Names, names}
use Rattle.entering.proofs.enter.add.Goals as goal
use Rattle.book.specs.Says.{line_entry}
use Rattle.lines.specs.Changes.{NamesRoles}

pub add-requires-in-Assign-clause-whole : goal.add-requires-in-Assign-clause-whole
add-requires-in-Assign-clause-whole c =
    let (rs, is, lists, whole) = subst (λ x. Names x c.args.extra.now (line_entry c.requires.readable.line)) c.in-Assign.is (names c.args.change c.args.extra.now c.requires.readable) in
    subst⁻¹ (λ (e : AssignEntry). Whole e.needs) c.rule.ensures whole

pub add-requires-in-Always-clause-whole : goal.add-requires-in-Always-clause-whole
add-requires-in-Always-clause-whole c =
    let (is, whole) = subst (λ x. Names x c.args.extra.now (line_entry c.requires.readable.line)) c.in-Always.is (names c.args.change c.args.extra.now c.requires.readable) in
    subst⁻¹ SidesWhole c.requirement.ensures whole

pub add-requires-in-Never-clause-whole : goal.add-requires-in-Never-clause-whole
add-requires-in-Never-clause-whole c =
    let (is, whole) = subst (λ x. Names x c.args.extra.now (line_entry c.requires.readable.line)) c.in-Never.is (names c.args.change c.args.extra.now c.requires.readable) in
    subst⁻¹ SidesWhole c.requirement-in-Never.ensures whole

pub returns-in-Ua-clause-entered : goal.returns-in-Ua-clause-entered
returns-in-Ua-clause-entered c x =
    let (rs, is, lists) = subst (λ y. Names y c.args.extra.now (line_entry x.line)) c.in-Ua.is (names c.args.change c.args.extra.now x) in
    subst⁻¹ (λ (e : Entry). Entered adding (book_of c.args.tables.now) e c.add.result (book_of c.add.new.tables)) is (c.add.ensures.entered rs lists)

pub returns-in-Pa-clause-entered : goal.returns-in-Pa-clause-entered
returns-in-Pa-clause-entered c x =
    let (rs, is, lists) = subst (λ y. Names y c.args.extra.now (line_entry x.line)) c.in-Pa.is (names c.args.change c.args.extra.now x) in
    subst⁻¹ (λ (e : Entry). Entered adding (book_of c.args.tables.now) e c.add-in-Pa.result (book_of c.add-in-Pa.new.tables)) is (c.add-in-Pa.ensures.entered rs lists)

pub returns-in-Rh-clause-entered : goal.returns-in-Rh-clause-entered
returns-in-Rh-clause-entered c x =
    let (rs, is, lists) = subst (λ y. Names y c.args.extra.now (line_entry x.line)) c.in-Rh.is (names c.args.change c.args.extra.now x) in
    subst⁻¹ (λ (e : Entry). Entered adding (book_of c.args.tables.now) e c.add-in-Rh.result (book_of c.add-in-Rh.new.tables)) is (c.add-in-Rh.ensures.entered rs lists)

pub returns-in-Revoke-clause-entered : goal.returns-in-Revoke-clause-entered
returns-in-Revoke-clause-entered c x =
    let (rs, is, lists) = subst (λ y. Names y c.args.extra.now (line_entry x.line)) c.in-Revoke.is (names c.args.change c.args.extra.now x) in
    subst⁻¹ (λ (e : Entry). Entered adding (book_of c.args.tables.now) e c.add-in-Revoke.result (book_of c.add-in-Revoke.new.tables)) is (c.add-in-Revoke.ensures.entered rs lists)

pub returns-in-Trust-clause-entered : goal.returns-in-Trust-clause-entered
returns-in-Trust-clause-entered c x =
    let (us, is, told, inside) = subst (λ y. Names y c.args.extra.now (line_entry x.line)) c.in-Trust.is (names c.args.change c.args.extra.now x) in
    subst⁻¹ (λ (e : Entry). Entered adding (book_of c.args.tables.now) e c.add-in-Trust.result (book_of c.add-in-Trust.new.tables)) is (c.add-in-Trust.ensures.entered us told inside)

pub returns-in-Trust-clause-laid : goal.returns-in-Trust-clause-laid
returns-in-Trust-clause-laid c =
    let (us, is, told, inside) = subst (λ y. Names y c.args.extra.now (line_entry c.requires.readable.line)) c.in-Trust.is (names c.args.change c.args.extra.now c.requires.readable) in
    c.add-in-Trust.ensures.laid us told inside c.requires.laid

pub returns-in-Assign-clause-entered : goal.returns-in-Assign-clause-entered
returns-in-Assign-clause-entered c x =
    let t = c.args.tables.now in
    let e = c.args.extra.now in
    let (rs, is, lists, whole) = subst (λ y. Names y e (line_entry x.line)) c.in-Assign.is (names c.args.change e x) in
    subst⁻¹ (λ (n : Entry). Entered adding (book_of t) n c.add-in-Assign.result (book_of c.add-in-Assign.new.tables)) (is ∙ ap (λ a. assigns (assign_of a) rs) (sym c.rule.ensures))
    (c.add-in-Assign.ensures.entered rs (subst⁻¹ (λ (a : AssignEntry). NamesRoles rs a.targets e) c.rule.ensures lists))

pub returns-in-Always-clause-entered : goal.returns-in-Always-clause-entered
returns-in-Always-clause-entered c x =
    let t = c.args.tables.now in
    let (is, whole) = subst (λ y. Names y c.args.extra.now (line_entry x.line)) c.in-Always.is (names c.args.change c.args.extra.now x) in
    subst⁻¹ (λ (n : Entry). Entered adding (book_of t) n c.add-in-Always.result (book_of c.add-in-Always.new.tables)) (is ∙ ap (λ r. required (requirement_of r)) (sym c.requirement.ensures)) c.add-in-Always.ensures.entered

pub returns-in-Never-clause-entered : goal.returns-in-Never-clause-entered
returns-in-Never-clause-entered c x =
    let t = c.args.tables.now in
    let (is, whole) = subst (λ y. Names y c.args.extra.now (line_entry x.line)) c.in-Never.is (names c.args.change c.args.extra.now x) in
    subst⁻¹ (λ (n : Entry). Entered adding (book_of t) n c.add-in-Never.result (book_of c.add-in-Never.new.tables)) (is ∙ ap (λ r. required (requirement_of r)) (sym c.requirement-in-Never.ensures)) c.add-in-Never.ensures.entered
