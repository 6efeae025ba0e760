use Rattle.std.proofs.Common.{◌≡◌, true, false, Err, refl, sym, ap, ◌∙◌, subst, rules, arith}
use Rattle.std.specs.Option.{is_some}
use Rattle.grammar.specs.Text.{rest}
use Rattle.grammar.specs.declared.grounds.Ground.TheVariants.{Syntax}
use Rattle.lines.specs.declared.keyword.Keyword.TheVariants.{Assign}
use Rattle.lines.specs.Clauses.{Assigns, Conditions}
use Rattle.lines.proofs.Assigning.{assign_syntax, assign_verdict, admin_small, names_fit, assign_built, assign_told}
use Rattle.lines.proofs.assign.assign.Goals as goal
use Rattle.lines.specs.Changes.{Body}

pub returns-in_err-m : goal.returns-in_err-m
returns-in_err-m c =
    let q : c.from_residual.result ≡ Err Syntax = search rules in
    subst (λ a. Body Assign (rest c.args.r.now) a c.args.extra.now) (sym q) (assign_syntax _ (subst (Assigns (rest c.args.r.now)) c.in_err-m.ensures.ok_part c.assigning.ensures))

pub returns-in_err-weigh : goal.returns-in_err-weigh
returns-in_err-weigh c =
    let q : c.from_residual-in_err-weigh.result ≡ Err c.in_err-weigh.field-0.0 = search rules in
    let h = subst (Assigns (rest c.args.r.now)) c.in_ok-m.ensures.ok_part c.assigning.ensures in
    subst (λ a. Body Assign (rest c.args.r.now) a c.args.extra.now) (sym q) (assign_verdict _ c.in_ok-m.m h (Err c.in_err-weigh.field-0.0) c.in_err-weigh.ensures)

pub returns-in_err-admin : goal.returns-in_err-admin
returns-in_err-admin c =
    let h = subst (Assigns (rest c.args.r.now)) c.in_ok-m.ensures.ok_part c.assigning.ensures in
    let l = admin_small _ c.in_ok-m.m h c.in_ok-weigh.ensures in
    let n = rw c.in_err-admin.ensures.ok_part at c.new.ensures in
    absurd (omega arith)

pub returns-in_err-names : goal.returns-in_err-names
returns-in_err-names c =
    let h = subst (Assigns (rest c.args.r.now)) c.in_ok-m.ensures.ok_part c.assigning.ensures in
    let f : false ≡ true = sym (ap is_some c.in_err-names.ensures.ok_part) ∙ names_fit _ c.in_ok-m.m h c.in_ok-weigh.ensures in
    cc

pub returns-in_err-extra : goal.returns-in_err-extra
returns-in_err-extra c =
    let h = subst (Assigns (rest c.args.r.now)) c.in_ok-m.ensures.ok_part c.assigning.ensures in
    let b = subst (λ s. Conditions s c.in_ok-m.m.size c.condition.result) c.new-again.ensures.rest c.condition.ensures in
    assign_built _ c.in_ok-m.m h c.in_ok-weigh.ensures (subst (Conditions _ c.in_ok-m.m.size) c.in_err-extra.ensures.ok_part b)

pub returns : goal.returns
returns c =
    let h = subst (Assigns (rest c.args.r.now)) c.in_ok-m.ensures.ok_part c.assigning.ensures in
    let n = rw c.in_ok-admin.ensures.ok_part at c.new.ensures in
    let b = subst (λ s. Conditions s c.in_ok-m.m.size c.condition.result) c.new-again.ensures.rest c.condition.ensures in
    let t = subst (Conditions _ c.in_ok-m.m.size) c.in_ok-extra.ensures.ok_part b in
    assign_told _ c.in_ok-m.m h c.in_ok-weigh.ensures _ c.in_ok-names.ensures.ok_part _ t _ refl refl c.in_ok-admin.admin n
