use Rattle.std.proofs.Common.{◌≡◌, Err, refl, sym, subst, rules}
use Rattle.meaning.specs.Measures as measures
use Rattle.grammar.specs.Text.{rest}
use Rattle.rbac.specs.declared.roles.Role.{Role}
use Rattle.lines.specs.declared.keyword.Keyword.TheVariants.{Rh}
use Rattle.lines.proofs.Judging.{retold}
use Rattle.lines.proofs.Rowing.{makes_role}
use Rattle.lines.proofs.rows.rh.Goals as goal
use Rattle.lines.specs.Changes.{says_rh, Body}

pub returns-in_err-row : goal.returns-in_err-row
returns-in_err-row c =
    let q : c.from_residual.result ≡ Err c.in_err-row.field-0.0 = search rules in
    subst (λ a. Body Rh (rest c.args.r.now) a c.args.extra.now) (sym q) (c.in_err-row.ensures measures.roles (λ (n : Role). n.number) (makes_role) refl)

pub returns : goal.returns
returns c =
    let h = c.in_ok-row.ensures measures.roles (λ (n : Role). n.number) (makes_role) refl in
    (h.0, retold _ _ h.1 (λ x o. says_rh o.subject_is (record { set = o.names.set; twice = o.names.twice })))
