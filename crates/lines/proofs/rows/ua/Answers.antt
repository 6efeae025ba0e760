use Rattle.std.proofs.Common.{◌≡◌, Err, refl, sym, subst, rules}
use Rattle.meaning.specs.Measures as measures
use Rattle.grammar.specs.Text.{rest}
use Rattle.rbac.specs.declared.users.User.{User}
use Rattle.lines.specs.declared.keyword.Keyword.TheVariants.{Ua}
use Rattle.lines.proofs.Judging.{retold}
use Rattle.lines.proofs.rows.ua.Goals as goal
use Rattle.lines.specs.Changes.{says_ua, Body}

pub returns-in_err-row : goal.returns-in_err-row
returns-in_err-row c =
    let q : c.from_residual.result ≡ Err c.in_err-row.field-0.0 = search rules in
    subst (λ a. Body Ua (rest c.args.r.now) a c.args.extra.now) (sym q) (c.in_err-row.ensures measures.users (λ (n : User). n.number) (λ k o p. p) refl)

pub returns : goal.returns
returns c =
    let h = c.in_ok-row.ensures measures.users (λ (n : User). n.number) (λ k o p. p) refl in
    (h.0, retold _ _ h.1 (λ x o. says_ua o.subject_is (record { set = o.names.set; twice = o.names.twice })))
