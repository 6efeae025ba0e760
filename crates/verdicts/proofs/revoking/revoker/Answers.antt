use Rattle.std.proofs.Common.{◌+◌, map, Some, None, ap, ◌∙◌, sym, subst}
use mathlib.Core.Path.{subst⁻¹}
use Rattle.tables.specs.View.{policy_of, revoke_of}
use Rattle.tables.specs.declared.entries.RevokeEntry.{RevokeEntry}
use Rattle.verdicts.specs.declared.revoker.Revoker.{Revoker}
use Rattle.verdicts.specs.Revoking.{RevokedBy}
use Rattle.verdicts.proofs.Ruling.{ruled, unruled, revokes_are}
use Rattle.verdicts.proofs.revoking.revoker.Goals as goal

pub returns-in_err-at : goal.returns-in_err-at
returns-in_err-at c =
    let r = c.args.role.number in
    let same = ap (map revoke_of) c.entries-rules.ensures.all ∙ sym (revokes_are c.args.tables.now) in
    subst⁻¹ (RevokedBy (policy_of c.args.tables.now).revokes r) c.from_residual.ensures
    (subst (λ rules. RevokedBy rules r None) same (unruled c.entries-rules.result.now r (sym c.first_with.ensures ∙ c.in_err-at.was)))

pub returns : goal.returns
returns c =
    let r = c.args.role.number in
    let x = c.index-rules-at.result in
    let same = ap (map revoke_of) c.entries-rules.ensures.all ∙ sym (revokes_are c.args.tables.now) in
    let by : Revoker = record { rule = c.in_ok-at.at + 1; admin = x.admin } in
    let found : RevokedBy (policy_of c.args.tables.now).revokes r (Some by) = subst (λ rules. RevokedBy rules r (Some by)) same (ruled c.entries-rules.result.now r c.in_ok-at.at x (sym c.first_with.ensures ∙ c.in_ok-at.was) c.index-rules-at.is) in
    subst (λ (e : RevokeEntry). RevokedBy (policy_of c.args.tables.now).revokes r (Some (record { rule = c.in_ok-at.at + 1; admin = e.admin }))) c.index-rules-at.is found
