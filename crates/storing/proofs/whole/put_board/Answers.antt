use Rattle.std.proofs.Common.{ℕ, List, map, sym, ap, ◌∙◌}
use mathlib.Core.Path.{subst⁻¹}
use Rattle.meaning.specs.Lists.{Nth}
use Rattle.meaning.specs.Terms.{regime_of}
use Rattle.pen.proofs.Join.{join, to, here}
use Rattle.pen.specs.Puts.{Wrote}
use Rattle.tables.specs.declared.entries.AssignEntry.{AssignEntry}
use Rattle.tables.specs.declared.entries.RequirementEntry.{RequirementEntry}
use Rattle.tables.specs.View.{policy_of, assign_of, revoke_of, requirement_of}
use Rattle.soundness.specs.Valid.{Whole}
use Rattle.drafts.specs.Neat.{OfSet}
use Rattle.boardtext.specs.Canonical.{each, assign_text, revoke_text, requirement_text, regime_text}
use Rattle.storing.proofs.Parts.{regime_at, assigns_at, revokes_at, requirements_at}
use Rattle.storing.proofs.whole.put_board.Goals as goal
use Rattle.storing.proofs.whole.put_board.Goals.{in-Aatu, in-Aar}

pub returns : goal.returns
returns c n =
    let t = c.args.tables.now in
    let regime : Wrote c.bytes.new.self (regime_text (policy_of t).regime) c.match-tables.w = elim c.match-tables.branch [
      | in-Aatu w ↦ here _ _ _ _ w.w-is (to _ _ _ _ (sym (ap regime_text (regime_at t ∙ ap regime_of w.in-Aatu.is))) w.bytes-in-Aatu.ensures)
      | in-Aar w ↦ here _ _ _ _ w.w-is (to _ _ _ _ (sym (ap regime_text (regime_at t ∙ ap regime_of w.in-Aar.is))) w.bytes-in-Aar.ensures)
    ] in
    let assigns = to _ _ _ _ (ap (λ (es : List AssignEntry). each assign_text (map assign_of es)) c.entries.ensures.all ∙ ap (each assign_text) (sym (assigns_at t)))
    (c.put_assigns.ensures (subst⁻¹ (λ (es : List AssignEntry). (k : ℕ) (e : AssignEntry) → Nth k e es → Whole e.needs) c.entries.ensures.all n.needs_whole)) in
    let revokes = to _ _ _ _ (ap (λ es. each revoke_text (map revoke_of es)) c.entries-2.ensures.all ∙ ap (each revoke_text) (sym (revokes_at t))) c.put_revokes.ensures in
    let requirements = to _ _ _ _ (ap (λ (es : List RequirementEntry). each requirement_text (map requirement_of es)) c.entries-3.ensures.all ∙ ap (each requirement_text) (sym (requirements_at t)))
    (c.put_requirements.ensures (subst⁻¹ (λ (es : List RequirementEntry). (k : ℕ) (e : RequirementEntry) → Nth k e es → OfSet e.larger × OfSet e.smaller) c.entries-3.ensures.all n.sides_whole)) in
    join _ _ _ _ _ c.bytes.ensures (join _ _ _ _ _ regime (join _ _ _ _ _ c.put_users.ensures (join _ _ _ _ _ c.put_gifts.ensures (join _ _ _ _ _ c.put_edges.ensures (join _ _ _ _ _ c.put_trust.ensures (join _ _ _ _ _ assigns (join _ _ _ _ _ revokes requirements)))))))
