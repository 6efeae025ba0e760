use Rattle.std.proofs.Common.{refl}
use Rattle.drafts.specs.Weighed.{KeepsProperties}
use Rattle.drafts.proofs.Properties.{under_aatu}
use Rattle.drafts.proofs.Weighing.{sound}
use Rattle.drafts.proofs.draft.Draft.weighed.Goals.{in-Aatu, in-Aar+in_ok-keeps_properties-in-Aar}
use Rattle.drafts.proofs.draft.Draft.weighed.Goals as goal

pub invariant_of-result : goal.invariant_of-result
invariant_of-result c =
    let kept : KeepsProperties c.args.self.now.tables = elim c.match-self.branch [
      | in-Aatu w ↦ under_aatu c.args.self.now.tables w.in-Aatu.is
      | in-Aar+in_ok-keeps_properties-in-Aar w ↦ w.in_ok-keeps_properties-in-Aar.ensures
    ] in
    record { sound = sound c.args.self.now.tables c.args.self.now.neat kept }

pub returns : goal.returns
returns c = (
  refl,
  elim c.match-self.branch [
    | in-Aatu w ↦ under_aatu c.args.self.now.tables w.in-Aatu.is
    | in-Aar+in_ok-keeps_properties-in-Aar w ↦ w.in_ok-keeps_properties-in-Aar.ensures
  ],
)
