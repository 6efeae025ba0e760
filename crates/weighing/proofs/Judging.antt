-- A requirement stands just where no run is shown.
use Rattle.std.proofs.Common.{◌≡◌, Bool, true, false, List, Some, None, Option, MatchOption, sym, refl, ap, ◌∙◌, subst}
use mathlib.Core.Bool.{beq, false≢true}
use Rattle.std.specs.Option.{is_some}
use Rattle.meaning.specs.Membership.{State}
use Rattle.meaning.specs.Rules.{Policy}
use Rattle.meaning.specs.Sets.{Question}
use Rattle.meaning.specs.Requirements.{Stands}
use Rattle.tables.specs.declared.entries.Demand.{Demand}
use Rattle.tables.specs.declared.entries.Demand.TheVariants.{Always, Never}
use Rattle.tables.specs.View.{demanded}
use Rattle.deciding.specs.declared.runs.RunStep.{RunStep}
use Rattle.verdicts.specs.declared.verdict.Shown.{Shown}
use Rattle.verdicts.specs.declared.verdict.Verdict.{Verdict}
use Rattle.verdicts.specs.Verdict.{Decided}
use Rattle.weighing.specs.Standing.{asked_by, Broken}

where_some : {A : Type 0} (o : Option A) (x : A) (P : Type 0) (Q : A → Type 0) → o ≡ Some x → MatchOption o P Q → Q x
where_some o x P Q e w = subst (λ r. MatchOption r P Q) e w

where_none : {A : Type 0} (o : Option A) (P : Type 0) (Q : A → Type 0) → o ≡ None → MatchOption o P Q → P
where_none o P Q e w = subst (λ r. MatchOption r P Q) e w

must_be_true : (b : Bool) → beq b false ≡ false → b ≡ true
must_be_true true e = refl
must_be_true false e = sym e

not_true : (b : Bool) → beq b true ≡ false → b ≡ true → ⊥
not_true true e f = false≢true (sym e)
not_true false e f = false≢true f

module _ (p : Policy) (s : State) (q : Question) (list : List RunStep) (v : Verdict) (after : List RunStep) where
  pub stands : (d : Demand) → Decided (asked_by d) p s q list v after → v.run ≡ None → Stands p s (demanded d q) × (after ≡ list)
  stands Always x e = (x.exact.0 (must_be_true v.yes (sym x.shown ∙ ap is_some e)), where_none v.run (after ≡ list) _ e x.run)
  stands Never x e = ((λ run r h. not_true v.yes (sym x.shown ∙ ap is_some e) (x.exact.1 (run, r, h))), where_none v.run (after ≡ list) _ e x.run)

  pub broken : (d : Demand) → Decided (asked_by d) p s q list v after → (run : Shown) → v.run ≡ Some run → Broken p s (demanded d q) list run after
  broken Always x run e = let (s, r, l) = where_some v.run run (after ≡ list) _ e x.run in record { shows = s; rest = r; fits = l }
  broken Never x run e = let (s, r, l) = where_some v.run run (after ≡ list) _ e x.run in record { shows = s; rest = r; fits = l }
