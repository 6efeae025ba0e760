-- The ways of a question, as ways through its table.
use Rattle.std.proofs.Common.{◌≡◌, ◌≢◌, ℕ, ◌<◌, ◌≤◌, ◌⊎◌, List, length, take, drop, Some, None, Option, MatchOption, Err, inl, inr, refl, ◌∙◌, subst, arith, lit<}
use Rattle.std.specs.Option.{is_some}
use Rattle.steps.specs.declared.short.TooShort.{TooShort}
use Rattle.steps.specs.declared.short.TooShort.TheVariants.{Words, Places}
use Rattle.meaning.specs.Measures as measures
use Rattle.meaning.specs.Membership.{State}
use Rattle.meaning.specs.Rules.{Policy}
use Rattle.meaning.specs.Sets.{Question}
use Rattle.meaning.specs.declared.terms.Kind.{Kind}
use Rattle.deciding.specs.declared.runs.RunStep.{RunStep}
use Rattle.verdicts.specs.Verdict.{Settled}
use Rattle.lines.specs.Lines.{questions}
use Rattle.texts.specs.declared.faults.Fault.{Fault}
use Rattle.texts.specs.Answers.{Faulty}
use Rattle.book.specs.Refusals.{Least, lent, NoneApplies}
use Rattle.book.specs.Calls.{askings}
use Rattle.book.proofs.Ladder.{end, pass, here}
use Rattle.book.proofs.Tabled.{faultless, first_others}
use Rattle.weighing.proofs.Concluding.{long_enough}
use Rattle.meaning.specs.Measures.{list_places}
use Rattle.meaning.specs.Runs.{Change, moves}
use Rattle.meaning.specs.Witnesses.{Shows, Sought, sought_by}
use Rattle.lines.specs.Languages.{Says}
use Rattle.lines.specs.Lines.{Sentence}
use Rattle.grammar.specs.declared.grounds.Ground.TheVariants.{Syntax, Range, Measure, NotSemiStatic}
use Rattle.texts.specs.declared.faults.Fault.TheVariants.{TooLong, Mark, InLine}
use Rattle.book.specs.Numbers.{number_of}
use Rattle.book.specs.Faults.{refusal_of}
use Rattle.book.specs.Book.{Book}
use Rattle.book.specs.Says.{Poses}
use Rattle.book.specs.Outcomes.{Answers, verdict, run_in}
use Rattle.verdicts.specs.declared.verdict.Shown.{Shown}
use Rattle.verdicts.specs.declared.verdict.Verdict.{Verdict}
use Rattle.verdicts.specs.Verdict.{Decided}
use Rattle.board.specs.Answers.{run_of, shown_by}
use Rattle.board.proofs.Refusing.{counted}
use Rattle.verdicts.specs.Looking.{as_changes}

-- a list or a work table that is too short, as the engine says it
pub too_short : (kind : Kind) (p : Policy) (s : State) (q : Question) (words : ℕ) (list after : List RunStep) (x : TooShort)
    → Settled kind p s q words list (Err x) after → ((length list < measures.list_places) ⊎ (words < measures.work_words)) × (after ≡ list)
too_short kind p s q words list after Words (l, kept) = (inr l, kept)
too_short kind p s q words list after Places (l, kept) = (inl l, kept)

module _ (text : List ℕ) (list work : ℕ) (clean : (d : Fault) → Faulty questions text d → ⊥) where
  pub short : (list < measures.list_places) ⊎ (work < measures.work_words) → Least (askings text list work) 7
  short h = first_others questions text (lent list work) (lit< tt, tt) clean (here h tt)

  pub none : measures.list_places ≤ list → measures.work_words ≤ work → NoneApplies (askings text list work)
  none places words = faultless questions text (lent list work) (lit< tt, tt) clean (pass (long_enough list work places words) end)

-- no fault of a text is a failed requirement
pub few_faults : (f : Fault) → number_of (refusal_of f).cause ≢ 18
few_faults TooLong e = omega (arith, e)
few_faults Mark e = omega (arith, e)
few_faults (InLine Syntax n) e = omega (arith, e)
few_faults (InLine Range n) e = omega (arith, e)
few_faults (InLine Measure n) e = omega (arith, e)
few_faults (InLine NotSemiStatic n) e = omega (arith, e)

some_shown : (o : Option Shown) (list : List RunStep) → is_some (shown_by o list) ≡ is_some o
some_shown (Some x) list = refl
some_shown None list = refl

run_shown : (P : List Change → Type 0) (Q : Type 0) (R S : Shown → Type 0) (o : Option Shown) (list : List RunStep) → MatchOption o Q (λ x. P (run_of x list) × R x × S x) → MatchOption (shown_by o list) (Unit {0}) P
run_shown P Q R S (Some x) list h = h.0
run_shown P Q R S None list h = tt

-- what is decided answers the question that the text poses
pub answered : (b : Book) (text : List ℕ) (list left : List RunStep) (kind : Kind) (q : Question) (v : Verdict) (f : Sentence) → Says questions text f → Poses f kind q
    → Decided kind b.policy b.state q list v left → Answers b text kind v.yes (shown_by v.run left)
answered b text list left kind q v f said poses d = record {
  sentence = f;
  said = said;
  question = q;
  poses = poses;
  exact = d.exact;
  shown = some_shown v.run left ∙ d.shown;
  shows = run_shown (Shows (moves b.policy) b.state q (Sought (sought_by kind) b.policy q) list_places) (left ≡ list) (λ (x : Shown). drop x.steps left ≡ drop x.steps list) (λ (x : Shown). x.steps ≤ length left) v.run left d.run;
}

-- and leaves what is behind its run
pub kept : (kind : Kind) (p : Policy) (s : State) (q : Question) (list left : List RunStep) (v : Verdict) → Decided kind p s q list v left
    → drop (length (run_in (verdict kind v.yes (shown_by v.run left)))) left ≡ drop (length (run_in (verdict kind v.yes (shown_by v.run left)))) list
kept kind p s q list left v d = go v.run d.run
  where
    go : (o : Option Shown)
        → MatchOption o (left ≡ list) (λ x. Shows (moves p) s q (Sought (sought_by kind) p q) list_places (as_changes x.adds (take x.steps left)) × (drop x.steps left ≡ drop x.steps list) × (x.steps ≤ length left))
        → drop (length (run_in (verdict kind v.yes (shown_by o left)))) left ≡ drop (length (run_in (verdict kind v.yes (shown_by o left)))) list
    go (Some x) (shows, rest, fits) = subst (λ (m : ℕ). drop m left ≡ drop m list) (counted x.adds x.steps left fits) rest
    go None same = same
