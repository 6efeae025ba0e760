-- One step more is one line more.
use Rattle.std.proofs.Common.{◌≡◌, ℕ, ◌+◌, ◌<◌, Bool, true, false, List, [], ◌∷◌, ◌++◌, length, get_or, take, decimal, sym, refl, ap, ◌∙◌, append_assoc}
use Rattle.std.proofs.lemmas.List.{take_more, map-append, append-nil, length-map}
use Rattle.meaning.specs.Runs.{Change}
use Rattle.deciding.specs.declared.runs.RunStep.{RunStep}
use Rattle.verdicts.specs.Looking.{change_of, as_changes}
use Rattle.report.specs.Texts.{does_word, told_step, step_text, run_text, with_run}

joined : (xs ys : List Change) → run_text (xs ++ ys) ≡ run_text xs ++ run_text ys
joined [] ys = refl
joined (x ∷ xs) ys = ap (λ t. step_text x ++ t) (joined xs ys) ∙ sym (append_assoc (step_text x) (run_text xs) (run_text ys))

pub one_more : (adds : Bool) (xs : List RunStep) (i : ℕ) (x : RunStep) → i < length xs → x ≡ get_or xs i x
    → run_text (as_changes adds (take i xs)) ++ step_text (change_of adds x) ≡ run_text (as_changes adds (take (i + 1) xs))
one_more adds xs i x l is =
    let f = change_of adds in
    let before = run_text (as_changes adds (take i xs)) in
    sym (ap (λ ys. run_text (as_changes adds ys)) (take_more xs i x l)
    ∙ ap run_text (map-append f (take i xs) (get_or xs i x ∷ []))
    ∙ joined (as_changes adds (take i xs)) (f (get_or xs i x) ∷ [])
    ∙ ap (λ t. before ++ t) (append-nil (step_text (f (get_or xs i x))))
    ∙ ap (λ y. before ++ step_text (f y)) (sym is))

pub step_is : (adds : Bool) (x : RunStep) → told_step x.actor.number (does_word adds) x.user.number x.role.number x.rule ≡ step_text (change_of adds x)
step_is true x = refl
step_is false x = refl

-- a run that stands at the front of the list, with its length before it
pub run_is : (adds : Bool) (n : ℕ) (list run : List RunStep) → run ≡ take n list → decimal (length run) ++ (10 ∷ run_text (as_changes adds run)) ≡ with_run (as_changes adds (take n list))
run_is adds n list run is = ap (λ k. decimal k ++ (10 ∷ run_text (as_changes adds run))) (sym (length-map run (change_of adds))) ∙ ap (λ ys. with_run (as_changes adds ys)) is
