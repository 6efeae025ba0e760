-- A pipeline as a step system: stage 0 can always be done, and each later one when the stage before it is done.
use Rattle.std.specs.Prelude.{◌≡◌, ℕ, ◌-◌, true, ◌⊎◌}
use Rattle.steps.specs.Steps.{System}

abbrev pub pipeline : ℕ → System ℕ
pipeline n = record {
  facts = n;
  steps = n;
  makes = λ s. s;
  opens = λ s f. (s ≡ 0) ⊎ (f (s - 1) ≡ true);
  records = λ s f r. r ≡ s;
}
