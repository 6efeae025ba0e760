use Rattle.std.proofs.Common.{sym, ap, ◌∙◌, rules}
use Rattle.lines.specs.Entries.{entry_at}
use Rattle.lines.proofs.Entering.{entry_no_blank, entry_no_letter, entry_number}
use Rattle.lines.proofs.lists.entry.Goals as goal
use Rattle.lines.proofs.lists.entry.Goals.{else-take-via-then-take+else-take-2, else-take-via-else-take}

pub returns-in_err-number : goal.returns-in_err-number
returns-in_err-number c =
    let same = ap (entry_at c.args.letter) (sym (c.new-ahead.ensures.rest ∙ c.rest.ensures)) in
    rw c.from_residual.ensures (record { read = same ∙ entry_number _ _ _ _ c.if-take.ensures.read c.if-take-2.ensures.read ∙ c.in_err-number.ensures.read; kept = search rules })

pub returns-in_ok-number : goal.returns-in_ok-number
returns-in_ok-number c =
    let same = ap (entry_at c.args.letter) (sym (c.new-ahead.ensures.rest ∙ c.rest.ensures)) in
    record { read = same ∙ entry_number _ _ _ _ c.if-take.ensures.read c.if-take-2.ensures.read ∙ c.in_ok-number.ensures.read; kept = tt }

pub returns-else-take : goal.returns-else-take
returns-else-take c =
    let same = ap (entry_at c.args.letter) (sym (c.new-ahead.ensures.rest ∙ c.rest.ensures)) in
    record {
      read = same ∙ elim c.else-take.branch [
        | else-take-via-then-take+else-take-2 w ↦ entry_no_letter _ _ _ w.if-take.ensures.read w.if-take-2.ensures.read.0
        | else-take-via-else-take w ↦ entry_no_blank _ _ w.if-take.ensures.read.0
      ];
      kept = search rules;
    }
