use Rattle.std.proofs.Common.{◌≡◌, ℕ, List, [], ◌∷◌, ◌++◌, Some, None, MatchOption, sym, refl, ◌∙◌, subst, inl, inr, rules}
use Rattle.grammar.specs.Text.{rest}
use Rattle.lines.specs.Lists.{Noted}
use Rattle.lines.proofs.Entering.{nil_is, nil_no, entry_less}
use Rattle.lines.proofs.Naming.{note_start, note_more}
use Rattle.lines.proofs.Walking.{Walk, walk_start, walk_more, walk_none, walk_end, listed_none}
use Rattle.lines.proofs.lists.roles.Goals as goal

pub entries-init : goal.entries-init
entries-init c = ([], subst (λ (x : List ℕ). Walk 114 (rest c.args.r.now) x []) (sym (c.new-ahead.ensures.rest ∙ c.rest.ensures)) (walk_start 114 _), note_start _ c.empty.ensures, inl refl, refl)

pub returns-in_err-number : goal.returns-in_err-number
returns-in_err-number c =
    let i = c.entries.invariant in
    let none = listed_none Noted 114 _ (walk_none 114 _ (rest c.entries.ahead) i.0 i.1 c.in_err-number.ensures.read i.3) in
    rw c.from_residual.ensures (record { read = none; left = let kept = i.4 in search rules })

pub returns-then-is_at_end : goal.returns-then-is_at_end
returns-then-is_at_end c =
    let i = c.entries.invariant in
    let n = c.in_ok-number.number in
    let f : MatchOption c.entries.names (c.and_then-names.result ≡ None) (λ v. (ms : List ℕ) → Noted (Some v) ms → Noted c.and_then-names.result (ms ++ n ∷ [])) = search rules in
    let end = nil_is _ (sym c.is_at_end.ensures ∙ c.if-is_at_end.true) in
    record { read = walk_end Noted 114 _ (rest c.entry.new.r) i.0 n _ (walk_more 114 _ (rest c.entries.ahead) (rest c.entry.new.r) i.0 n i.1 c.in_ok-number.ensures.read) end (note_more _ _ i.0 n i.2 f); left = search rules }

pub entries-smaller : goal.entries-smaller
entries-smaller c = entry_less 114 (rest c.entries.ahead) (rest c.entry.new.r) c.in_ok-number.number c.in_ok-number.ensures.read

pub entries-preserved : goal.entries-preserved
entries-preserved c =
    let i = c.entries.invariant in
    let n = c.in_ok-number.number in
    let f : MatchOption c.entries.names (c.and_then-names.result ≡ None) (λ v. (ms : List ℕ) → Noted (Some v) ms → Noted c.and_then-names.result (ms ++ n ∷ [])) = search rules in
    (i.0 ++ n ∷ [], walk_more 114 _ (rest c.entries.ahead) (rest c.entry.new.r) i.0 n i.1 c.in_ok-number.ensures.read, note_more _ _ i.0 n i.2 f, inr (nil_no _ (sym c.is_at_end.ensures ∙ c.if-is_at_end.false)), let kept = i.4 in search rules)
