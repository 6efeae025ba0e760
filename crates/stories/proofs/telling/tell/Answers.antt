use Rattle.std.proofs.Common.{◌≡◌, ℕ, ◌<◌, List, ◌∷◌, ◌++◌, length, map, take, drop, min, set, get_or, refl, ap, ◌∙◌, sym, subst, arith, rules}
use mathlib.Core.Path.{subst⁻¹}
use Rattle.std.proofs.lemmas.List.{take_more_set}
use Rattle.std.proofs.Math.Seq.{map-set_same}
use Rattle.stories.specs.declared.turn.Turn.{Turn}
use Rattle.stories.specs.Told.{Told, asked_in}
use Rattle.stories.proofs.Leading.{one_turn, turned}
use Rattle.stories.proofs.telling.tell.Goals as goal

pub loop-turn-preserved : goal.loop-turn-preserved
loop-turn-preserved g c =
    let words = length c.args.work.now in
    let book = g.C.Calls.book in
    let ts = c.loop-turn.turns in
    let i = c.loop-turn.turn-index in
    let t : Turn = get_or ts i _ in
    let made : Turn = record { call = t.call; list = t.list; work = t.work; answer = c.make-turn.result } in
    let (long, told, same) = c.loop-turn.invariant in
    let here : i < length ts = omega (arith, c.loop-turn-test.true, c.loop-turn.auto.turns) in
    let next = turned words (book c.loop-turn.board) (book c.make-turn.new.self) c.loop-turn.list c.make-turn.new.list c.loop-turn.guard.words.now t c.min-places.result c.min-words.result c.make-turn.result
    c.min-places.ensures c.min-words.ensures long c.make-turn.ensures.promised in (
      search (rules, long),
      subst⁻¹ (λ (xs : List Turn). Told words (book c.args.board.now) c.args.list.now xs (book c.make-turn.new.self) (c.make-turn.new.list ++ drop c.min-places.result c.loop-turn.list)) (take_more_set ts i made here)
          (one_turn words (book c.args.board.now) (book c.loop-turn.board) (book c.make-turn.new.self) c.args.list.now c.loop-turn.list _ (take i ts) made told next),
      map-set_same asked_in ts i made _ refl ∙ same,
    )
