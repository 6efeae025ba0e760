use Rattle.std.proofs.Common.{◌≡◌, ◌+◌, [], ◌∷◌, length, get_or, drop, ap, arith}
use mathlib.Core.Path.{subst⁻¹}
use Rattle.std.proofs.lemmas.List.{drop_more, drop_all}
use Rattle.meaning.specs.Lists.{listed}
use Rattle.bounded.specs.Entries.{entries}
use Rattle.trees.specs.declared.nodes.Node.TheVariants.{Role}
use Rattle.tables.specs.View.{policy_of, state_of}
use Rattle.questions.specs.Naming.{users_in}
use Rattle.planning.specs.Slotted.{has_slot, MoreSlots}
use Rattle.planning.proofs.Slotting.{more_none}
use Rattle.planning.proofs.Named.{node_count, named_on}
use Rattle.planning.proofs.Planning.{still_held}
use Rattle.planning.proofs.plans.slots_for_named.Goals as goal

pub slot_for_node-requires-clause-room : goal.slot_for_node-requires-clause-room
slot_for_node-requires-clause-room c =
    let ns = c.args.nodes.now in
    let i = c.loop-node.node-index in
    let n = get_or ns i (Role 0) in
    let here : length (users_in (drop i ns)) ≡ length (users_in (n ∷ drop (i + 1) ns)) = ap (λ l. length (users_in l)) (drop_more ns i (Role 0) c.loop-node-test.true) in
    omega (arith, c.loop-node.invariant.0, c.requires.room, node_count n (drop (i + 1) ns))

pub loop-node-preserved : goal.loop-node-preserved
loop-node-preserved c =
    let p = policy_of c.args.tables.now in
    let s = state_of c.args.tables.now in
    let ns = c.args.nodes.now in
    let i = c.loop-node.node-index in
    let n = get_or ns i (Role 0) in
    let at = drop_more ns i (Role 0) c.loop-node-test.true in
    let here : length (users_in (drop i ns)) ≡ length (users_in (n ∷ drop (i + 1) ns)) = ap (λ l. length (users_in l)) at in (
      omega (arith, c.loop-node.invariant.0, c.slot_for_node.ensures.few, node_count n (drop (i + 1) ns)),
      still_held s (has_slot (entries c.loop-node.slots)) (has_slot (entries c.slot_for_node.new.slots)) (listed (users_in (n ∷ []))) c.slot_for_node.ensures.more c.loop-node.invariant.1,
      (λ after more. c.loop-node.invariant.2 after (subst⁻¹ (λ l. MoreSlots p s (entries c.loop-node.slots) (listed (users_in l)) (length (users_in l)) after) at
          (named_on p s n (drop (i + 1) ns) c.slot_for_node.ensures more))),
    )

pub returns : goal.returns
returns c =
    let p = policy_of c.args.tables.now in
    let s = state_of c.args.tables.now in
    let slots = entries c.loop-node.slots in
    c.loop-node.invariant.2 slots (subst⁻¹ (λ l. MoreSlots p s slots (listed (users_in l)) (length (users_in l)) slots) (drop_all c.loop-node.node-index c.args.nodes.now (omega (arith, c.loop-node-test.false)))
    (more_none p s slots (listed []) 0 (λ v h. absurd h)))
