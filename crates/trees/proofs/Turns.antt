-- The loop of `users`, `set` and `term`: an item, and then a sign, an item and the operator as often as the sign stands there.
use Rattle.std.proofs.Common.{◌≡◌, ℕ, ◌≤◌, false, ◌∷◌, length, IsErrAnd, Ok, Err, Result, sym, ap, ◌∙◌, arith}
use Rattle.trees.specs.declared.nodes.Node.{Node}
use Rattle.trees.specs.declared.read.Builder.{Builder}
use Rattle.grammar.specs.declared.grounds.Ground.{Ground}
use Rattle.grammar.specs.Text.{Left, rest, begins}
use Rattle.trees.specs.Reading.{ok, bad, Reading, told, add, more, chain, Nodes, nodes_in}
use Rattle.trees.specs.Builds.{Builds}
use Rattle.trees.proofs.Steps.{exit, first, first_bad, turn, turn_item, turn_add, stop}

module _ (c : ℕ) (op : Node) (item : Reading) (b : Builder) where
  -- how far the loop has come
  pub record Going (at : Builder) : Type 0 where
    pub less : length (rest at.reader) ≤ length (rest b.reader)
    pub fuel : ℕ
    pub enough : length (rest at.reader) ≤ fuel
    pub so_far : chain c op item (rest b.reader) (nodes_in b.nodes) ≡ more c op item fuel (rest at.reader) (nodes_in at.nodes)

  pub begun : (u : Unit {0}) (at : Builder) → Builds item b (Ok u) at → Going at
  begun u at h = record { less = h.less; fuel = length (rest at.reader); enough = omega arith; so_far = first c op item (rest b.reader) (rest at.reader) (nodes_in b.nodes) (nodes_in at.nodes) h.read }

  pub begun_bad : (e : Ground) (at : Builder) (r : Result (Unit {0}) Ground) (P : Ground → Type 0) → Builds item b (Err e) at → IsErrAnd r P → Builds (chain c op item) b r at
  begun_bad e at r P h by = record { read = exit r P _ _ _ by (first_bad c op item (rest b.reader) (nodes_in b.nodes) h.read); less = h.less }

  -- the sign stands there and is passed
  module _ (at : Builder) (i : Going at) (r1 : Left) (k : rest at.reader ≡ c ∷ rest r1) (b2 : Builder) where
    pub item_bad : (e : Ground) (r : Result (Unit {0}) Ground) (P : Ground → Type 0) → Builds item (record { reader = r1; nodes = at.nodes }) (Err e) b2 → IsErrAnd r P → Builds (chain c op item) b r b2
    item_bad e r P h by = record {
      read = exit r P _ _ _ by (i.so_far ∙ turn_item c op item i.fuel (rest at.reader) (rest r1) (nodes_in at.nodes) k i.enough h.read);
      less = omega (arith, ap length k, h.less, i.less);
    }

    module _ (u : Unit {0}) (h : Builds item (record { reader = r1; nodes = at.nodes }) (Ok u) b2) (m : Nodes) where
      pub turned : (v : Unit {0}) → add op (rest b2.reader) (nodes_in b2.nodes) ≡ told (Ok v) (rest b2.reader) (nodes_in m) → Going (record { reader = b2.reader; nodes = m })
      turned v a =
          let n = turn c op item i.fuel (rest at.reader) (rest r1) (rest b2.reader) (nodes_in at.nodes) (nodes_in b2.nodes) (nodes_in m) k i.enough h.less h.read a in
          record { less = omega (arith, ap length k, h.less, i.less); fuel = n.0; enough = n.1; so_far = i.so_far ∙ n.2 }

      pub add_bad : (r : Result (Unit {0}) Ground) (P : Ground → Type 0) → add op (rest b2.reader) (nodes_in b2.nodes) ≡ bad → IsErrAnd r P → Builds (chain c op item) b r (record { reader = b2.reader; nodes = m })
      add_bad r P a by = record {
        read = exit r P _ _ _ by (i.so_far ∙ turn_add c op item i.fuel (rest at.reader) (rest r1) (rest b2.reader) (nodes_in at.nodes) (nodes_in b2.nodes) k i.enough h.read a);
        less = omega (arith, ap length k, h.less, i.less);
      }

  pub ended : (at : Builder) → Going at → begins c (rest at.reader) ≡ false → (r1 : Left) → rest r1 ≡ rest at.reader → Builds (chain c op item) b (Ok tt) (record { reader = r1; nodes = at.nodes })
  ended at i n r1 e = record {
    read = i.so_far ∙ stop c op item i.fuel (rest at.reader) (nodes_in at.nodes) n ∙ ap (λ s. ok s (nodes_in at.nodes)) (sym e);
    less = omega (arith, ap length e, i.less);
  }
