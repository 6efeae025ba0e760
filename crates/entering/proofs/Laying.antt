-- Tables in good order are laid out as they should be, even where only the contrary is denied.
use Rattle.std.proofs.Common.{◌≡◌, Bool, true, false, Option, Some, None, sym, refl, ap, ◌∙◌}
use Rattle.std.proofs.lemmas.Bool.{both_ways}
use Rattle.meaning.specs.Sets.{UserSet}
use Rattle.trees.specs.Reading.{Nodes, postfix, nodes_in}
use Rattle.trees.specs.Trees.{decode}
use Rattle.trees.proofs.Whole.{inverse}
use Rattle.tables.specs.declared.entries.Needs.{Needs}
use Rattle.tables.specs.declared.entries.Needs.TheVariants.{Everybody, Roles}
use Rattle.tables.specs.declared.tables.Tables.{Tables}
use Rattle.soundness.specs.Valid.{Whole, only_roles}
use Rattle.drafts.specs.Neat.{OfSet, Neat}
use Rattle.entering.specs.Laid.{Laid}

-- a test that is not denied holds
stable_true : (b : Bool) → ((b ≡ true → ⊥) → ⊥) → b ≡ true
stable_true true h = refl
stable_true false h = absurd (h (λ e. both_ways false refl e))

stable_false : (b : Bool) → ((b ≡ false → ⊥) → ⊥) → b ≡ false
stable_false false h = refl
stable_false true h = absurd (h (λ e. both_ways true e refl))

-- whether nodes are a set's is found out by reading them
stable_set : (n : Nodes) → ((OfSet n → ⊥) → ⊥) → OfSet n
stable_set n h = go (decode (nodes_in n)) refl
  where
    is_some : {x : UserSet} → None ≡ Some x → ⊥
    is_some e = cc

    go : (o : Option UserSet) → decode (nodes_in n) ≡ o → OfSet n
    go (Some x) e = (x, inverse.back (nodes_in n) x e)
    go None e = absurd (h (λ (x, is). is_some (sym e ∙ ap decode is ∙ inverse.there x)))

stable_whole : (needs : Needs) → ((Whole needs → ⊥) → ⊥) → Whole needs
stable_whole Everybody h = tt
stable_whole (Roles n) h =
    let (x, is) = stable_set n (λ deny. h (λ (y, s, a). deny (y, s))) in (
      x,
      is,
      stable_true (only_roles x) (λ deny. h (λ (y, s, a). deny (ap only_roles (same x y is s) ∙ a))),
    )
  where
    inside : {a b : UserSet} → ◌≡◌ {A = Option UserSet} (Some a) (Some b) → a ≡ b
    inside {a} {b} e = cc

    same : (x y : UserSet) → nodes_in n ≡ postfix x → nodes_in n ≡ postfix y → x ≡ y
    same x y p q = inside (sym (inverse.there x) ∙ ap decode (sym p ∙ q) ∙ inverse.there y)

pub laid_of : (t : Tables) → ((Neat t → ⊥) → ⊥) → Laid t
laid_of t neat = record {
  needs_whole = λ k e at. stable_whole e.needs (λ deny. neat (λ n. deny (n.needs_whole k e at)));
  sides_whole = λ k e at. (
    stable_set e.larger (λ deny. neat (λ n. deny (n.sides_whole k e at).0)),
    stable_set e.smaller (λ deny. neat (λ n. deny (n.sides_whole k e at).1)),
  );
  trusted_once = stable_false _ (λ deny. neat (λ n. deny n.trusted_once));
}
