-- What edges down from one role, more or less, make of the book, and when they close a circle.
use Rattle.std.proofs.Common.{◌≡◌, ℕ, ◌&&◌, T, eqb, Bool, Decides, true, false, List, refl, ap, ◌∙◌, subst, ⊎_elim, eqb→eq}
use mathlib.Core.Path.{subst⁻¹}
use Rattle.std.proofs.lemmas.Bool.{both_ways}
use Rattle.meaning.specs.Membership.{Edges, Senior, same, above, Member}
use Rattle.meaning.specs.Lists.{listed}
use Rattle.meaning.proofs.Tests.{either, or_left, first}
use Rattle.hierarchy.specs.declared.edges.Hierarchy.{Hierarchy}
use Rattle.hierarchy.specs.Edges.{edges_of, with_edges, without_edges}
use Rattle.tables.specs.declared.tables.Tables.{Tables}
use Rattle.tables.specs.View.{policy_of, state_of, requirements_of}
use Rattle.book.specs.Book.{plus, minus, with_policy}
use Rattle.drafts.specs.View.{book_of}
use Rattle.entering.proofs.Naming.{some_gives, some_at}
use Rattle.book.specs.Grounds.{AnyListed}
use Rattle.book.proofs.Parts.{with_edges as policy_with}

abbrev pub with_hierarchy : Tables → Hierarchy → Tables
with_hierarchy t h = record {
  regime = t.regime;
  rows = t.rows;
  hierarchy = h;
  gives = t.gives;
  trusted = t.trusted;
  assigns = t.assigns;
  revokes = t.revokes;
  requirements = t.requirements;
}

pub edges_are : (t : Tables) → edges_of t.hierarchy ≡ (policy_of t).edge
unfolding policy_of
edges_are t = refl

pub reach_as : (a b : Edges) (roles : ℕ → Bool) → a ≡ b → (q : ℕ) → {reached : Bool} → Decides reached (Member a roles q) → Decides reached (Member b roles q)
reach_as a b roles e q {reached} d = subst (λ (f : Edges). Decides reached (Member f roles q)) e d

edges_book : (t : Tables) (h : Hierarchy) (e : Edges) → edges_of h ≡ e → book_of (with_hierarchy t h) ≡ with_policy (policy_with e (policy_of t)) (book_of t)
unfolding policy_of state_of requirements_of
edges_book t h e is = ap (λ f. with_policy (policy_with f (policy_of t)) (book_of t)) is

module _ (t : Tables) (h : Hierarchy) (q : ℕ) (roles : ℕ → Bool) (rs : List ℕ) (set : roles ≡ listed rs) where
  pub edges_added : edges_of h ≡ with_edges (edges_of t.hierarchy) q roles → book_of (with_hierarchy t h) ≡ with_policy (policy_with (plus (policy_of t).edge q rs) (policy_of t)) (book_of t)
  unfolding policy_of
  edges_added is = edges_book t h (plus (policy_of t).edge q rs) (is ∙ ap (λ f. with_edges (edges_of t.hierarchy) q f) set)

  pub edges_removed : edges_of h ≡ without_edges (edges_of t.hierarchy) q roles → book_of (with_hierarchy t h) ≡ with_policy (policy_with (minus (policy_of t).edge q rs) (policy_of t)) (book_of t)
  unfolding policy_of
  edges_removed is = edges_book t h (minus (policy_of t).edge q rs) (is ∙ ap (λ f. without_edges (edges_of t.hierarchy) q f) set)

module _ (edge : Edges) (q : ℕ) (rs : List ℕ) where
  longer : {r t : ℕ} → Senior edge r t → Senior (plus edge q rs) r t
  longer same = same
  longer (above {q = a} {r = b} e s) = above (or_left (edge a b) (eqb a q && listed rs b) e) (longer s)

  -- where a way comes to q, its part before the first edge down from q is one of old edges
  before : {r t : ℕ} → Senior (plus edge q rs) r t → t ≡ q → Senior edge r q
  before {r} same e = subst⁻¹ (λ (a : ℕ). Senior edge a q) e same
  before (above {q = a} {r = b} d s) e = ⊎_elim
      (λ (o : T (edge a b)). above o (before s e))
      (λ (n : T (eqb a q && listed rs b)). subst⁻¹ (λ (c : ℕ). Senior edge c q) (eqb→eq a q (first (eqb a q) (listed rs b) n)) same)
      (either (edge a b) (eqb a q && listed rs b) d)

  module _ (roles : ℕ → Bool) (set : roles ≡ listed rs) (reached : Bool) (reaches : Decides reached (Member edge roles q)) where
    pub closes : reached ≡ true → AnyListed (λ r. Senior (plus edge q rs) r q) rs
    closes e = let (r, s, l) = reaches.0 e in some_at (λ r. Senior (plus edge q rs) r q) rs r (in_list r l) (longer s)
      where
        in_list : (r : ℕ) → T (roles r) → T (listed rs r)
        in_list r l = subst (λ (f : ℕ → Bool). T (f r)) set l

    pub stays_straight : reached ≡ false → AnyListed (λ r. Senior (plus edge q rs) r q) rs → ⊥
    stays_straight e h =
        let (r, l, s) = some_gives (λ r. Senior (plus edge q rs) r q) rs h in
        both_ways reached e (reaches.1 (r, before s refl, subst⁻¹ (λ (f : ℕ → Bool). T (f r)) set l))
