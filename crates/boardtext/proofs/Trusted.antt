-- The line of those who are trusted.
use Rattle.std.proofs.Common.{◌≡◌, ℕ, ◌≤◌, Bool, false, T, List, [], ◌∷◌, ◌++◌, length, codes, sym, refl, ap, ◌∙◌, subst, ⊎_elim, arith}
use mathlib.Core.Path.{fun_ext, subst⁻¹}
use Rattle.meaning.specs.Measures as measures
use Rattle.meaning.specs.Membership.{User}
use Rattle.meaning.specs.Rules.{RevokeRule, aatu, aar, Policy, Regime as RegimeMeant}
use Rattle.meaning.specs.Lists.{Nth, listed}
use Rattle.meaning.proofs.Tests.{agree}
use Rattle.lines.specs.Entries.{AllShort, all_below, repeats, entry_bytes}
use Rattle.lines.specs.declared.keyword.Keyword.TheVariants.{Trust}
use Rattle.texts.specs.declared.faults.Way.TheVariants.{Add}
use Rattle.pen.specs.Ascending.{ascending}
use Rattle.saving.proofs.Ascends.{asc_short, asc_below}
use Rattle.book.specs.Book.{Book, trusts}
use Rattle.book.specs.Grounds.{AllTrusted, Crowded, AnyListed}
use Rattle.book.specs.Orderly.{Orderly}
use Rattle.book.specs.Refusals.{entered, NoneApplies}
use Rattle.book.specs.Calls.{Feeds, end}
use Rattle.book.proofs.Ladder.{pass}
use Rattle.book.proofs.Ladder.{end as nothing_left}
use Rattle.boardtext.specs.Canonical.{trust_line}
use Rattle.boardtext.proofs.Listing.{passes, all_of, none_passes, not_twice, apart, some_of, head, all_trusted}
use Rattle.boardtext.proofs.Putting.{Writes, one}
use Rattle.boardtext.proofs.Related.{made, nobody, ordered}

-- what a regime excludes is not there
abbrev pub Excluded : RegimeMeant → Policy → Type 0
Excluded g p = elim g [ aatu ↦ ((k : ℕ) (rule : RevokeRule) → Nth k rule p.revokes → ⊥) | aar ↦ ((u : User) → T (p.trusted u) → ⊥) ]

abbrev IsAatu : RegimeMeant → Type 0
IsAatu aatu = Unit {0}
IsAatu aar = ⊥

none_trusted : (g : RegimeMeant) (p : Policy) → Excluded g p → g ≡ aar → (u : User) → T (p.trusted u) → ⊥
none_trusted aatu p h e u t = subst IsAatu e tt
none_trusted aar p h e u t = h u t

none_revokes : (g : RegimeMeant) (p : Policy) → Excluded g p → g ≡ aatu → (k : ℕ) (rule : RevokeRule) → Nth k rule p.revokes → ⊥
none_revokes aatu p h e k rule n = h k rule n
none_revokes aar p h e k rule n = subst⁻¹ IsAatu e tt

module _ (b : Book) (o : Orderly b) where
  pub no_trust : b.policy.regime ≡ aar → (u : User) → T (b.policy.trusted u) → ⊥
  no_trust e u t = none_trusted b.policy.regime b.policy o.regime e u t

  pub no_revoke : b.policy.regime ≡ aatu → (k : ℕ) (rule : RevokeRule) → Nth k rule b.policy.revokes → ⊥
  no_revoke e k rule n = none_revokes b.policy.regime b.policy o.regime e k rule n

  abbrev pub trusting : (User → Bool) → Book
  trusting t = made b.policy.regime b.state b.policy.gives b.policy.edge t [] [] []

  module _ (u : ℕ) (us : List ℕ) (e : ascending b.policy.trusted measures.users ≡ u ∷ us) where
    written : Writes (trusts (u ∷ us)) (codes "trust" ++ entry_bytes 117 (u ∷ us))
    written = record {
      line = record { keyword = Trust; body = record { first = u; more = us } };
      fine = record {
        proper = (refl, subst AllShort e (asc_short b.policy.trusted measures.users (omega arith)));
        ranged = ap (all_below measures.users) (sym e) ∙ asc_below b.policy.trusted measures.users measures.users (omega arith);
        small = refl;
        semi_static = refl;
      };
      bytes = refl;
      names = refl;
    }

    among : (v : ℕ) → T (listed (u ∷ us) v) → T (b.policy.trusted v)
    among v t = (passes b.policy.trusted measures.users v (subst⁻¹ (λ (ns : List ℕ). T (listed ns v)) e t)).1

    few : length (u ∷ us) ≤ measures.trusted_users
    few = o.few_trusted (u ∷ us) (apart (u ∷ us) (ap repeats (sym e) ∙ not_twice b.policy.trusted measures.users)) (all_trusted b.policy (u ∷ us) among)

    none_yet : (vs : List User) → AllTrusted (trusting nobody).policy vs → length vs ≡ 0
    none_yet [] h = refl
    none_yet (v ∷ vs) h = absurd h.0

    room : Crowded (trusting nobody).policy (u ∷ us) → ⊥
    room c = omega (arith, c.many, few, none_yet c.there c.trusted)

    free : NoneApplies (entered Add (trusting nobody) (trusts (u ∷ us)))
    free =
        pass (λ h. no_trust h u (among u (head u us)))
        (pass
        (λ h. ⊎_elim (λ (t : AnyListed (λ v. T (nobody v)) (u ∷ us)). (some_of (λ v. T (nobody v)) (u ∷ us) t).2) (λ (t : T (repeats (u ∷ us))). subst (λ (c : Bool). T c) (ap repeats (sym e) ∙ not_twice b.policy.trusted measures.users) t) h)
        (pass room (pass (λ h. h) nothing_left)))

  next : (us : List ℕ) → ascending b.policy.trusted measures.users ≡ us → Feeds (ordered b o b.policy.edge) (trust_line us) (trusting b.policy.trusted)
  next [] e =
      subst (λ (t : User → Bool). Feeds (trusting nobody) [] (trusting t))
      (fun_ext (λ v. agree false (b.policy.trusted v) (λ h. absurd h) (λ t. none_passes b.policy.trusted measures.users e v (o.trusted_inside v t) t))) end
  next (u ∷ us) e =
      subst (λ (t : User → Bool). Feeds (trusting nobody) (trust_line (u ∷ us)) (trusting t)) (ap listed (sym e) ∙ all_of b.policy.trusted measures.users o.trusted_inside)
      (one (trusting nobody) (trusts (u ∷ us)) _ (written u us e) (free u us e))

  pub all_trusting : Feeds (ordered b o b.policy.edge) (trust_line (ascending b.policy.trusted measures.users)) (trusting b.policy.trusted)
  all_trusting = next (ascending b.policy.trusted measures.users) refl
