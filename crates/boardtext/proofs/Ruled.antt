-- The lines of rules and requirements, put in one after another.
use Rattle.std.proofs.Common.{◌≡◌, ℕ, suc, ◌+◌, ◌≤◌, Bool, T, List, [], ◌∷◌, ◌++◌, length, sym, refl, ap, ◌∙◌, subst, ⊎_elim, append_assoc, arith, length-append}
use Rattle.std.proofs.lemmas.List.{append-nil}
use mathlib.Core.Path.{subst⁻¹}
use Rattle.meaning.specs.Measures as measures
use Rattle.meaning.specs.Rules.{AssignRule, RevokeRule}
use Rattle.meaning.specs.Lists.{Nth, first, later}
use Rattle.meaning.specs.Requirements.{Requirement}
use Rattle.lines.specs.Entries.{repeats}
use Rattle.texts.specs.declared.faults.Way.TheVariants.{Add}
use Rattle.pen.specs.Ascending.{ascending}
use Rattle.book.specs.Book.{Book, Entry, assigns, revokes, requires, put}
use Rattle.book.specs.Orderly.{Orderly, Once}
use Rattle.book.specs.Refusals.{entered, NoneApplies}
use Rattle.book.specs.Calls.{Feeds, end}
use Rattle.book.proofs.Ladder.{pass}
use Rattle.book.proofs.Ladder.{end as nothing_left}
use Rattle.boardtext.specs.Canonical.{ended, each, assign_text, revoke_text, requirement_text}
use Rattle.boardtext.proofs.Listing.{not_twice}
use Rattle.boardtext.proofs.Putting.{Writes, one, then}
use Rattle.boardtext.proofs.Related.{made}
use Rattle.boardtext.proofs.Trusted.{trusting, no_revoke}
use Rattle.boardtext.proofs.Sayable.{assign_written, revoke_written, requirement_written}

-- ---- entries of a list by their numbers

pub nth_here : {A : Type 0} (done : List A) (x : A) (rest : List A) → Nth (suc (length done)) x (done ++ x ∷ rest)
nth_here [] x rest = first
nth_here (y ∷ ys) x rest = later (nth_here ys x rest)

nth_front : {A : Type 0} {k : ℕ} {x : A} {done : List A} (ys : List A) → Nth k x done → (k ≤ length done) × Nth k x (done ++ ys)
nth_front ys first = (omega arith, first)
nth_front ys (later n) = let (l, m) = nth_front ys n in (omega arith, later m)

-- what comes next is not among those that came before
new : {A : Type 0} (all done : List A) (x : A) (rest : List A) → Once all → all ≡ done ++ x ∷ rest → (k : ℕ) × Nth k x done → ⊥
new all done x rest once e (k, n) =
    let (l, m) = nth_front (x ∷ rest) n in
    once k (suc (length done)) x (omega arith) (subst⁻¹ (λ (xs : List _). Nth k x xs) e m) (subst⁻¹ (λ (xs : List _). Nth (suc (length done)) x xs) e (nth_here done x rest))

-- and there is room for it
room : {A : Type 0} (all done : List A) (x : A) (rest : List A) (n : ℕ) → length all ≤ n → all ≡ done ++ x ∷ rest → n ≤ length done → ⊥
room all done x rest n few e full = let l : length (done ++ x ∷ rest) ≡ length done + suc (length rest) = length-append done (x ∷ rest) in omega (arith, ap length e)

module _ {A : Type 0} (all : List A) (text : A → List ℕ) (of : A → Entry) (at : List A → Book)
    (written : (k : ℕ) (x : A) → Nth k x all → Writes (of x) (text x))
    (puts : (xs : List A) (x : A) → put (of x) (at xs) ≡ at (xs ++ x ∷ []))
    (free : (done : List A) (x : A) (rest : List A) → all ≡ done ++ x ∷ rest → NoneApplies (entered Add (at done) (of x))) where
  from : (done rest : List A) → all ≡ done ++ rest → Feeds (at done) (each text rest) (at all)
  from done [] e = subst (λ (xs : List A). Feeds (at done) [] (at xs)) (sym (e ∙ append-nil done)) end
  from done (x ∷ rest) e =
      let w = written (suc (length done)) x (subst⁻¹ (λ (xs : List A). Nth (suc (length done)) x xs) e (nth_here done x rest)) in
      then
      (subst (λ (z : Book). Feeds (at done) (ended (text x)) z) (puts done x) (one (at done) (of x) (text x) w (free done x rest e)))
      (from (done ++ x ∷ []) rest (e ∙ sym (append_assoc done (x ∷ []) rest)))

  pub all_put : Feeds (at []) (each text all) (at all)
  all_put = from [] all refl

module _ (b : Book) (o : Orderly b) where
  once : (f : ℕ → Bool) → T (repeats (ascending f measures.roles)) → ⊥
  once f t = subst (λ (c : Bool). T c) (not_twice f measures.roles) t

  -- ---- assign rules

  abbrev pub assigning : List AssignRule → Book
  assigning rules = made b.policy.regime b.state b.policy.gives b.policy.edge b.policy.trusted rules [] []

  pub all_assigning : Feeds (trusting b o b.policy.trusted) (each assign_text b.policy.assigns) (assigning b.policy.assigns)
  all_assigning = all_put b.policy.assigns assign_text (λ rule. assigns rule (ascending rule.targets measures.roles)) assigning
      (λ k rule n. assign_written rule (o.assigns_said k rule n))
      (λ rules rule. refl)
      (λ done rule rest e.
      pass (λ h. h)
      (pass (λ h. ⊎_elim (λ t. new b.policy.assigns done rule rest o.assigns_once e t) (λ t. once rule.targets t) h)
      (pass (λ h. room b.policy.assigns done rule rest measures.assign_rules o.few_assigns e h) (pass (λ h. h) nothing_left))))

  -- ---- revoke rules

  abbrev pub revoking : List RevokeRule → Book
  revoking rules = made b.policy.regime b.state b.policy.gives b.policy.edge b.policy.trusted b.policy.assigns rules []

  pub all_revoking : Feeds (assigning b.policy.assigns) (each revoke_text b.policy.revokes) (revoking b.policy.revokes)
  all_revoking = all_put b.policy.revokes revoke_text (λ rule. revokes rule (ascending rule.targets measures.roles)) revoking
      (λ k rule n. revoke_written rule (o.revokes_said k rule n))
      (λ rules rule. refl)
      (λ done rule rest e.
      pass (λ h. no_revoke b o h (suc (length done)) rule (subst⁻¹ (λ (xs : List RevokeRule). Nth (suc (length done)) rule xs) e (nth_here done rule rest)))
      (pass (λ h. ⊎_elim (λ t. new b.policy.revokes done rule rest o.revokes_once e t) (λ t. once rule.targets t) h)
      (pass (λ h. room b.policy.revokes done rule rest measures.revoke_rules o.few_revokes e h) (pass (λ h. h) nothing_left))))

  -- ---- requirements

  abbrev pub requiring : List Requirement → Book
  requiring ds = made b.policy.regime b.state b.policy.gives b.policy.edge b.policy.trusted b.policy.assigns b.policy.revokes ds

  pub all_requiring : Feeds (revoking b.policy.revokes) (each requirement_text b.requirements) (requiring b.requirements)
  all_requiring = all_put b.requirements requirement_text (λ d. requires d) requiring
      (λ k d n. requirement_written d (o.requirements_said k d n))
      (λ ds d. refl)
      (λ done d rest e.
      pass (λ h. h)
      (pass (λ h. ⊎_elim (λ t. new b.requirements done d rest o.requirements_once e t) (λ t. t) h)
      (pass (λ h. room b.requirements done d rest measures.requirements o.few_requirements e h) (pass (λ h. h) nothing_left))))
