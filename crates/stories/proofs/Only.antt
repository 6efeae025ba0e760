-- A call comes to one thing.
use Rattle.std.proofs.Common.{◌≡◌, ◌≢◌, ℕ, Bool, true, false, Decides, ◌<◌, ◌≤◌, List, [], sym, refl, ap, ◌∙◌, subst, inl, inr, ⊎_elim, arith}
use mathlib.Core.Path.{subst⁻¹}
use Rattle.std.proofs.lemmas.Bool.{cases_lt}
use Rattle.meaning.specs.Measures as measures
use Rattle.meaning.specs.Lists.{Nth, first, later}
use Rattle.meaning.specs.Runs.{Change}
use Rattle.meaning.specs.Requirements.{Requirement, Stands}
use Rattle.book.specs.Numbers.{Diagnostic}
use Rattle.book.specs.Book.{Book}
use Rattle.book.specs.Grounds.{Fails}
use Rattle.book.specs.Orderly.{Orderly}
use Rattle.book.specs.Calls.{Call, opening, changing, asking, adding, removing, membership, permission, saving, ChangeRefuses, askings, additions, removals, lookups, savings, line_of, RefusedAt}
use Rattle.book.specs.Outcomes.{Answer, done, truth, verdict, refused, Evidence, nothing, a_requirement, IsRefused, BookAfter, Replies, Granted, Outcome, BookToWeigh}
use Rattle.book.specs.Stories.{Agree, OnlyOutcome}
use Rattle.book.proofs.Coming.{none_of}
use Rattle.boardtext.proofs.Once.{reads_once}
use Rattle.boardtext.proofs.Stopping.{least_once, row_once, opening_once}
use Rattle.stories.proofs.Changing.{change_once}

-- one entry has one number
nth_once : {A : Type 0} {k : ℕ} {x y : A} {xs : List A} → Nth k x xs → Nth k y xs → x ≡ y
nth_once first first = refl
nth_once first (later n) = absurd (none_at n)
  where
    none_at : {A : Type 0} {z : A} {zs : List A} → Nth 0 z zs → ⊥
    none_at n = elim n [ ]
nth_once (later n) first = absurd (none_at n)
  where
    none_at : {A : Type 0} {z : A} {zs : List A} → Nth 0 z zs → ⊥
    none_at n = elim n [ ]
nth_once (later n) (later m) = nth_once n m

-- the first requirement that fails is one
fails_once : (z : Book) (j k : ℕ) → Fails z j → Fails z k → j ≡ k
fails_once z j k x y = ⊎_elim
    (λ (l : j < k). absurd (x.falls (y.first j x.requirement l x.numbered)))
    (λ (h : k ≤ j). ⊎_elim
    (λ (l : k < j). absurd (y.falls (x.first k y.requirement l y.numbered)))
    (λ (m : j ≤ k). omega (arith, h, m))
    (cases_lt k j))
    (cases_lt j k)

-- what is so is one
one_truth : {P : Type 0} (v w : Bool) → Decides v P → Decides w P → v ≡ w
one_truth true w p q = sym (q.1 (p.0 refl))
one_truth false true p q = p.1 (q.0 refl)
one_truth false false p q = refl

module _ (b : Book) (o : Orderly b) where
  -- the book that a granted call leaves
  one_book : (c : Call) (y z : Book) → BookAfter b c y → BookAfter b c z → ((n l : ℕ) → RefusedAt b c n l → ⊥) → y ≡ z
  one_book (opening text list work) y z x w free = reads_once text y z x w
  one_book (changing text list work) y z x w free =
      change_once b text list work (λ k l. none_of (ChangeRefuses b text list work) (λ n less h. free n (line_of n) (record { refuses = h; least = less }, refl)) k) o y z x w
  one_book (asking text list work) y z x w free = x ∙ sym w
  one_book (adding a u r) y z x w free = x ∙ sym w
  one_book (removing a u r) y z x w free = x ∙ sym w
  one_book (membership u r) y z x w free = x ∙ sym w
  one_book (permission u p) y z x w free = x ∙ sym w
  one_book (saving text place) y z x w free = x ∙ sym w

  -- the number and the line of a refusal
  one_refusal : (c : Call) (n l m k : ℕ) → RefusedAt b c n l → RefusedAt b c m k → (n ≡ m) × (l ≡ k)
  one_refusal (opening text list work) n l m k x y = opening_once text list work x y
  one_refusal (changing text list work) n l m k (x, at) (y, on) = let e = least_once (ChangeRefuses b text list work) n m x y in (e, at ∙ ap line_of e ∙ sym on)
  one_refusal (asking text list work) n l m k (x, at) (y, on) = let e = row_once (askings text list work) n m x y in (e, at ∙ ap line_of e ∙ sym on)
  one_refusal (adding a u r) n l m k (x, at) (y, on) = (row_once (additions b a u r) n m x y, at ∙ sym on)
  one_refusal (removing a u r) n l m k (x, at) (y, on) = (row_once (removals b a u r) n m x y, at ∙ sym on)
  one_refusal (membership u r) n l m k (x, at) (y, on) = (row_once (lookups measures.roles u r) n m x y, at ∙ sym on)
  one_refusal (permission u p) n l m k (x, at) (y, on) = (row_once (lookups measures.permissions u p) n m x y, at ∙ sym on)
  one_refusal (saving text place) n l m k (x, at) (y, on) = (row_once (savings text place) n m x y, at ∙ sym on)

  -- the book that is weighed where a requirement fails
  one_weighed : (c : Call) (l : ℕ) (y z : Book) → RefusedAt b c 18 l → BookToWeigh b c y → BookToWeigh b c z → y ≡ z
  one_weighed (opening text list work) l y z at x w = reads_once text y z x w
  one_weighed (changing text list work) l y z (least, at) x w =
      change_once b text list work (λ n small h. let k = least.least n h in omega (arith, k, small)) o y z x w
  one_weighed (asking text list work) l y z at x w = absurd x
  one_weighed (adding a u r) l y z at x w = absurd x
  one_weighed (removing a u r) l y z at x w = absurd x
  one_weighed (membership u r) l y z at x w = absurd x
  one_weighed (permission u p) l y z at x w = absurd x
  one_weighed (saving text place) l y z at x w = absurd x

  -- the requirement that a refusal names
  one_named : (c : Call) (n m l j k : ℕ) (run other : List Change) → n ≡ m → RefusedAt b c n l → Evidence b c n j run → Evidence b c m k other → j ≡ k
  one_named c n m l j k run other e at (nothing x) (nothing y) = refl
  one_named c n m l j k run other e at (nothing x) (a_requirement z w f) = absurd (x e)
  one_named c n m l j k run other e at (a_requirement z w f) (nothing y) = absurd (y (sym e))
  one_named c n m l j k run other e at (a_requirement y w f) (a_requirement z v g) =
      fails_once z j k (subst (λ (x : Book). Fails x j) (one_weighed c l y z at w v) f.fails) g.fails

  one_refused : (c : Call) (d e : Diagnostic) (run other : List Change) → IsRefused b c d run → IsRefused b c e other → (d.number ≡ e.number) × (d.line ≡ e.line) × (d.requirement ≡ e.requirement)
  one_refused c d e run other x y =
      let (n, l) = one_refusal c d.number d.line e.number e.line x.refused_at y.refused_at in
      (n, l, one_named c d.number e.number d.line d.requirement e.requirement run other n x.refused_at x.evidence y.evidence)

  both_granted : (c : Call) (x a : Answer) (y z : Book) → Granted b c x y → Granted b c a z → y ≡ z
  both_granted c x a y z (free, reply, left) (clear, answer, after) = one_book c y z left after free

  never_both : (c : Call) (a : Answer) (z : Book) (d : Diagnostic) (run : List Change) → Granted b c a z → IsRefused b c d run → ⊥
  never_both c a z d run (free, reply, left) x = free d.number d.line x.refused_at

  -- both are answered alike
  agree : (c : Call) (x a : Answer) → Replies b c x → Replies b c a → Agree x a
  agree (opening text list work) done done p q = tt
  agree (opening text list work) done (truth w) p q = absurd q
  agree (opening text list work) done (verdict j w s) p q = absurd q
  agree (opening text list work) done (refused e s) p q = absurd q
  agree (opening text list work) (truth v) a p q = absurd p
  agree (opening text list work) (verdict k v r) a p q = absurd p
  agree (opening text list work) (refused d r) a p q = absurd p
  agree (changing text list work) done done p q = tt
  agree (changing text list work) done (truth w) p q = absurd q
  agree (changing text list work) done (verdict j w s) p q = absurd q
  agree (changing text list work) done (refused e s) p q = absurd q
  agree (changing text list work) (truth v) a p q = absurd p
  agree (changing text list work) (verdict k v r) a p q = absurd p
  agree (changing text list work) (refused d r) a p q = absurd p
  agree (asking text list work) done a p q = absurd p
  agree (asking text list work) (truth v) a p q = absurd p
  agree (asking text list work) (verdict k v r) done p q = absurd q
  agree (asking text list work) (verdict k v r) (truth w) p q = absurd q
  agree (asking text list work) (verdict k v r) (verdict j w s) p q = tt
  agree (asking text list work) (verdict k v r) (refused e s) p q = absurd q
  agree (asking text list work) (refused d r) a p q = absurd p
  agree (adding x u t) done done p q = tt
  agree (adding x u t) done (truth w) p q = absurd q
  agree (adding x u t) done (verdict j w s) p q = absurd q
  agree (adding x u t) done (refused e s) p q = absurd q
  agree (adding x u t) (truth v) a p q = absurd p
  agree (adding x u t) (verdict k v r) a p q = absurd p
  agree (adding x u t) (refused d r) a p q = absurd p
  agree (removing x u t) done done p q = tt
  agree (removing x u t) done (truth w) p q = absurd q
  agree (removing x u t) done (verdict j w s) p q = absurd q
  agree (removing x u t) done (refused e s) p q = absurd q
  agree (removing x u t) (truth v) a p q = absurd p
  agree (removing x u t) (verdict k v r) a p q = absurd p
  agree (removing x u t) (refused d r) a p q = absurd p
  agree (membership u t) done a p q = absurd p
  agree (membership u t) (truth v) done p q = absurd q
  agree (membership u t) (truth v) (truth w) p q = one_truth v w p q
  agree (membership u t) (truth v) (verdict j w s) p q = absurd q
  agree (membership u t) (truth v) (refused e s) p q = absurd q
  agree (membership u t) (verdict k v r) a p q = absurd p
  agree (membership u t) (refused d r) a p q = absurd p
  agree (permission u t) done a p q = absurd p
  agree (permission u t) (truth v) done p q = absurd q
  agree (permission u t) (truth v) (truth w) p q = one_truth v w p q
  agree (permission u t) (truth v) (verdict j w s) p q = absurd q
  agree (permission u t) (truth v) (refused e s) p q = absurd q
  agree (permission u t) (verdict k v r) a p q = absurd p
  agree (permission u t) (refused d r) a p q = absurd p
  agree (saving text place) done done p q = tt
  agree (saving text place) done (truth w) p q = absurd q
  agree (saving text place) done (verdict j w s) p q = absurd q
  agree (saving text place) done (refused e s) p q = absurd q
  agree (saving text place) (truth v) a p q = absurd p
  agree (saving text place) (verdict k v r) a p q = absurd p
  agree (saving text place) (refused d r) a p q = absurd p

  -- whatever else it could come to is the same
  pub only : (c : Call) (a : Answer) (z : Book) → Outcome b c a z → OnlyOutcome b c a z
  only c done z got done y had = (agree c done done had.1 got.1, both_granted c done done y z had got)
  only c done z got (truth w) y had = (agree c (truth w) done had.1 got.1, both_granted c (truth w) done y z had got)
  only c done z got (verdict j w q) y had = (agree c (verdict j w q) done had.1 got.1, both_granted c (verdict j w q) done y z had got)
  only c done z got (refused e other) y had = absurd (never_both c done z e other got had.0)
  only c (truth v) z got done y had = (agree c done (truth v) had.1 got.1, both_granted c done (truth v) y z had got)
  only c (truth v) z got (truth w) y had = (agree c (truth w) (truth v) had.1 got.1, both_granted c (truth w) (truth v) y z had got)
  only c (truth v) z got (verdict j w q) y had = (agree c (verdict j w q) (truth v) had.1 got.1, both_granted c (verdict j w q) (truth v) y z had got)
  only c (truth v) z got (refused e other) y had = absurd (never_both c (truth v) z e other got had.0)
  only c (verdict k v r) z got done y had = (agree c done (verdict k v r) had.1 got.1, both_granted c done (verdict k v r) y z had got)
  only c (verdict k v r) z got (truth w) y had = (agree c (truth w) (verdict k v r) had.1 got.1, both_granted c (truth w) (verdict k v r) y z had got)
  only c (verdict k v r) z got (verdict j w q) y had = (agree c (verdict j w q) (verdict k v r) had.1 got.1, both_granted c (verdict j w q) (verdict k v r) y z had got)
  only c (verdict k v r) z got (refused e other) y had = absurd (never_both c (verdict k v r) z e other got had.0)
  only c (refused d run) z got done y had = absurd (never_both c done y d run had got.0)
  only c (refused d run) z got (truth w) y had = absurd (never_both c (truth w) y d run had got.0)
  only c (refused d run) z got (verdict j w q) y had = absurd (never_both c (verdict j w q) y d run had got.0)
  only c (refused d run) z got (refused e other) y had = (one_refused c e d other run had.0 got.0, had.1 ∙ sym got.1)
