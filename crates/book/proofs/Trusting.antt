-- How many users are trusted once a line has named some more.
use Rattle.std.proofs.Common.{◌≡◌, ◌+◌, ◌<◌, ◌≤◌, ◌||◌, T, eqb, List, [], ◌∷◌, length, refl, ⊎_elim, arith}
use Rattle.std.proofs.lemmas.Bool.{cases_lt}
use Rattle.meaning.specs.Measures as measures
use Rattle.meaning.specs.Membership.{User}
use Rattle.meaning.specs.Rules.{Policy}
use Rattle.meaning.specs.Lists.{listed, Apart}
use Rattle.meaning.proofs.Tests.{either, or_left, or_right, clash, deny}
use Rattle.theory.proofs.Turns.{few}
use Rattle.book.specs.Grounds.{AllTrusted, Crowded}
use Rattle.book.proofs.Parts.{with_trusted}

-- all of these users are named in a list
abbrev Named : List User → List User → Type 0
Named [] us = Unit {0}
Named (v ∷ vs) us = T (listed us v) × Named vs us

module _ (p : Policy) (us : List User) where
  abbrev pub now_trusted : Policy
  now_trusted = with_trusted (λ v. p.trusted v || listed us v) p

  -- those who were trusted before, and those who are named
  record Parted (ws : List User) : Type 0 where
    old : List User
    new : List User
    old_apart : Apart old
    new_apart : Apart new
    old_trusted : AllTrusted p old
    new_named : Named new us
    sum : length old + length new ≡ length ws
    old_inside : (w : User) → T (listed old w) → T (listed ws w)
    new_inside : (w : User) → T (listed new w) → T (listed ws w)

  part : (ws : List User) → Apart ws → AllTrusted now_trusted ws → Parted ws
  part [] a t = record { old = []; new = []; old_apart = tt; new_apart = tt; old_trusted = tt; new_named = tt; sum = refl; old_inside = λ w h. h; new_inside = λ w h. h }
  part (x ∷ ws) (n, a) (t, ts) =
      let b : Parted ws = part ws a ts in
      ⊎_elim
      (λ h. record {
        old = x ∷ b.old;
        new = b.new;
        old_apart = (deny (listed b.old x) (λ i. clash (listed ws x) (b.old_inside x i) n), b.old_apart);
        new_apart = b.new_apart;
        old_trusted = (h, b.old_trusted);
        new_named = b.new_named;
        sum = let s : length b.old + length b.new ≡ length ws = b.sum in omega (arith, s);
        old_inside = λ w i. ⊎_elim (λ e. or_left (eqb w x) (listed ws w) e) (λ j. or_right (eqb w x) (listed ws w) (b.old_inside w j)) (either (eqb w x) (listed b.old w) i);
        new_inside = λ w i. or_right (eqb w x) (listed ws w) (b.new_inside w i);
      })
      (λ h. record {
        old = b.old;
        new = x ∷ b.new;
        old_apart = b.old_apart;
        new_apart = (deny (listed b.new x) (λ i. clash (listed ws x) (b.new_inside x i) n), b.new_apart);
        old_trusted = b.old_trusted;
        new_named = (h, b.new_named);
        sum = let s : length b.old + length b.new ≡ length ws = b.sum in omega (arith, s);
        old_inside = λ w i. or_right (eqb w x) (listed ws w) (b.old_inside w i);
        new_inside = λ w i. ⊎_elim (λ e. or_left (eqb w x) (listed ws w) e) (λ j. or_right (eqb w x) (listed ws w) (b.new_inside w j)) (either (eqb w x) (listed b.new w) i);
      })
      (either (p.trusted x) (listed us x) t)

  pub few_trusted_after : (Crowded p us → ⊥) → (ws : List User) → Apart ws → AllTrusted now_trusted ws → length ws ≤ measures.trusted_users
  few_trusted_after room ws a t =
      let b : Parted ws = part ws a t in
      ⊎_elim
      (λ (many : measures.trusted_users < length ws). absurd (
      let l : length b.new ≤ length us = few b.new us b.new_apart b.new_named in
      let s : length b.old + length b.new ≡ length ws = b.sum in
      room (record { there = b.old; apart = b.old_apart; trusted = b.old_trusted; many = omega (arith, l, s, many) })))
      (λ l. l)
      (cases_lt measures.trusted_users (length ws))
