-- Lists of numbers, one number longer.
use Rattle.std.proofs.Common.{◌≡◌, ℕ, ◌<◌, ◌≤◌, Bool, true, false, ◌&&◌, ◌||◌, eqb, ltb, List, [], ◌∷◌, ◌++◌, Some, None, Option, MatchOption, sym, refl, ap, ◌∙◌, subst, ap₂, ⊎_elim, eq-eqb, ne_eqb}
use mathlib.Core.Path.{fun_ext}
use Rattle.std.proofs.lemmas.Bool.{lt-ltb, le-ltb, cases_eq}
use Rattle.std.specs.Option.{is_some}
use Rattle.meaning.specs.Measures as measures
use Rattle.words.specs.Words.{with}
use Rattle.rbac.specs.declared.sets.RoleSet.{RoleSet}
use Rattle.rbac.specs.Roles.{roles_of, no_role}
use Rattle.lines.specs.declared.parts.Names.{Names}
use Rattle.lines.specs.Entries.{all_below, repeats}
use Rattle.meaning.specs.Lists.{listed as named}
use Rattle.lines.specs.Lists.{Noted}

or_assoc : (a b c : Bool) → (a || (b || c)) ≡ ((a || b) || c)
or_assoc true b c = refl
or_assoc false b c = refl

or_swap : (a b c d : Bool) → ((a || b) || (c || d)) ≡ ((a || c) || (b || d))
or_swap true b c d = refl
or_swap false true true d = refl
or_swap false true false d = refl
or_swap false false true d = refl
or_swap false false false d = refl

or_none : (a : Bool) → a ≡ (a || false)
or_none true = refl
or_none false = refl

pub and_none : (a : Bool) → a ≡ (a && true)
and_none true = refl
and_none false = refl

and_assoc : (a b c : Bool) → (a && (b && c)) ≡ ((a && b) && c)
and_assoc true b c = refl
and_assoc false b c = refl

eqb_swap : (a b : ℕ) → eqb a b ≡ eqb b a
eqb_swap a b = ⊎_elim
    (λ (e : a ≡ b). eq-eqb a b e ∙ sym (eq-eqb b a (sym e)))
    (λ (n : a ≡ b → ⊥). ne_eqb a b n ∙ sym (ne_eqb b a (λ e. n (sym e))))
    (cases_eq a b)

pub named_more : (ns : List ℕ) (n k : ℕ) → named (ns ++ n ∷ []) k ≡ (named ns k || eqb k n)
named_more [] n k = sym (or_none (eqb k n))
named_more (m ∷ ns) n k = ap (λ b. eqb k m || b) (named_more ns n k) ∙ or_assoc (eqb k m) (named ns k) (eqb k n)

pub below_more : (limit : ℕ) (ns : List ℕ) (n : ℕ) → all_below limit (ns ++ n ∷ []) ≡ (all_below limit ns && ltb n limit)
below_more limit [] n = sym (and_none (ltb n limit))
below_more limit (m ∷ ns) n = ap (λ b. ltb m limit && b) (below_more limit ns n) ∙ and_assoc (ltb m limit) (all_below limit ns) (ltb n limit)

pub repeats_more : (ns : List ℕ) (n : ℕ) → repeats (ns ++ n ∷ []) ≡ (repeats ns || named ns n)
repeats_more [] n = refl
repeats_more (m ∷ ns) n =
    ap₂ ◌||◌ (named_more ns n m) (repeats_more ns n)
    ∙ or_swap (named ns m) (eqb m n) (repeats ns) (named ns n)
    ∙ ap (λ b. (named ns m || repeats ns) || (b || named ns n)) (eqb_swap m n)

pub no_and : (a : Bool) → (a && false) ≡ false
no_and true = refl
no_and false = refl

-- a list with one role more that is in range, and with one that is not
pub note_role : (v : Names) (ns : List ℕ) (n m : ℕ) (s : RoleSet) (c : Bool) → Noted (Some v) ns → m ≡ n → m < measures.roles → roles_of s ≡ with (roles_of v.roles) m → c ≡ roles_of v.roles m →
    Noted (Some (record { roles = s; twice = v.twice || c })) (ns ++ n ∷ [])
note_role v ns n m s c (b, h) q lt e f = subst (λ k. Noted (Some (record { roles = s; twice = v.twice || c })) (ns ++ k ∷ [])) q (
  below_more measures.roles ns m ∙ ap₂ ◌&&◌ b (lt-ltb m measures.roles lt),
  record {
    set = e ∙ fun_ext (λ k. ap (λ g. g k || eqb k m) h.set ∙ sym (named_more ns m k));
    twice = ap₂ ◌||◌ h.twice (f ∙ ap (λ g. g m) h.set) ∙ sym (repeats_more ns m);
  },
)

pub note_none : (ns : List ℕ) (n : ℕ) → measures.roles ≤ n → Noted None (ns ++ n ∷ [])
note_none ns n le = below_more measures.roles ns n ∙ ap (λ b. all_below measures.roles ns && b) (le-ltb n measures.roles le) ∙ no_and (all_below measures.roles ns)

-- a list with one role more, of which nothing is noted where nothing was
pub note_more : (o r : Option Names) (ns : List ℕ) (n : ℕ) → Noted o ns → MatchOption o (r ≡ None) (λ v. (ms : List ℕ) → Noted (Some v) ms → Noted r (ms ++ n ∷ [])) → Noted r (ns ++ n ∷ [])
note_more None r ns n h e = subst (λ x. Noted x (ns ++ n ∷ [])) (sym e) (below_more measures.roles ns n ∙ ap (λ b. b && ltb n measures.roles) h)
note_more (Some v) r ns n h f = f ns h

-- before the first
pub note_start : (s : RoleSet) → roles_of s ≡ no_role → Noted (Some (record { roles = s; twice = false })) []
note_start s e = (refl, record { set = e; twice = refl })

-- whether anything was noted tells whether each is in range
pub noted_fits : (o : Option Names) (ns : List ℕ) → Noted o ns → is_some o ≡ all_below measures.roles ns
noted_fits None ns h = sym h
noted_fits (Some v) ns h = sym h.0
