-- The canonical text says its set, with the fewest pairs of parentheses and the fewest levels; and with each user in its own braces no other does.
use Rattle.std.proofs.Common.{◌≡◌, ℕ, suc, ◌≤◌, true, sym, refl, ap, ◌∙◌, subst, arith, ltb-true}
use borrow.Author.Tests.{clash}
use Rattle.std.proofs.lemmas.Bool.{and_parts, and_from}
use Rattle.meaning.specs.Measures as measures
use Rattle.meaning.specs.Sets.{UserSet, members, holders, only, nobody, union, intersection}
use Rattle.grammar.specs.Phrase.{Kind, set, term, factor, users, Phrase, one, or, lone, and, a_role, a_permission, no_users, braces, parens, a_user, also, meaning, levels, pairs, in_range, Short}
use Rattle.pen.specs.declared.spot.Spot.{Spot}
use Rattle.pen.specs.declared.spot.Spot.TheVariants.{Set, Term, Factor}
use Rattle.pen.specs.Canon.{as_set, as_term, as_factor, as_phrase, kind, users_apart, Canonical}

mutual
  set_says : (t : UserSet) → meaning (as_set t) ≡ t
  set_says (union a b) = ap (λ x. union x (meaning (as_term b))) (set_says a) ∙ ap (union a) (term_says b)
  set_says (intersection a b) = ap (λ x. intersection x (meaning (as_factor b))) (term_says a) ∙ ap (intersection a) (factor_says b)
  set_says (members n) = refl
  set_says (holders n) = refl
  set_says (only n) = refl
  set_says nobody = refl

  term_says : (t : UserSet) → meaning (as_term t) ≡ t
  term_says (union a b) = ap (λ x. union x (meaning (as_term b))) (set_says a) ∙ ap (union a) (term_says b)
  term_says (intersection a b) = ap (λ x. intersection x (meaning (as_factor b))) (term_says a) ∙ ap (intersection a) (factor_says b)
  term_says (members n) = refl
  term_says (holders n) = refl
  term_says (only n) = refl
  term_says nobody = refl

  factor_says : (t : UserSet) → meaning (as_factor t) ≡ t
  factor_says (union a b) = ap (λ x. union x (meaning (as_term b))) (set_says a) ∙ ap (union a) (term_says b)
  factor_says (intersection a b) = ap (λ x. intersection x (meaning (as_factor b))) (term_says a) ∙ ap (intersection a) (factor_says b)
  factor_says (members n) = refl
  factor_says (holders n) = refl
  factor_says (only n) = refl
  factor_says nobody = refl

says : (spot : Spot) (t : UserSet) → meaning (as_phrase spot t) ≡ t
says Set t = set_says t
says Term t = term_says t
says Factor t = factor_says t

range_short : (t : UserSet) → in_range t ≡ true → Short t
range_short (members n) h = let k = ltb-true n measures.roles h in omega arith
range_short (holders n) h = let k = ltb-true n measures.permissions h in omega arith
range_short (only n) h = let k = ltb-true n measures.users h in omega arith
range_short nobody h = tt
range_short (union a b) h = let p = and_parts (in_range a) (in_range b) h in (range_short a p.0, range_short b p.1)
range_short (intersection a b) h = let p = and_parts (in_range a) (in_range b) h in (range_short a p.0, range_short b p.1)

-- ---- pairs

set_term_pairs : (t : UserSet) → pairs (as_set t) ≤ pairs (as_term t)
set_term_pairs (union a b) = omega arith
set_term_pairs (intersection a b) = omega arith
set_term_pairs (members n) = omega arith
set_term_pairs (holders n) = omega arith
set_term_pairs (only n) = omega arith
set_term_pairs nobody = omega arith

term_factor_pairs : (t : UserSet) → pairs (as_term t) ≤ pairs (as_factor t)
term_factor_pairs (union a b) = omega arith
term_factor_pairs (intersection a b) = omega arith
term_factor_pairs (members n) = omega arith
term_factor_pairs (holders n) = omega arith
term_factor_pairs (only n) = omega arith
term_factor_pairs nobody = omega arith

factor_set_pairs : (t : UserSet) → pairs (as_factor t) ≤ suc (pairs (as_set t))
factor_set_pairs (union a b) = omega arith
factor_set_pairs (intersection a b) = omega arith
factor_set_pairs (members n) = omega arith
factor_set_pairs (holders n) = omega arith
factor_set_pairs (only n) = omega arith
factor_set_pairs nobody = omega arith

users_no_pairs : (us : Phrase users) → pairs (as_set (meaning us)) ≡ 0
users_no_pairs (a_user n) = refl
users_no_pairs (also us n) = let h = users_no_pairs us in omega arith

users_pairs : (us : Phrase users) → pairs (as_factor (meaning us)) ≤ pairs us
users_pairs (a_user n) = omega arith
users_pairs (also us n) = let h = users_no_pairs us in omega arith

-- those of the canonical phrase of a kind
abbrev canonical_pairs : (k : Kind) → UserSet → ℕ
canonical_pairs set t = pairs (as_set t)
canonical_pairs term t = pairs (as_term t)
canonical_pairs factor t = pairs (as_factor t)
canonical_pairs users t = 0

fewest_pairs : {k : Kind} (p : Phrase k) → canonical_pairs k (meaning p) ≤ pairs p
fewest_pairs (one t) = let h = fewest_pairs t in let i = set_term_pairs (meaning t) in omega arith
fewest_pairs (or s t) = let h = fewest_pairs s in let i = fewest_pairs t in omega arith
fewest_pairs (lone f) = let h = fewest_pairs f in let i = term_factor_pairs (meaning f) in omega arith
fewest_pairs (and t f) = let h = fewest_pairs t in let i = fewest_pairs f in omega arith
fewest_pairs (a_role n) = omega arith
fewest_pairs (a_permission n) = omega arith
fewest_pairs no_users = omega arith
fewest_pairs (braces us) = users_pairs us
fewest_pairs (parens s) = let h = fewest_pairs s in let i = factor_set_pairs (meaning s) in omega arith
fewest_pairs (a_user n) = omega arith
fewest_pairs (also us n) = omega arith

at_pairs : (spot : Spot) (p : Phrase (kind spot)) → pairs (as_phrase spot (meaning p)) ≤ pairs p
at_pairs Set p = fewest_pairs p
at_pairs Term p = fewest_pairs p
at_pairs Factor p = fewest_pairs p

-- ---- levels

set_term_levels : (t : UserSet) → levels (as_set t) ≤ levels (as_term t)
set_term_levels (union a b) = omega arith
set_term_levels (intersection a b) = omega arith
set_term_levels (members n) = omega arith
set_term_levels (holders n) = omega arith
set_term_levels (only n) = omega arith
set_term_levels nobody = omega arith

term_factor_levels : (t : UserSet) → levels (as_term t) ≤ levels (as_factor t)
term_factor_levels (union a b) = omega arith
term_factor_levels (intersection a b) = omega arith
term_factor_levels (members n) = omega arith
term_factor_levels (holders n) = omega arith
term_factor_levels (only n) = omega arith
term_factor_levels nobody = omega arith

factor_set_levels : (t : UserSet) → levels (as_factor t) ≤ suc (levels (as_set t))
factor_set_levels (union a b) = omega arith
factor_set_levels (intersection a b) = omega arith
factor_set_levels (members n) = omega arith
factor_set_levels (holders n) = omega arith
factor_set_levels (only n) = omega arith
factor_set_levels nobody = omega arith

users_no_levels : (us : Phrase users) → levels (as_set (meaning us)) ≡ 0
users_no_levels (a_user n) = refl
users_no_levels (also us n) = let h = users_no_levels us in omega arith

users_levels : (us : Phrase users) → levels (as_factor (meaning us)) ≤ levels us
users_levels (a_user n) = omega arith
users_levels (also us n) = let h = users_no_levels us in omega arith

-- those of the canonical phrase of a kind
abbrev canonical_levels : (k : Kind) → UserSet → ℕ
canonical_levels set t = levels (as_set t)
canonical_levels term t = levels (as_term t)
canonical_levels factor t = levels (as_factor t)
canonical_levels users t = 0

fewest_levels : {k : Kind} (p : Phrase k) → canonical_levels k (meaning p) ≤ levels p
fewest_levels (one t) = let h = fewest_levels t in let i = set_term_levels (meaning t) in omega arith
fewest_levels (or s t) = let h = fewest_levels s in let i = fewest_levels t in omega arith
fewest_levels (lone f) = let h = fewest_levels f in let i = term_factor_levels (meaning f) in omega arith
fewest_levels (and t f) = let h = fewest_levels t in let i = fewest_levels f in omega arith
fewest_levels (a_role n) = omega arith
fewest_levels (a_permission n) = omega arith
fewest_levels no_users = omega arith
fewest_levels (braces us) = users_levels us
fewest_levels (parens s) = let h = fewest_levels s in let i = factor_set_levels (meaning s) in omega arith
fewest_levels (a_user n) = omega arith
fewest_levels (also us n) = omega arith

at_levels : (spot : Spot) (p : Phrase (kind spot)) → levels (as_phrase spot (meaning p)) ≤ levels p
at_levels Set p = fewest_levels p
at_levels Term p = fewest_levels p
at_levels Factor p = fewest_levels p

-- ---- no other phrase has as few pairs and no braces of two users

mutual
  set_apart : (t : UserSet) → users_apart (as_set t) ≡ true
  set_apart (union a b) = and_from _ _ (set_apart a) (term_apart b)
  set_apart (intersection a b) = and_from _ _ (term_apart a) (factor_apart b)
  set_apart (members n) = refl
  set_apart (holders n) = refl
  set_apart (only n) = refl
  set_apart nobody = refl

  term_apart : (t : UserSet) → users_apart (as_term t) ≡ true
  term_apart (union a b) = and_from _ _ (set_apart a) (term_apart b)
  term_apart (intersection a b) = and_from _ _ (term_apart a) (factor_apart b)
  term_apart (members n) = refl
  term_apart (holders n) = refl
  term_apart (only n) = refl
  term_apart nobody = refl

  factor_apart : (t : UserSet) → users_apart (as_factor t) ≡ true
  factor_apart (union a b) = and_from _ _ (set_apart a) (term_apart b)
  factor_apart (intersection a b) = and_from _ _ (term_apart a) (factor_apart b)
  factor_apart (members n) = refl
  factor_apart (holders n) = refl
  factor_apart (only n) = refl
  factor_apart nobody = refl

apart : (spot : Spot) (t : UserSet) → users_apart (as_phrase spot t) ≡ true
apart Set t = set_apart t
apart Term t = term_apart t
apart Factor t = factor_apart t

-- the term of a set alone, the factor of a term alone, and a set in parentheses, where they have no more pairs than the canonical phrase
one_same : (t : UserSet) → pairs (as_term t) ≤ pairs (as_set t) → one (as_term t) ≡ as_set t
one_same (union a b) l = absurd (omega arith)
one_same (intersection a b) l = refl
one_same (members n) l = refl
one_same (holders n) l = refl
one_same (only n) l = refl
one_same nobody l = refl

lone_same : (t : UserSet) → pairs (as_factor t) ≤ pairs (as_term t) → lone (as_factor t) ≡ as_term t
lone_same (union a b) l = refl
lone_same (intersection a b) l = absurd (omega arith)
lone_same (members n) l = refl
lone_same (holders n) l = refl
lone_same (only n) l = refl
lone_same nobody l = refl

parens_same : (t : UserSet) → suc (pairs (as_set t)) ≤ pairs (as_factor t) → parens (as_set t) ≡ as_factor t
parens_same (union a b) l = refl
parens_same (intersection a b) l = refl
parens_same (members n) l = absurd (omega arith)
parens_same (holders n) l = absurd (omega arith)
parens_same (only n) l = absurd (omega arith)
parens_same nobody l = absurd (omega arith)

one_user : (us : Phrase users) → users_apart us ≡ true → braces us ≡ as_factor (meaning us)
one_user (a_user n) h = refl
one_user (also us n) h = absurd (clash h)

mutual
  set_unique : (p : Phrase set) → users_apart p ≡ true → pairs p ≤ pairs (as_set (meaning p)) → p ≡ as_set (meaning p)
  set_unique (one t) h l =
      let i = set_term_pairs (meaning t) in
      let e = term_unique t h (omega arith) in
      ap (λ (x : Phrase term). one x) e ∙ one_same (meaning t) (omega (arith, ap (λ (x : Phrase term). pairs x) e))
  set_unique (or s t) h l =
      let p = and_parts (users_apart s) (users_apart t) h in
      let i = fewest_pairs s in
      let j = fewest_pairs t in
      ap (λ (x : Phrase set). or x t) (set_unique s p.0 (omega arith)) ∙ ap (λ (x : Phrase term). or (as_set (meaning s)) x) (term_unique t p.1 (omega arith))

  term_unique : (p : Phrase term) → users_apart p ≡ true → pairs p ≤ pairs (as_term (meaning p)) → p ≡ as_term (meaning p)
  term_unique (lone f) h l =
      let i = term_factor_pairs (meaning f) in
      let e = factor_unique f h (omega arith) in
      ap (λ (x : Phrase factor). lone x) e ∙ lone_same (meaning f) (omega (arith, ap (λ (x : Phrase factor). pairs x) e))
  term_unique (and t f) h l =
      let p = and_parts (users_apart t) (users_apart f) h in
      let i = fewest_pairs t in
      let j = fewest_pairs f in
      ap (λ (x : Phrase term). and x f) (term_unique t p.0 (omega arith)) ∙ ap (λ (x : Phrase factor). and (as_term (meaning t)) x) (factor_unique f p.1 (omega arith))

  factor_unique : (p : Phrase factor) → users_apart p ≡ true → pairs p ≤ pairs (as_factor (meaning p)) → p ≡ as_factor (meaning p)
  factor_unique (a_role n) h l = refl
  factor_unique (a_permission n) h l = refl
  factor_unique no_users h l = refl
  factor_unique (braces us) h l = one_user us h
  factor_unique (parens s) h l =
      let i = factor_set_pairs (meaning s) in
      let e = set_unique s h (omega arith) in
      ap (λ (x : Phrase set). parens x) e ∙ parens_same (meaning s) (omega (arith, ap (λ (x : Phrase set). pairs x) e))

unique : (spot : Spot) (p : Phrase (kind spot)) → users_apart p ≡ true → pairs p ≤ pairs (as_phrase spot (meaning p)) → p ≡ as_phrase spot (meaning p)
unique Set p h l = set_unique p h l
unique Term p h l = term_unique p h l
unique Factor p h l = factor_unique p h l

pub canonical : (spot : Spot) (t : UserSet) → Canonical spot t
canonical spot t = record {
  says = says spot t;
  short = λ h. subst Short (sym (says spot t)) (range_short t h);
  apart = apart spot t;
  fewest_pairs = λ p e. subst (λ (x : UserSet). pairs (as_phrase spot x) ≤ pairs p) e (at_pairs spot p);
  fewest_levels = λ p e. subst (λ (x : UserSet). levels (as_phrase spot x) ≤ levels p) e (at_levels spot p);
  unique = λ p e. subst (λ (x : UserSet). users_apart p ≡ true → pairs p ≤ pairs (as_phrase spot x) → p ≡ as_phrase spot x) e (unique spot p);
}
