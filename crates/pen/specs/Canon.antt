-- The one way to write a set: each user in its own braces, and in no more pairs of parentheses than any other way.
use Rattle.std.specs.Prelude.{◌≡◌, ◌≤◌, Bool, true, false, ◌&&◌}
use Rattle.meaning.specs.Sets.{UserSet, members, holders, only, nobody, union, intersection}
use Rattle.grammar.specs.Phrase.{Kind, set, term, factor, Phrase, one, or, lone, and, a_role, a_permission, no_users, braces, parens, a_user, also, meaning, levels, pairs, in_range, Short}
use Rattle.pen.specs.declared.spot.Spot.{Spot}
use Rattle.pen.specs.declared.spot.Spot.TheVariants.{Set, Term, Factor}

-- as a set, as a term, as a factor: a union stands in parentheses where it is a term or a factor, an intersection where it is a factor
abbrev mutual
  pub as_set : UserSet → Phrase set
  as_set (union a b) = or (as_set a) (as_term b)
  as_set (intersection a b) = one (and (as_term a) (as_factor b))
  as_set (members n) = one (lone (a_role n))
  as_set (holders n) = one (lone (a_permission n))
  as_set (only n) = one (lone (braces (a_user n)))
  as_set nobody = one (lone no_users)

  pub as_term : UserSet → Phrase term
  as_term (union a b) = lone (parens (or (as_set a) (as_term b)))
  as_term (intersection a b) = and (as_term a) (as_factor b)
  as_term (members n) = lone (a_role n)
  as_term (holders n) = lone (a_permission n)
  as_term (only n) = lone (braces (a_user n))
  as_term nobody = lone no_users

  pub as_factor : UserSet → Phrase factor
  as_factor (union a b) = parens (or (as_set a) (as_term b))
  as_factor (intersection a b) = parens (one (and (as_term a) (as_factor b)))
  as_factor (members n) = a_role n
  as_factor (holders n) = a_permission n
  as_factor (only n) = braces (a_user n)
  as_factor nobody = no_users

-- what is written at a spot
abbrev pub kind : Spot → Kind
kind Set = set
kind Term = term
kind Factor = factor

abbrev pub as_phrase : (spot : Spot) → UserSet → Phrase (kind spot)
as_phrase Set t = as_set t
as_phrase Term t = as_term t
as_phrase Factor t = as_factor t

-- no braces hold two users
abbrev pub users_apart : {k : Kind} → Phrase k → Bool
users_apart (one t) = users_apart t
users_apart (or s t) = users_apart s && users_apart t
users_apart (lone f) = users_apart f
users_apart (and t f) = users_apart t && users_apart f
users_apart (a_role n) = true
users_apart (a_permission n) = true
users_apart no_users = true
users_apart (braces us) = users_apart us
users_apart (parens s) = users_apart s
users_apart (a_user n) = true
users_apart (also us n) = false

-- it says the set, in short numbers, each user in its own braces; nothing that says the set at that spot has fewer pairs of parentheses, or fewer levels of them; and nothing else that has as few pairs has each user in its own braces
pub record Canonical (spot : Spot) (t : UserSet) : Type 0 where
  pub says : meaning (as_phrase spot t) ≡ t
  pub short : in_range t ≡ true → Short (meaning (as_phrase spot t))
  pub apart : users_apart (as_phrase spot t) ≡ true
  pub fewest_pairs : (p : Phrase (kind spot)) → meaning p ≡ t → pairs (as_phrase spot t) ≤ pairs p
  pub fewest_levels : (p : Phrase (kind spot)) → meaning p ≡ t → levels (as_phrase spot t) ≤ levels p
  pub unique : (p : Phrase (kind spot)) → meaning p ≡ t → users_apart p ≡ true → pairs p ≤ pairs (as_phrase spot t) → p ≡ as_phrase spot t
