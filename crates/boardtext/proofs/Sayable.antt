-- Whether some line says a rule or a requirement is told by tests; where they pass, its canonical text says it.
use Rattle.std.proofs.Common.{◌≡◌, ℕ, ◌+◌, ◌<◌, ◌≤◌, max, Bool, true, ◌&&◌, ◌||◌, T, ltb, leb, List, [], ◌∷◌, ◌++◌, codes, decimal, sym, refl, ap, ◌∙◌, subst, ⊎_elim, ap₂, arith, ltb-true, lt-ltb, leb-true, le-leb}
use mathlib.Core.Path.{subst⁻¹}
use borrow.Author.Tests.{clash as distinct}
use Rattle.std.proofs.lemmas.Bool.{and_parts, and_from}
use Rattle.meaning.specs.Measures as measures
use Rattle.meaning.specs.Rules.{Condition, everybody, in_role, both, either, AssignRule, RevokeRule}
use Rattle.meaning.specs.Sets.{UserSet, members, holders, only, nobody, union, intersection, as_condition, Question}
use Rattle.meaning.specs.Requirements.{Requirement, always, never}
use Rattle.meaning.specs.Lists.{listed}
use Rattle.grammar.specs.Phrase.{set, Phrase, render, meaning, levels, operands, in_range, static, roles_alone, Short}
use Rattle.lines.specs.Entries.{AllShort, all_below, entry_bytes}
use Rattle.lines.specs.Bodies.{deepest, roles_in, Clause, always_true, in_set, clause_bytes, ProperClause, clause_ranged, clause_small, condition, Assigning, Sides, sides, question_of, RoleListing}
use Rattle.lines.specs.Bodies as B
use Rattle.lines.specs.Lines.{bodies}
use Rattle.lines.specs.declared.keyword.Keyword.TheVariants.{Assign, Revoke, Always, Never}
use Rattle.pen.specs.Ascending.{ascending}
use Rattle.pen.specs.Canon.{as_set}
use Rattle.pen.specs.declared.spot.Spot.TheVariants.{Set}
use Rattle.pen.proofs.Canonical.{canonical}
use Rattle.saving.proofs.Ascends.{sorted, asc_short, asc_below}
use Rattle.book.specs.Book.{Entry, assigns, revokes, requires}
use Rattle.book.specs.Orderly.{Said}
use Rattle.book.specs.Says.{assign_rule, revoke_rule}
use Rattle.boardtext.specs.Canonical.{condition_text, assign_text, revoke_text, requirement_text, set_of_condition}
use Rattle.boardtext.proofs.Listing.{all_of, passes}
use Rattle.boardtext.proofs.Putting.{Writes}
use Rattle.boardtext.proofs.Saying.{condition_set, rule_form, revoke_said, requirement_said}
use Rattle.book.proofs.Sayings.{RuleSaid, RevokeSaid}

-- ---- sets

module _ (p : Phrase set) (r : in_range (meaning p) ≡ true) where
  says_it : meaning (as_set (meaning p)) ≡ meaning p
  says_it = (canonical Set (meaning p)).says

  ranged : in_range (meaning (as_set (meaning p))) ≡ true
  ranged = ap in_range says_it ∙ r

  fewer : levels (as_set (meaning p)) ≤ levels p
  fewer = (canonical Set (meaning p)).fewest_levels p refl

  as_many : operands (meaning (as_set (meaning p))) ≡ operands (meaning p)
  as_many = ap operands says_it

short : (t : UserSet) → in_range (meaning (as_set t)) ≡ true → Short (meaning (as_set t))
short t r = let k = canonical Set t in k.short (sym (ap in_range k.says) ∙ r)

-- ---- conditions

-- `true`, or a small set of roles alone, by its canonical text
abbrev pub sayable_set : UserSet → Bool
sayable_set t = roles_alone t && (clause_ranged (in_set (as_set t)) && clause_small (in_set (as_set t)))

abbrev pub sayable : Condition → Bool
sayable everybody = true
sayable (in_role r) = sayable_set (set_of_condition (in_role r))
sayable (both c d) = sayable_set (set_of_condition (both c d))
sayable (either c d) = sayable_set (set_of_condition (either c d))

of_set : (t : UserSet) → roles_alone t ≡ true → sayable (as_condition t) ≡ sayable_set t
of_set (members r) h = refl
of_set (holders n) h = absurd (distinct h)
of_set (only u) h = absurd (distinct h)
of_set nobody h = absurd (distinct h)
of_set (union a b) h = ap sayable_set (condition_set (union a b) h)
of_set (intersection a b) h = ap sayable_set (condition_set (intersection a b) h)

-- the canonical text of a small set is small
still_small : (p : Phrase set) → in_range (meaning p) ≡ true → clause_small (in_set p) ≡ true → clause_small (in_set (as_set (meaning p))) ≡ true
still_small p r m =
    let o = and_parts (leb (operands (meaning p)) measures.condition_operands) (leb (levels p) deepest) m in
    let d = leb-true (levels p) deepest o.1 in
    let f = fewer p r in
    and_from _ _ (ap (λ n. leb n measures.condition_operands) (as_many p r) ∙ o.0) (le-leb (levels (as_set (meaning p))) deepest (omega arith))

clause_sayable : (c : Clause) → ProperClause c → clause_ranged c ≡ true → clause_small c ≡ true → sayable (condition c) ≡ true
clause_sayable always_true p r m = refl
clause_sayable (in_set p) q r m =
    of_set (meaning p) q.1 ∙ and_from _ _ q.1 (and_from _ _ (ranged p r) (still_small p r m))

-- a condition is that of its set, where the set is of roles alone
of_roles : (c : Condition) → roles_alone (set_of_condition c) ≡ true → as_condition (set_of_condition c) ≡ c
of_roles everybody h = absurd (distinct h)
of_roles (in_role r) h = refl
of_roles (both c d) h = let p = and_parts (roles_alone (set_of_condition c)) (roles_alone (set_of_condition d)) h in ap₂ both (of_roles c p.0) (of_roles d p.1)
of_roles (either c d) h = let p = and_parts (roles_alone (set_of_condition c)) (roles_alone (set_of_condition d)) h in ap₂ either (of_roles c p.0) (of_roles d p.1)

-- its canonical clause
record CanonicalClause (c : Condition) : Type 0 where
  clause : Clause
  bytes : condition_text c ≡ clause_bytes clause
  proper : ProperClause clause
  ranged : clause_ranged clause ≡ true
  small : clause_small clause ≡ true
  same : condition clause ≡ c

set_clause : (c : Condition) → condition_text c ≡ render (as_set (set_of_condition c)) → sayable_set (set_of_condition c) ≡ true → CanonicalClause c
set_clause c text h =
    let t = set_of_condition c in
    let k = canonical Set t in
    let p = and_parts (roles_alone t) (clause_ranged (in_set (as_set t)) && clause_small (in_set (as_set t))) h in
    let q = and_parts (clause_ranged (in_set (as_set t))) (clause_small (in_set (as_set t))) p.1 in
    record {
      clause = in_set (as_set t);
      bytes = text;
      proper = (short t q.0, ap roles_alone k.says ∙ p.0);
      ranged = q.0;
      small = q.1;
      same = ap as_condition k.says ∙ of_roles c p.0;
    }

sayable_clause : (c : Condition) → sayable c ≡ true → CanonicalClause c
sayable_clause everybody h = record { clause = always_true; bytes = refl; proper = tt; ranged = refl; small = refl; same = refl }
sayable_clause (in_role r) h = set_clause (in_role r) refl h
sayable_clause (both c d) h = set_clause (both c d) refl h
sayable_clause (either c d) h = set_clause (either c d) refl h

-- ---- targets

-- there are some, and all are roles
pub record Targets (f : ℕ → Bool) : Type 0 where
  pub some : ascending f measures.roles ≡ [] → ⊥
  pub inside : (r : ℕ) → T (f r) → r < measures.roles

targets_of : (n : ℕ) (ns : List ℕ) → all_below measures.roles (n ∷ ns) ≡ true → Targets (listed (n ∷ ns))
targets_of n ns h =
    let s = sorted (listed (n ∷ ns)) measures.roles n ns (omega arith) refl h in
    let is : listed (ascending (listed (n ∷ ns)) measures.roles) ≡ listed (n ∷ ns) = ap listed s.is ∙ s.same in
    record {
      some = λ e. none s.first s.more (sym s.is ∙ e);
      inside = λ r t. (passes (listed (n ∷ ns)) measures.roles r (subst⁻¹ (λ (f : ℕ → Bool). T (f r)) is t)).0;
    }
  where
    none : (m : ℕ) (ms : List ℕ) → m ∷ ms ≡ [] → ⊥
    none m ms e = cc

-- the list of them
record Named (f : ℕ → Bool) : Type 0 where
  first : ℕ
  more : List ℕ
  is : ascending f measures.roles ≡ first ∷ more
  short : AllShort (first ∷ more)
  below : all_below measures.roles (first ∷ more) ≡ true
  same : listed (first ∷ more) ≡ f

named : (f : ℕ → Bool) → Targets f → Named f
named f t = list (ascending f measures.roles) refl
  where
    list : (ns : List ℕ) → ascending f measures.roles ≡ ns → Named f
    list [] e = absurd (t.some e)
    list (n ∷ ns) e = record {
      first = n;
      more = ns;
      is = e;
      short = subst AllShort e (asc_short f measures.roles (omega arith));
      below = ap (all_below measures.roles) (sym e) ∙ asc_below f measures.roles measures.roles (omega arith);
      same = ap listed (sym e) ∙ all_of f measures.roles t.inside;
    }

-- ---- assign rules

-- what is written by some text is said
said : {e : Entry} {s : List ℕ} → Writes e s → Said e
said w = record { line = w.line; fine = w.fine; names = w.names }

-- what is asked of a rule that some line says
pub record AssignSayable (rule : AssignRule) : Type 0 where
  pub admin : rule.admin < measures.roles
  pub condition : sayable rule.condition ≡ true
  pub targets : Targets rule.targets

assign_sayable : (x : Assigning) → B.assigns.proper x → B.assigns.ranged x ≡ true → B.assigns.small x ≡ true → AssignSayable (assign_rule x)
assign_sayable x h ra m =
    let p = and_parts (ltb x.row.subject measures.roles) (clause_ranged x.clause && all_below measures.roles (roles_in x.row)) ra in
    let r = and_parts (clause_ranged x.clause) (all_below measures.roles (roles_in x.row)) p.1 in
    record { admin = ltb-true x.row.subject measures.roles p.0; condition = clause_sayable x.clause h.2 r.0 m; targets = targets_of x.row.first x.row.more r.1 }

pub rule_sayable : (rule : AssignRule) → RuleSaid rule → AssignSayable rule
rule_sayable rule s = let f = rule_form rule s in subst AssignSayable f.is (assign_sayable f.form f.proper f.ranged f.small)

abbrev rule_of : ℕ → Condition → (ℕ → Bool) → AssignRule
rule_of n c f = record { admin = n; condition = c; targets = f }

-- its canonical text
canonical_rule : (rule : AssignRule) → AssignSayable rule → Writes (assigns rule (ascending rule.targets measures.roles)) (assign_text rule)
canonical_rule rule s =
    let c = sayable_clause rule.condition s.condition in
    let n = named rule.targets s.targets in
    let l = s.admin in
    record {
      line = record { keyword = Assign; body = record { row = record { subject = rule.admin; first = n.first; more = n.more }; clause = c.clause } };
      fine = record { proper = (refl, (omega arith, n.short, c.proper)); ranged = and_from _ _ (lt-ltb rule.admin measures.roles l) (and_from _ _ c.ranged n.below); small = c.small; semi_static = refl };
      bytes = ap₂ (λ a ns. codes "assign r" ++ (decimal rule.admin ++ (codes " : " ++ (a ++ (codes " :" ++ entry_bytes 114 ns))))) c.bytes n.is;
      names = ap₂ (λ d f. assigns (rule_of rule.admin d f) (n.first ∷ n.more)) c.same n.same ∙ ap (assigns rule) (sym n.is);
    }

pub sayable_rule : (rule : AssignRule) → AssignSayable rule → RuleSaid rule
sayable_rule rule s = (ascending rule.targets measures.roles, said (canonical_rule rule s))

pub assign_written : (rule : AssignRule) → RuleSaid rule → Writes (assigns rule (ascending rule.targets measures.roles)) (assign_text rule)
assign_written rule s = canonical_rule rule (rule_sayable rule s)

-- ---- revoke rules

-- what is asked of a rule that some line says
pub record RevokeSayable (rule : RevokeRule) : Type 0 where
  pub admin : rule.admin < measures.roles
  pub targets : Targets rule.targets

revoke_sayable : (x : RoleListing) → (bodies Revoke).ranged x ≡ true → RevokeSayable (revoke_rule x)
revoke_sayable x ra =
    let p = and_parts (ltb x.subject measures.roles) (all_below measures.roles (roles_in x)) ra in
    record { admin = ltb-true x.subject measures.roles p.0; targets = targets_of x.first x.more p.1 }

pub revoking_sayable : (rule : RevokeRule) → RevokeSaid rule → RevokeSayable rule
revoking_sayable rule s = let f = revoke_said rule s in subst RevokeSayable f.is (revoke_sayable f.form f.ranged)

abbrev revoke_of : ℕ → (ℕ → Bool) → RevokeRule
revoke_of n f = record { admin = n; targets = f }

-- its canonical text
canonical_revoking : (rule : RevokeRule) → RevokeSayable rule → Writes (revokes rule (ascending rule.targets measures.roles)) (revoke_text rule)
canonical_revoking rule s =
    let n = named rule.targets s.targets in
    let l = s.admin in
    record {
      line = record { keyword = Revoke; body = record { subject = rule.admin; first = n.first; more = n.more } };
      fine = record { proper = (refl, (omega arith, n.short)); ranged = and_from _ _ (lt-ltb rule.admin measures.roles l) n.below; small = refl; semi_static = refl };
      bytes = ap (λ ns. codes "revoke r" ++ (decimal rule.admin ++ (codes " :" ++ entry_bytes 114 ns))) n.is;
      names = ap (λ f. revokes (revoke_of rule.admin f) (n.first ∷ n.more)) n.same ∙ ap (revokes rule) (sym n.is);
    }

pub sayable_revoking : (rule : RevokeRule) → RevokeSayable rule → RevokeSaid rule
sayable_revoking rule s = (ascending rule.targets measures.roles, said (canonical_revoking rule s))

pub revoke_written : (rule : RevokeRule) → RevokeSaid rule → Writes (revokes rule (ascending rule.targets measures.roles)) (revoke_text rule)
revoke_written rule s = canonical_revoking rule (revoking_sayable rule s)

-- ---- requirements

-- its two sides in canonical form
abbrev pub sides_of : Question → Sides
sides_of q = record { larger = as_set q.larger; smaller = as_set q.smaller }

-- they are refused for nothing
pub record Askable (q : Question) : Type 0 where
  pub ranged : sides.ranged (sides_of q) ≡ true
  pub small : sides.small (sides_of q) ≡ true
  pub semi_static : sides.semi_static (sides_of q) ≡ true

abbrev pub asked : Requirement → Question
asked (always q) = q
asked (never q) = q

sides_askable : (x : Sides) → sides.ranged x ≡ true → sides.small x ≡ true → sides.semi_static x ≡ true → Askable (question_of x)
sides_askable x ra sm st =
    let r = and_parts (in_range (meaning x.larger)) (in_range (meaning x.smaller)) ra in
    let m = and_parts (leb (operands (meaning x.larger) + operands (meaning x.smaller)) measures.question_operands) (leb (max (levels x.larger) (levels x.smaller)) deepest) sm in
    let l : max (levels x.larger) (levels x.smaller) ≤ deepest = leb-true _ _ m.1 in
    let i = fewer x.larger r.0 in
    let j = fewer x.smaller r.1 in
    record {
      ranged = and_from _ _ (ranged x.larger r.0) (ranged x.smaller r.1);
      small = and_from _ _ (ap₂ (λ a b. leb (a + b) measures.question_operands) (as_many x.larger r.0) (as_many x.smaller r.1) ∙ m.0) (le-leb (max (levels (as_set (meaning x.larger))) (levels (as_set (meaning x.smaller)))) deepest (omega arith));
      semi_static = ap₂ (λ a b. static a || static b) (says_it x.larger r.0) (says_it x.smaller r.1) ∙ st;
    }

pub requirement_askable : (d : Requirement) → Said (requires d) → Askable (asked d)
requirement_askable d s =
    let f = requirement_said d s in
    let a = sides_askable f.form f.ranged f.small f.semi_static in
    ⊎_elim
    (λ (e : always (question_of f.form) ≡ d). subst (λ (z : Requirement). Askable (asked z)) e a)
    (λ (e : never (question_of f.form) ≡ d). subst (λ (z : Requirement). Askable (asked z)) e a)
    f.is

module _ (q : Question) (a : Askable q) where
  sides_proper : sides.proper (sides_of q)
  sides_proper =
      let r = and_parts (in_range (meaning (as_set q.larger))) (in_range (meaning (as_set q.smaller))) a.ranged in
      (short q.larger r.0, short q.smaller r.1)

  sides_say : question_of (sides_of q) ≡ q
  sides_say = ap₂ (λ x y. record { larger = x; smaller = y }) (canonical Set q.larger).says (canonical Set q.smaller).says

-- its canonical text
canonical_requirement : (d : Requirement) → Askable (asked d) → Writes (requires d) (requirement_text d)
canonical_requirement (always q) a = record {
  line = record { keyword = Always; body = sides_of q };
  fine = record { proper = (refl, sides_proper q a); ranged = a.ranged; small = a.small; semi_static = a.semi_static };
  bytes = refl;
  names = ap (λ x. requires (always x)) (sides_say q a);
}
canonical_requirement (never q) a = record {
  line = record { keyword = Never; body = sides_of q };
  fine = record { proper = (refl, sides_proper q a); ranged = a.ranged; small = a.small; semi_static = a.semi_static };
  bytes = refl;
  names = ap (λ x. requires (never x)) (sides_say q a);
}

pub askable_requirement : (d : Requirement) → Askable (asked d) → Said (requires d)
askable_requirement d a = said (canonical_requirement d a)

pub requirement_written : (d : Requirement) → Said (requires d) → Writes (requires d) (requirement_text d)
requirement_written d s = canonical_requirement d (requirement_askable d s)
