-- The canonical text of a line says what the line says, and nothing refuses it.
use Rattle.std.proofs.Common.{◌≡◌, ℕ, ◌+◌, ◌-◌, ◌≤◌, max, true, ◌&&◌, ◌||◌, ltb, leb, List, [], ◌∷◌, ◌++◌, map, length, take, Some, Ok, Err, codes, decimal, Option, Result, sym, refl, ap, ◌∙◌, ap₂, arith, le-leb, leb-true}
use borrow.Author.Tests.{clash}
use Rattle.std.proofs.lemmas.Bool.{and_parts, and_from}
use Rattle.std.proofs.lemmas.List.{take_all}
use Rattle.meaning.specs.Measures as measures
use Rattle.grammar.specs.declared.grounds.Ground.{Ground}
use Rattle.grammar.specs.declared.grounds.Ground.TheVariants.{Syntax, Range, Measure, NotSemiStatic}
use Rattle.lines.specs.Languages.{Fails}
use Rattle.meaning.specs.Sets.{as_condition}
use Rattle.grammar.specs.Phrase.{set, Phrase, meaning, levels, operands, in_range, static, roles_alone, Short}
use Rattle.rbac.specs.Roles.{roles_of}
use Rattle.rbac.specs.declared.sets.RoleSet.{RoleSet}
use Rattle.bounded.specs.Entries.{entries as kept}
use Rattle.trees.specs.Reading.{Nodes, nodes_in}
use Rattle.lines.proofs.Rowing.{some_is, no_some}
use Rattle.lines.specs.declared.change.Change.{Change}
use Rattle.lines.specs.declared.change.Extra.{Extra}
use Rattle.lines.specs.declared.keyword.Keyword.{Keyword}
use Rattle.lines.specs.declared.keyword.Keyword.TheVariants.{Ua, Pa, Rh, Trust, Assign, Revoke, Always, Never}
use Rattle.lines.specs.Entries.{all_below, entry_bytes}
use Rattle.meaning.specs.Lists.{listed as named}
use Rattle.lines.specs.Lists.{number_of}
use Rattle.lines.specs.Bodies as B
use Rattle.lines.specs.Bodies.{deepest, roles_in, users_in, Clause, always_true, in_set, clause_bytes, ProperClause, clause_ranged, clause_small, condition, Assigning, Sides, RoleListing}
use Rattle.lines.specs.Lines.{bodies, Sentence, lines, Fine}
use Rattle.pen.specs.declared.spot.Spot.TheVariants.{Set}
use Rattle.pen.specs.Ascending.{ascending}
use Rattle.pen.specs.Canon.{as_set}
use Rattle.pen.proofs.Canonical.{canonical}
use Rattle.saving.specs.Canonical as S
use Rattle.saving.specs.Canonical.{role_row, condition_text, assign_text, side_text, trust_text, text_of}
use Rattle.saving.specs.RoundTrip.{Value, ua, pa, rh, revoke, trust, assign, always, never, value_of, Fits, Back, RoundTrip, ReadBack}
use Rattle.saving.proofs.Laying.{text_is}
use Rattle.saving.proofs.Ascends.{sorted}
use Rattle.lines.specs.Changes.{TreeOf, Conditioned, Sided, NamesRoles, NamesUsers, Means, says_ua, says_pa, says_rh, says_trust, says_assign, says_revoke, says_always, says_never, Line}

-- ---- lines of one number and a list

record RowBack (letter limit : ℕ) (between : List ℕ) (x : RoleListing) (n : ℕ) (roles : RoleSet) : Type 0 where
  row : RoleListing
  bytes : decimal n ++ (between ++ entry_bytes 114 (ascending (roles_of roles) measures.roles)) ≡ decimal row.subject ++ (between ++ entry_bytes 114 (roles_in row))
  proper : (B.role_listings letter limit between).proper row
  ranged : (B.role_listings letter limit between).ranged row ≡ true
  subject : row.subject ≡ x.subject
  same : named (roles_in row) ≡ named (roles_in x)

row_back : (letter limit : ℕ) (between : List ℕ) (x : RoleListing) (n : ℕ) (roles : RoleSet) (e : Extra) → (B.role_listings letter limit between).proper x → (B.role_listings letter limit between).ranged x ≡ true → n ≡ x.subject → NamesRoles (roles_in x) roles e → RowBack letter limit between x n roles
row_back letter limit between x n roles e h r q l =
    let p = and_parts (ltb x.subject limit) (all_below measures.roles (roles_in x)) r in
    let s = sorted (roles_of roles) measures.roles x.first x.more (omega arith) l.set p.1 in
    record {
      row = record { subject = x.subject; first = s.first; more = s.more };
      bytes = ap₂ (λ m ns. decimal m ++ (between ++ entry_bytes 114 ns)) q s.is;
      proper = (h.0, s.short);
      ranged = and_from _ _ p.0 s.below;
      subject = refl;
      same = s.same;
    }

back_ua : (x : RoleListing) (n : ℕ) (roles : RoleSet) (e : Extra) → Fine (record { keyword = Ua; body = x }) → n ≡ x.subject → NamesRoles (roles_in x) roles e → Back (value_of Ua x) (role_row (codes "ua u") n [] roles)
back_ua x n roles e h q l =
    let d = row_back 117 measures.users [] x n roles e h.proper.1 h.ranged q l in
    record { line = record { keyword = Ua; body = d.row }; bytes = ap (λ a. codes "ua u" ++ a) d.bytes; fine = record { proper = (refl, d.proper); ranged = d.ranged; small = refl; semi_static = refl }; same = ap₂ ua d.subject d.same }

back_pa : (x : RoleListing) (n : ℕ) (roles : RoleSet) (e : Extra) → Fine (record { keyword = Pa; body = x }) → n ≡ x.subject → NamesRoles (roles_in x) roles e → Back (value_of Pa x) (role_row (codes "pa p") n [] roles)
back_pa x n roles e h q l =
    let d = row_back 112 measures.permissions [] x n roles e h.proper.1 h.ranged q l in
    record { line = record { keyword = Pa; body = d.row }; bytes = ap (λ a. codes "pa p" ++ a) d.bytes; fine = record { proper = (refl, d.proper); ranged = d.ranged; small = refl; semi_static = refl }; same = ap₂ pa d.subject d.same }

back_rh : (x : RoleListing) (n : ℕ) (roles : RoleSet) (e : Extra) → Fine (record { keyword = Rh; body = x }) → n ≡ x.subject → NamesRoles (roles_in x) roles e → Back (value_of Rh x) (role_row (codes "rh r") n [] roles)
back_rh x n roles e h q l =
    let d = row_back 114 measures.roles [] x n roles e h.proper.1 h.ranged q l in
    record { line = record { keyword = Rh; body = d.row }; bytes = ap (λ a. codes "rh r" ++ a) d.bytes; fine = record { proper = (refl, d.proper); ranged = d.ranged; small = refl; semi_static = refl }; same = ap₂ rh d.subject d.same }

back_revoke : (x : RoleListing) (n : ℕ) (roles : RoleSet) (e : Extra) → Fine (record { keyword = Revoke; body = x }) → n ≡ x.subject → NamesRoles (roles_in x) roles e → Back (value_of Revoke x) (role_row (codes "revoke r") n (codes " :") roles)
back_revoke x n roles e h q l =
    let d = row_back 114 measures.roles (codes " :") x n roles e h.proper.1 h.ranged q l in
    record { line = record { keyword = Revoke; body = d.row }; bytes = ap (λ a. codes "revoke r" ++ a) d.bytes; fine = record { proper = (refl, d.proper); ranged = d.ranged; small = refl; semi_static = refl }; same = ap₂ revoke d.subject d.same }

back_trust : (x : B.Users) (e : Extra) → Fine (record { keyword = Trust; body = x }) → length (users_in x) ≤ measures.trusted_users → NamesUsers (users_in x) e → Back (value_of Trust x) (trust_text e)
back_trust x e h l t =
    let us : map number_of (kept e.trusted) ≡ users_in x = t.first ∙ take_all measures.trusted_users (users_in x) l in
    let s = sorted (named (map number_of (kept e.trusted))) measures.users x.first x.more (omega arith) (ap named us) h.ranged in
    record {
      line = record { keyword = Trust; body = record { first = s.first; more = s.more } };
      bytes = ap (λ ns. codes "trust" ++ entry_bytes 117 ns) s.is;
      fine = record { proper = (refl, s.short); ranged = s.below; small = refl; semi_static = refl };
      same = ap trust s.same;
    }

-- ---- sets

module _ (p : Phrase set) (r : in_range (meaning p) ≡ true) where
  says : meaning (as_set (meaning p)) ≡ meaning p
  says = (canonical Set (meaning p)).says

  short : Short (meaning (as_set (meaning p)))
  short = (canonical Set (meaning p)).short r

  in_range_lem : in_range (meaning (as_set (meaning p))) ≡ true
  in_range_lem = ap in_range says ∙ r

  fewer : levels (as_set (meaning p)) ≤ levels p
  fewer = (canonical Set (meaning p)).fewest_levels p refl

  as_many : operands (meaning (as_set (meaning p))) ≡ operands (meaning p)
  as_many = ap operands says

-- two sides, in canonical form
record SidesBack (x : Sides) (e : Extra) : Type 0 where
  sides : Sides
  bytes : 32 ∷ (text_of e.left ++ (codes " >= " ++ text_of e.right)) ≡ (B.sides).bytes sides
  proper : (B.sides).proper sides
  ranged : (B.sides).ranged sides ≡ true
  small : (B.sides).small sides ≡ true
  semi_static : (B.sides).semi_static sides ≡ true
  larger : meaning sides.larger ≡ meaning x.larger
  smaller : meaning sides.smaller ≡ meaning x.smaller

within : (a b c d : ℕ) → a ≤ c → b ≤ d → leb (max c d) deepest ≡ true → leb (max a b) deepest ≡ true
within a b c d p q h = let z = leb-true (max c d) deepest h in le-leb (max a b) deepest (omega arith)

sides_back : (x : Sides) (e : Extra) → (B.sides).proper x → (B.sides).ranged x ≡ true → (B.sides).small x ≡ true → (B.sides).semi_static x ≡ true → Sided x e → SidesBack x e
sides_back x e pr ra sm st s =
    let p = x.larger in
    let q = x.smaller in
    let r = and_parts (in_range (meaning p)) (in_range (meaning q)) ra in
    let m = and_parts (leb (operands (meaning p) + operands (meaning q)) measures.question_operands) (leb (max (levels p) (levels q)) deepest) sm in
    record {
      sides = record { larger = as_set (meaning p); smaller = as_set (meaning q) };
      bytes = ap₂ (λ a b. 32 ∷ (a ++ (codes " >= " ++ b))) (sym (text_is e.left (meaning p) s.left)) (sym (text_is e.right (meaning q) s.right));
      proper = (short p r.0, short q r.1);
      ranged = and_from _ _ (in_range_lem p r.0) (in_range_lem q r.1);
      small = and_from _ _ (ap₂ (λ a b. leb (a + b) measures.question_operands) (as_many p r.0) (as_many q r.1) ∙ m.0) (within _ _ (levels p) (levels q) (fewer p r.0) (fewer q r.1) m.1);
      semi_static = ap₂ (λ a b. static a || static b) (says p r.0) (says q r.1) ∙ st;
      larger = says p r.0;
      smaller = says q r.1;
    }

back_always : (x : Sides) (e : Extra) → Fine (record { keyword = Always; body = x }) → Sided x e → Back (value_of Always x) (side_text (codes "always ") e)
back_always x e h s =
    let d = sides_back x e h.proper.1 h.ranged h.small h.semi_static s in
    record {
      line = record { keyword = Always; body = d.sides };
      bytes = ap (λ a. codes "always" ++ a) d.bytes;
      fine = record { proper = (refl, d.proper); ranged = d.ranged; small = d.small; semi_static = d.semi_static };
      same = ap₂ always d.larger d.smaller;
    }

back_never : (x : Sides) (e : Extra) → Fine (record { keyword = Never; body = x }) → Sided x e → Back (value_of Never x) (side_text (codes "never ") e)
back_never x e h s =
    let d = sides_back x e h.proper.1 h.ranged h.small h.semi_static s in
    record {
      line = record { keyword = Never; body = d.sides };
      bytes = ap (λ a. codes "never" ++ a) d.bytes;
      fine = record { proper = (refl, d.proper); ranged = d.ranged; small = d.small; semi_static = d.semi_static };
      same = ap₂ never d.larger d.smaller;
    }

-- ---- conditions

record ClauseBack (c : Clause) (tree : Option Nodes) : Type 0 where
  clause : Clause
  bytes : condition_text tree ≡ clause_bytes clause
  proper : ProperClause clause
  ranged : clause_ranged clause ≡ true
  small : clause_small clause ≡ true
  same : condition clause ≡ condition c

clause_back : (c : Clause) (tree : Option Nodes) → ProperClause c → clause_ranged c ≡ true → clause_small c ≡ true → TreeOf c tree → ClauseBack c tree
clause_back always_true tree p r m h = record { clause = always_true; bytes = ap condition_text h; proper = tt; ranged = refl; small = refl; same = refl }
clause_back (in_set p) tree q r m h =
    let o = and_parts (leb (operands (meaning p)) measures.condition_operands) (leb (levels p) deepest) m in
    let d = leb-true (levels p) deepest o.1 in
    let f = fewer p r in
    record {
      clause = in_set (as_set (meaning p));
      bytes = ap condition_text h.1 ∙ sym (text_is h.0 (meaning p) h.2);
      proper = (short p r, ap roles_alone (says p r) ∙ q.1);
      ranged = in_range_lem p r;
      small = and_from _ _ (ap (λ n. leb n measures.condition_operands) (as_many p r) ∙ o.0) (le-leb (levels (as_set (meaning p))) deepest (omega arith));
      same = ap as_condition (says p r);
    }

back_assign : (x : Assigning) (n : ℕ) (targets : RoleSet) (e : Extra) → Fine (record { keyword = Assign; body = x }) → n ≡ x.row.subject → NamesRoles (roles_in x.row) targets e → Conditioned x.clause e → Back (value_of Assign x) (assign_text n targets e)
back_assign x n targets e h q l d =
    let p = and_parts (ltb x.row.subject measures.roles) (clause_ranged x.clause && all_below measures.roles (roles_in x.row)) h.ranged in
    let r = and_parts (clause_ranged x.clause) (all_below measures.roles (roles_in x.row)) p.1 in
    let s = sorted (roles_of targets) measures.roles x.row.first x.row.more (omega arith) l.set r.1 in
    let c = clause_back x.clause e.condition h.proper.1.2 r.0 h.small d in
    let y : Assigning = record { row = record { subject = x.row.subject; first = s.first; more = s.more }; clause = c.clause } in
    record {
      line = record { keyword = Assign; body = y };
      bytes = ap (λ m. assign_text m targets e) q ∙ ap₂ (λ a ns. codes "assign r" ++ (decimal x.row.subject ++ (codes " : " ++ (a ++ (codes " :" ++ entry_bytes 114 ns))))) c.bytes s.is;
      fine = record { proper = (refl, (h.proper.1.0, s.short, c.proper)); ranged = and_from _ _ p.0 (and_from _ _ c.ranged s.below); small = c.small; semi_static = refl };
      same = ap₂ (assign x.row.subject) c.same s.same;
    }

-- ---- every kind

back : (k : Keyword) (b : (bodies k).Form) (c : Change) (e : Extra) → Fine (record { keyword = k; body = b }) → Fits k b → Means k b c e → Back (value_of k b) (S.canonical c e)
back k b c e h f (says_ua {x = x} {user = u} {roles = r} q l) = back_ua x u.number r e h q l
back k b c e h f (says_pa {x = x} {permission = u} {roles = r} q l) = back_pa x u.number r e h q l
back k b c e h f (says_rh {x = x} {senior = u} {juniors = r} q l) = back_rh x u.number r e h q l
back k b c e h f (says_trust {x = x} t) = back_trust x e h f t
back k b c e h f (says_assign {x = x} {admin = u} {targets = r} q l d) = back_assign x u.number r e h q l d
back k b c e h f (says_revoke {x = x} {admin = u} {targets = r} q l) = back_revoke x u.number r e h q l
back k b c e h f (says_always {x = x} s) = back_always x e h s
back k b c e h f (says_never {x = x} s) = back_never x e h s

pub round_trip : RoundTrip
round_trip x c e h f m = back x.keyword x.body c e h f m

-- the trees that a line uses are sets
trees_are : (k : Keyword) (b : (bodies k).Form) (c : Change) (e : Extra) → Means k b c e → S.Trees c e
trees_are k b c e (says_ua q l) = tt
trees_are k b c e (says_pa q l) = tt
trees_are k b c e (says_rh q l) = tt
trees_are k b c e (says_trust t) = tt
trees_are k b c e (says_assign {x = x} q l d) = condition_tree x.clause e d
  where
    condition_tree : (clause : Clause) (f : Extra) → Conditioned clause f → S.AssignTrees f
    condition_tree always_true f h ns n = no_some ns (sym h ∙ n)
    condition_tree (in_set p) f h ns n = (meaning p, ap (λ (k : Nodes). nodes_in k) (some_is _ _ (sym n ∙ h.1)) ∙ h.2)
trees_are k b c e (says_revoke q l) = tt
trees_are k b c e (says_always {x = x} s) = ((meaning x.larger, s.left), (meaning x.smaller, s.right))
trees_are k b c e (says_never {x = x} s) = ((meaning x.larger, s.left), (meaning x.smaller, s.right))

pub trees_of : (x : Sentence) (c : Change) (e : Extra) → Means x.keyword x.body c e → S.Trees c e
trees_of x c e m = trees_are x.keyword x.body c e m

-- what such a text is read as
pub read_back : (v : Value) (s a : List ℕ) → s ≡ a → Back v a → (r : Result Change Ground) (e : Extra) → Line s r e → ReadBack v (Some r) e
read_back v s a q b (Ok c) e (n, t) = (b.line, t.every b.line (q ∙ b.bytes, b.fine.proper), b.same)
read_back v s a q b (Err g) e (r, n, f) = never g (f b.line (q ∙ b.bytes, b.fine.proper))
  where
    never : (d : Ground) → Fails lines b.line d → ⊥
    never Syntax h = h
    never Range h = clash (sym h ∙ b.fine.ranged)
    never Measure h = clash (sym h ∙ b.fine.small)
    never NotSemiStatic h = clash (sym h ∙ b.fine.semi_static)

take_front : (a b : List ℕ) → take (length a) (a ++ b) ≡ a
take_front [] b = refl
take_front (x ∷ a) b = ap (λ y. x ∷ y) (take_front a b)

-- the text that was put at the front of the place
pub front_is : (a b ys : List ℕ) (n : ℕ) → n ≡ length a → ys ≡ a ++ b → take (n - 0) ys ≡ a
front_is a b ys n e q = let z : n - 0 ≡ length a = omega arith in ap (λ k. take k ys) z ∙ ap (take (length a)) q ∙ take_front a b
