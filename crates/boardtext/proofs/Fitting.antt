-- The canonical text of an orderly book is no longer than a board text may be.
use Rattle.std.proofs.Common.{◌≡◌, ℕ, ◌+◌, ◌*◌, ◌<◌, ◌≤◌, max, true, ◌&&◌, ltb, leb, List, [], ◌∷◌, ◌++◌, length, codes, decimal, ap, subst, ⊎_elim, arith, length-append, ltb-true, leb-true}
use Rattle.std.proofs.lemmas.Bool.{and_parts}
use Rattle.meaning.specs.Measures as measures
use Rattle.texts.specs.Lengths.{longest_text}
use Rattle.meaning.specs.Rules.{AssignRule, RevokeRule, aatu, aar, Regime as RegimeMeant}
use Rattle.meaning.specs.Requirements.{Requirement, always, never}
use Rattle.meaning.specs.Lists.{listed}
use Rattle.grammar.specs.Phrase.{render, meaning, levels, operands, in_range}
use Rattle.lines.specs.Entries.{all_below, entry_bytes}
use Rattle.lines.specs.Bodies.{deepest, roles_in, Clause, always_true, in_set, ProperClause, clause_ranged, clause_small, condition, Sides, sides, question_of}
use Rattle.texts.specs.Board.{mark_line}
use Rattle.pen.specs.Ascending.{ascending}
use Rattle.pen.specs.Canon.{as_set}
use Rattle.saving.proofs.Ascends.{asc_below}
use Rattle.book.specs.Book.{Book, requires}
use Rattle.book.specs.Orderly.{Orderly, Said}
use Rattle.book.specs.Says.{assign_rule, revoke_rule}
use Rattle.boardtext.specs.Canonical.{each, row_lines, trust_line, condition_text, assign_text, revoke_text, question_text, requirement_text, regime_text, canonical_board}
use Rattle.boardtext.proofs.Listing.{passes, not_twice, apart, all_trusted}
use Rattle.boardtext.proofs.Sized.{two_digits, five_digits, long_entries, full_row, roles_size, any_size}
use Rattle.boardtext.proofs.Saying.{text_is, rule_form, revoke_said, requirement_said}
use Rattle.boardtext.proofs.Counted.{has, lines_size, few_pass, few_users, edges_size, each_size}
use Rattle.book.proofs.Sayings.{RuleSaid, RevokeSaid}

-- ---- rules and requirements

condition_size : (c : Clause) → ProperClause c → clause_ranged c ≡ true → clause_small c ≡ true → length (condition_text (condition c)) ≤ 96
condition_size always_true p r m = omega arith
condition_size (in_set p) q r m =
    let o = and_parts (leb (operands (meaning p)) measures.condition_operands) (leb (levels p) deepest) m in
    let few = leb-true (operands (meaning p)) measures.condition_operands o.0 in
    let s = roles_size (meaning p) r q.1 in
    let e = ap length (text_is (meaning p) q.1) in
    omega (arith, few, s, e)

assign_length : (n : ℕ) (c es : List ℕ) → length (codes "assign r" ++ (decimal n ++ (codes " : " ++ (c ++ (codes " :" ++ es))))) ≡ 13 + (length (decimal n) + (length c + length es))
assign_length n c es =
    let a : length (decimal n ++ (codes " : " ++ (c ++ (codes " :" ++ es)))) ≡ length (decimal n) + length (codes " : " ++ (c ++ (codes " :" ++ es))) = length-append (decimal n) (codes " : " ++ (c ++ (codes " :" ++ es))) in
    let b : length (c ++ (codes " :" ++ es)) ≡ length c + length (codes " :" ++ es) = length-append c (codes " :" ++ es) in
    omega (arith, a, b)

assign_size : (rule : AssignRule) → RuleSaid rule → length (assign_text rule) + 1 ≤ 358
assign_size rule s =
    let f = rule_form rule s in
    let x = f.form in
    let p = and_parts (ltb x.row.subject measures.roles) (clause_ranged x.clause && all_below measures.roles (roles_in x.row)) f.ranged in
    let r = and_parts (clause_ranged x.clause) (all_below measures.roles (roles_in x.row)) p.1 in
    let small = ltb-true x.row.subject measures.roles p.0 in
    let d = two_digits x.row.subject (omega (arith, small)) in
    let c = condition_size x.clause f.proper.2 r.0 f.small in
    let e = full_row 114 (listed (roles_in x.row)) in
    let l = assign_length x.row.subject (condition_text (condition x.clause)) (entry_bytes 114 (ascending (listed (roles_in x.row)) measures.roles)) in
    let whole : length (assign_text (assign_rule x)) + 1 ≤ 358 = omega (arith, d, c, e, l) in
    subst (λ (z : AssignRule). length (assign_text z) + 1 ≤ 358) f.is whole

revoke_size : (rule : RevokeRule) → RevokeSaid rule → length (revoke_text rule) + 1 ≤ 259
revoke_size rule s =
    let f = revoke_said rule s in
    let x = f.form in
    let p = and_parts (ltb x.subject measures.roles) (all_below measures.roles (roles_in x)) f.ranged in
    let small = ltb-true x.subject measures.roles p.0 in
    let d = two_digits x.subject (omega (arith, small)) in
    let e = full_row 114 (listed (roles_in x)) in
    let es = entry_bytes 114 (ascending (listed (roles_in x)) measures.roles) in
    let a : length (decimal x.subject ++ (codes " :" ++ es)) ≡ length (decimal x.subject) + length (codes " :" ++ es) = length-append (decimal x.subject) (codes " :" ++ es) in
    let whole : length (revoke_text (revoke_rule x)) + 1 ≤ 259 = omega (arith, d, e, a) in
    subst (λ (z : RevokeRule). length (revoke_text z) + 1 ≤ 259) f.is whole

question_size : (x : Sides) → sides.ranged x ≡ true → sides.small x ≡ true → length (question_text (question_of x)) ≤ 356
question_size x ra sm =
    let p = and_parts (in_range (meaning x.larger)) (in_range (meaning x.smaller)) ra in
    let q = and_parts (leb (operands (meaning x.larger) + operands (meaning x.smaller)) measures.question_operands) (leb (max (levels x.larger) (levels x.smaller)) deepest) sm in
    let o : operands (meaning x.larger) + operands (meaning x.smaller) ≤ measures.question_operands = leb-true _ _ q.0 in
    let l = any_size (meaning x.larger) p.0 in
    let s = any_size (meaning x.smaller) p.1 in
    let right = render (as_set (meaning x.smaller)) in
    let a : length (question_text (question_of x)) ≡ length (render (as_set (meaning x.larger))) + length (codes " >= " ++ right) = length-append (render (as_set (meaning x.larger))) (codes " >= " ++ right) in
    omega (arith, o, l, s, a)

requirement_size : (d : Requirement) → Said (requires d) → length (requirement_text d) + 1 ≤ 364
requirement_size d s =
    let f = requirement_said d s in
    let q = question_size f.form f.ranged f.small in
    ⊎_elim
    (λ (e : always (question_of f.form) ≡ d). subst (λ (z : Requirement). length (requirement_text z) + 1 ≤ 364) e (omega (arith, q)))
    (λ (e : never (question_of f.form) ≡ d). subst (λ (z : Requirement). length (requirement_text z) + 1 ≤ 364) e (omega (arith, q)))
    f.is

-- ---- the whole board

trust_size : (us : List ℕ) → all_below measures.users us ≡ true → length us ≤ measures.trusted_users → length (trust_line us) ≤ 230
trust_size [] h l = omega arith
trust_size (u ∷ us) h l =
    let e = long_entries 117 (u ∷ us) h in
    let a : length ((codes "trust" ++ entry_bytes 117 (u ∷ us)) ++ 10 ∷ []) ≡ length (codes "trust" ++ entry_bytes 117 (u ∷ us)) + 1 = length-append (codes "trust" ++ entry_bytes 117 (u ∷ us)) (10 ∷ []) in
    omega (arith, e, a, l)

regime_size : (g : RegimeMeant) → length (regime_text g) ≤ 12
regime_size aatu = omega arith
regime_size aar = omega arith

module _ (b : Book) (o : Orderly b) where
  few_trusted : length (ascending b.policy.trusted measures.users) ≤ measures.trusted_users
  few_trusted =
      o.few_trusted (ascending b.policy.trusted measures.users) (apart (ascending b.policy.trusted measures.users) (not_twice b.policy.trusted measures.users))
      (all_trusted b.policy (ascending b.policy.trusted measures.users) (λ u t. (passes b.policy.trusted measures.users u t).1))

  users_digits : (n : ℕ) → n < measures.users → length (codes "ua u") + length (decimal n) ≤ 9
  users_digits n l = let d = five_digits n (omega arith) in omega (arith, d)

  permissions_digits : (n : ℕ) → n < measures.permissions → length (codes "pa p") + length (decimal n) ≤ 9
  permissions_digits n l = let d = two_digits n (omega arith) in omega (arith, d)

  users_size : length (row_lines (codes "ua u") b.state measures.users) ≤ 256 * measures.rows
  users_size =
      let h = lines_size (codes "ua u") b.state measures.users users_digits measures.users (omega arith) in
      let f = few_users b o in
      omega (arith, h, f)

  permissions_size : length (row_lines (codes "pa p") b.policy.gives measures.permissions) ≤ 256 * measures.permissions
  permissions_size =
      let h = lines_size (codes "pa p") b.policy.gives measures.permissions permissions_digits measures.permissions (omega arith) in
      let f = few_pass (has b.policy.gives) measures.permissions in
      omega (arith, h, f)

  edges_fit : length (row_lines (codes "rh r") b.policy.edge measures.roles) ≤ 8512
  edges_fit = edges_size b.policy.edge o.no_circle (codes "rh r") (omega arith)

  trust_fits : length (trust_line (ascending b.policy.trusted measures.users)) ≤ 230
  trust_fits = trust_size (ascending b.policy.trusted measures.users) (asc_below b.policy.trusted measures.users measures.users (omega arith)) few_trusted

  assigns_fit : length (each assign_text b.policy.assigns) ≤ 358 * measures.assign_rules
  assigns_fit = let h = each_size 358 assign_text b.policy.assigns (λ k rule n. assign_size rule (o.assigns_said k rule n)) in let f = o.few_assigns in omega (arith, h, f)

  revokes_fit : length (each revoke_text b.policy.revokes) ≤ 259 * measures.revoke_rules
  revokes_fit = let h = each_size 259 revoke_text b.policy.revokes (λ k rule n. revoke_size rule (o.revokes_said k rule n)) in let f = o.few_revokes in omega (arith, h, f)

  requirements_fit : length (each requirement_text b.requirements) ≤ 364 * measures.requirements
  requirements_fit = let h = each_size 364 requirement_text b.requirements (λ k d n. requirement_size d (o.requirements_said k d n)) in let f = o.few_requirements in omega (arith, h, f)

  pub fits : length (canonical_board b) ≤ longest_text
  fits =
      joined (row_lines (codes "ua u") b.state measures.users) (row_lines (codes "pa p") b.policy.gives measures.permissions) (row_lines (codes "rh r") b.policy.edge measures.roles)
      (trust_line (ascending b.policy.trusted measures.users)) (each assign_text b.policy.assigns) (each revoke_text b.policy.revokes) (each requirement_text b.requirements)
      users_size permissions_size edges_fit trust_fits assigns_fit revokes_fit requirements_fit
    where
      joined : (u p e t a r d : List ℕ) → length u ≤ 256 * measures.rows → length p ≤ 256 * measures.permissions → length e ≤ 8512 → length t ≤ 230 → length a ≤ 358 * measures.assign_rules → length r ≤ 259 * measures.revoke_rules → length d ≤ 364 * measures.requirements
          → length (mark_line ++ (regime_text b.policy.regime ++ (u ++ (p ++ (e ++ (t ++ (a ++ (r ++ d)))))))) ≤ longest_text
      joined u p e t a r d lu lp le lt la lr ld =
          let g = regime_size b.policy.regime in
          let h1 = length-append (regime_text b.policy.regime) (u ++ (p ++ (e ++ (t ++ (a ++ (r ++ d)))))) in
          let h2 = length-append u (p ++ (e ++ (t ++ (a ++ (r ++ d))))) in
          let h3 = length-append p (e ++ (t ++ (a ++ (r ++ d)))) in
          let h4 = length-append e (t ++ (a ++ (r ++ d))) in
          let h5 = length-append t (a ++ (r ++ d)) in
          let h6 = length-append a (r ++ d) in
          let h7 = length-append r d in
          omega (arith, g, h1, h2, h3, h4, h5, h6, h7, lu, lp, le, lt, la, lr, ld)
