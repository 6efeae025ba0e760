-- `assign` lines: measured exactly, and their conditions built where they are small.
use Rattle.std.proofs.Common.{◌≡◌, ℕ, ◌<◌, Bool, true, false, ◌&&◌, ltb, leb, List, ◌∷◌, ◌++◌, Some, None, Ok, codes, decimal, Option, Result, Bor, sym, refl, ap, ◌∙◌, subst, ap₂, append_assoc, arith, ltb-true, leb-true}
use borrow.Author.Tests.{clash}
use Rattle.std.proofs.lemmas.Bool.{and_parts}
use Rattle.std.specs.Option.{is_some}
use Rattle.meaning.specs.Measures as measures
use Rattle.lines.proofs.Naming.{noted_fits}
use Rattle.grammar.specs.declared.sizes.Size.{Size}
use Rattle.grammar.specs.declared.grounds.Ground.{Ground}
use Rattle.grammar.specs.declared.grounds.Ground.TheVariants.{Syntax}
use Rattle.grammar.specs.Text.{begins, got, none, Takes}
use Rattle.grammar.specs.Phrase.{Kind, set, Phrase, one, or, lone, and, a_role, a_permission, no_users, braces, parens, a_user, also, render, meaning, levels, operands, Written, Ends}
use Rattle.grammar.specs.Scan.{Scanned}
use Rattle.trees.specs.Reading.{Nodes, Built, Small}
use Rattle.lines.specs.declared.parts.Names.{Names}
use Rattle.rbac.specs.declared.roles.Role.{Role}
use Rattle.lines.specs.declared.change.Change.TheVariants as change
use Rattle.lines.specs.declared.keyword.Keyword.TheVariants.{Assign}
use Rattle.lines.specs.declared.parts.Assigned.{Assigned}
use Rattle.lines.specs.declared.change.Extra.{Extra}
use Rattle.lines.specs.Entries.{entry_at, entry_bytes}
use Rattle.lines.specs.Lists.{Noted, Listed}
use Rattle.lines.specs.Languages.{Says, Least}
use Rattle.lines.specs.Bodies.{deepest, roles_in, Clause, always_true, in_set, clause_bytes, ProperClause, clause_ranged, clause_small, Assigning, assigns}
use Rattle.lines.specs.Clauses.{size_in, sized, Clauses, Conditions, AssignedOf, Assigns, assigned_ground}
use Rattle.lines.proofs.Entering.{entry_written, entry_read}
use Rattle.lines.proofs.Judging.{Verdict, syntax_least, verdict_is, judged_fine, told}
use Rattle.lines.proofs.Rowing.{some_is, no_some, none_got, got_is}
use Rattle.lines.specs.Changes.{TreeOf, says_assign, Body}

-- ---- a condition

-- no set begins with t
not_t : {k : Kind} (p : Phrase k) (x : List ℕ) → begins 116 (render p ++ x) ≡ false
not_t (one t) x = not_t t x
not_t (or s t) x = ap (begins 116) (append_assoc (render s) (124 ∷ render t) x) ∙ not_t s (124 ∷ (render t ++ x))
not_t (lone f) x = not_t f x
not_t (and t f) x = ap (begins 116) (append_assoc (render t) (38 ∷ render f) x) ∙ not_t t (38 ∷ (render f ++ x))
not_t (a_role n) x = refl
not_t (a_permission n) x = refl
not_t no_users x = refl
not_t (braces us) x = refl
not_t (parens s) x = refl
not_t (a_user n) x = refl
not_t (also us n) x = ap (begins 116) (append_assoc (render us) (44 ∷ 117 ∷ decimal n) x) ∙ not_t us (44 ∷ 117 ∷ (decimal n ++ x))

module _ (s : List ℕ) where
  no_set : (s1 : List ℕ) → s ≡ codes "true" ++ s1 → (p : Phrase set) (x : List ℕ) → s ≡ render p ++ x → ⊥
  no_set s1 e p x f = clash (sym (not_t p x) ∙ sym (ap (begins 116) f) ∙ ap (begins 116) e)

  pub clause_true : (s1 : List ℕ) → Takes (codes "true") s true s1 → Clauses s (Some None) s1
  clause_true s1 t = record { found = found; real = λ m e. (always_true, t.real refl, tt, sym (some_is _ _ e)) }
    where
      found : (c : Clause) (x : List ℕ) → s ≡ clause_bytes c ++ x → ProperClause c → Ends x → (Some None ≡ Some (size_in c)) × (s1 ≡ x)
      found always_true x e p n = (refl, (t.found x e).1)
      found (in_set p) x e q n = absurd (no_set s1 (t.real refl) p x e)

  written : (p : Phrase set) (x : List ℕ) → s ≡ render p ++ x → ProperClause (in_set p) → Written s p x
  written p x e q = record { bytes = e; short = q.0 }

  module _ (s0 : List ℕ) (t : Takes (codes "true") s false s0) where
    pub clause_none : (s1 : List ℕ) → Scanned s None s1 → Clauses s None s1
    clause_none s1 k = record { found = found; real = λ m e. no_some m e }
      where
        found : (c : Clause) (x : List ℕ) → s ≡ clause_bytes c ++ x → ProperClause c → Ends x → (None ≡ Some (size_in c)) × (s1 ≡ x)
        found always_true x e p n = absurd (clash (t.found x e).0)
        found (in_set p) x e q n = no_some _ (k.found p x (written p x e q) n).0

    module _ (m : Size) (s1 : List ℕ) (k : Scanned s (Some m) s1) where
      pub clause_others : m.roles ≡ false → Clauses s None s1
      clause_others f = record { found = found; real = λ u e. no_some u e }
        where
          found : (c : Clause) (x : List ℕ) → s ≡ clause_bytes c ++ x → ProperClause c → Ends x → (None ≡ Some (size_in c)) × (s1 ≡ x)
          found always_true x e p n = absurd (clash (t.found x e).0)
          found (in_set p) x e q n = absurd (clash (sym f ∙ ap (λ (z : Size). z.roles) (some_is _ _ (k.found p x (written p x e q) n).0) ∙ q.1))

      pub clause_set : m.roles ≡ true → Clauses s (Some (Some m)) s1
      clause_set f = record { found = found; real = real }
        where
          found : (c : Clause) (x : List ℕ) → s ≡ clause_bytes c ++ x → ProperClause c → Ends x → (Some (Some m) ≡ Some (size_in c)) × (s1 ≡ x)
          found always_true x e p n = absurd (clash (t.found x e).0)
          found (in_set p) x e q n = let h = k.found p x (written p x e q) n in (ap Some h.0, h.1)

          real : (u : Option Size) → Some (Some m) ≡ Some u → (c : Clause) × (s ≡ clause_bytes c ++ s1) × (ProperClause c) × (u ≡ size_in c)
          real u e = let h = k.real m refl in (in_set h.0, h.1.bytes, (h.1.short, sym (ap (λ (z : Size). z.roles) h.2) ∙ f), sym (some_is _ _ e) ∙ ap Some h.2)

-- ---- building it

module _ (s : List ℕ) where
  small : (p : Phrase set) → clause_ranged (in_set p) ≡ true → clause_small (in_set p) ≡ true → Small deepest p
  small p r m =
      let q = and_parts (leb (operands (meaning p)) measures.condition_operands) (leb (levels p) deepest) m in
      let o = leb-true (operands (meaning p)) measures.condition_operands q.0 in
      record { range = r; deep = leb-true (levels p) deepest q.1; many = omega arith }

  pub condition_set : (size : Size) (left : Nodes) (s1 : List ℕ) → Built deepest s (Some left) s1 → Conditions s (Some size) (Some (Some left))
  condition_set size left s1 b always_true x q p n y r m = no_some _ (sym y)
  condition_set size left s1 b (in_set c) x q p n y r m = (Some left, refl, (left, refl, (b c x (record { bytes = q; short = p.0 }) n (small c r m)).0))

-- ---- the whole line

module _ (s : List ℕ) (x : Assigning) (w : Says assigns s x) where
  number_is : entry_at 114 s ≡ got x.row.subject (codes " : " ++ (clause_bytes x.clause ++ (codes " :" ++ entry_bytes 114 (roles_in x.row))))
  number_is = ap (entry_at 114) w.0 ∙ entry_written 114 x.row.subject _ w.1.0 refl

  clause_is : (n : ℕ) (s1 : List ℕ) → entry_at 114 s ≡ got n s1 → (r : Bool) (s2 : List ℕ) → Takes (codes " : ") s1 r s2 → (n ≡ x.row.subject) × (r ≡ true) × (s2 ≡ clause_bytes x.clause ++ (codes " :" ++ entry_bytes 114 (roles_in x.row)))
  clause_is n s1 e r s2 t =
      let g = got_is _ _ _ _ (sym e ∙ number_is) in
      let f = t.found (clause_bytes x.clause ++ (codes " :" ++ entry_bytes 114 (roles_in x.row))) g.1 in
      (g.0, f.0, f.1)

  size_is : (s2 : List ℕ) → s2 ≡ clause_bytes x.clause ++ (codes " :" ++ entry_bytes 114 (roles_in x.row)) → (r : Option (Option Size)) (s3 : List ℕ) → Clauses s2 r s3 → (r ≡ Some (size_in x.clause)) × (s3 ≡ codes " :" ++ entry_bytes 114 (roles_in x.row))
  size_is s2 e r s3 k = k.found x.clause (codes " :" ++ entry_bytes 114 (roles_in x.row)) e w.1.2 (record { no_and = refl; no_or = refl; no_digit = refl })

module _ (s : List ℕ) where
  none_assigned : ((x : Assigning) → Says assigns s x → ⊥) → Assigns s None
  none_assigned h = record { found = λ x w. absurd (h x w); real = λ v e. no_some v e }

  pub no_admin : entry_at 114 s ≡ none → Assigns s None
  no_admin e = none_assigned (λ x w. none_got _ _ (sym e ∙ number_is s x w))

  module _ (n : ℕ) (s1 : List ℕ) (a : entry_at 114 s ≡ got n s1) where
    pub no_colon : (s2 : List ℕ) → Takes (codes " : ") s1 false s2 → Assigns s None
    no_colon s2 b = none_assigned (λ x w. clash (clause_is s x w n s1 a false s2 b).1)

    module _ (s2 : List ℕ) (b : Takes (codes " : ") s1 true s2) where
      pub no_clause : (s3 : List ℕ) → Clauses s2 None s3 → Assigns s None
      no_clause s3 k = none_assigned (λ x w. no_some _ (size_is s x w s2 (clause_is s x w n s1 a true s2 b).2 None s3 k).0)

      module _ (m : Option Size) (s3 : List ℕ) (k : Clauses s2 (Some m) s3) where
        behind : (x : Assigning) → Says assigns s x → s3 ≡ codes " :" ++ entry_bytes 114 (roles_in x.row)
        behind x w = (size_is s x w s2 (clause_is s x w n s1 a true s2 b).2 (Some m) s3 k).1

        pub no_second : (s4 : List ℕ) → Takes (codes " :") s3 false s4 → Assigns s None
        no_second s4 d = none_assigned (λ x w. clash (d.found (entry_bytes 114 (roles_in x.row)) (behind x w)).0)

        module _ (s4 : List ℕ) (d : Takes (codes " :") s3 true s4) where
          list_is : (x : Assigning) → Says assigns s x → s4 ≡ entry_bytes 114 (roles_in x.row)
          list_is x w = (d.found (entry_bytes 114 (roles_in x.row)) (behind x w)).1

          pub no_targets : Listed 114 Noted s4 None → Assigns s None
          no_targets l = none_assigned (λ x w. let h = l.found x.row.first x.row.more (list_is x w) w.1.1 in no_some h.0 h.1)

          pub all_assigned : (v : Option Names) (b : Bor (List ℕ)) → b.now ≡ s2 → Listed 114 Noted s4 (Some v) → Assigns s (Some (record { admin = n; condition = b; size = m; names = v }))
          all_assigned v here q l = record {
            found = λ x w.
                let g = clause_is s x w n s1 a true s2 b in
                let h = l.found x.row.first x.row.more (list_is x w) w.1.1 in (
                  record { admin = n; condition = here; size = m; names = v },
                  refl,
                  record { admin = g.0; size = some_is _ _ (size_is s x w s2 g.2 (Some m) s3 k).0; names = subst (λ u. Noted u (roles_in x.row)) (sym (some_is _ _ h.1)) h.2; here = q ∙ g.2 },
                );
            real = λ u e.
                let r = entry_read 114 s s1 n a in
                let f = k.real m refl in
                let h = l.real v refl in
                let x : Assigning = record { row = record { subject = n; first = h.0; more = h.1 }; clause = f.0 } in
                let end : s2 ≡ clause_bytes f.0 ++ (codes " :" ++ entry_bytes 114 (h.0 ∷ h.1)) = f.1 ∙ ap (λ y. clause_bytes f.0 ++ y) (d.real refl ∙ ap (λ y. codes " :" ++ y) h.2) in
                subst (λ z. (y : Assigning) × (Says assigns s y) × AssignedOf z y) (some_is _ _ e) (
                  x,
                  (r.0 ∙ ap (λ y. 32 ∷ 114 ∷ (decimal n ++ y)) (b.real refl ∙ ap (λ y. codes " : " ++ y) end), (r.1, h.3, f.2)),
                  record { admin = refl; size = f.3; names = h.4; here = q ∙ end },
                );
          }

-- ---- the answer

pub assign_syntax : (s : List ℕ) → Assigns s None → Least assigns s Syntax
assign_syntax s h = syntax_least assigns s (λ x w. let f = h.found x w in no_some f.0 f.1)

size_ranged : (c : Clause) → (sized (size_in c)).fits ≡ clause_ranged c
size_ranged always_true = refl
size_ranged (in_set p) = refl

size_small : (c : Clause) → (leb (sized (size_in c)).operands measures.condition_operands && leb (sized (size_in c)).levels deepest) ≡ clause_small c
size_small always_true = refl
size_small (in_set p) = refl

module _ (s : List ℕ) (m : Assigned) (h : Assigns s (Some m)) where
  every : (x : Assigning) → Says assigns s x → AssignedOf m x
  every x w = let f = h.found x w in subst (λ v. AssignedOf v x) (sym (some_is _ _ f.1)) f.2

  some : (x : Assigning) × Says assigns s x
  some = let f = h.real m refl in (f.0, f.1)

  ranged : (x : Assigning) → Says assigns s x → assigns.ranged x ≡ (ltb m.admin measures.roles && ((sized m.size).fits && is_some m.names))
  ranged x w =
      let o = every x w in
      ap₂ ◌&&◌ (ap (λ n. ltb n measures.roles) (sym o.admin)) (ap₂ ◌&&◌ (sym (size_ranged x.clause) ∙ ap (λ z. (sized z).fits) (sym o.size)) (sym (noted_fits m.names (roles_in x.row) o.names)))

  small_is : (x : Assigning) → Says assigns s x → clause_small x.clause ≡ (leb (sized m.size).operands measures.condition_operands && leb (sized m.size).levels deepest)
  small_is x w = sym (size_small x.clause) ∙ ap (λ z. leb (sized z).operands measures.condition_operands && leb (sized z).levels deepest) (sym (every x w).size)

  pub assign_verdict : (r : Result (Unit {0}) Ground) → r ≡ assigned_ground m → Verdict assigns s r
  assign_verdict r e = verdict_is assigns s _ _ _ r e (record { some = some; ranged = ranged; small = small_is; semi_static = λ x w. refl })

  module _ (n : Ok tt ≡ assigned_ground m) where
    parts : (ltb m.admin measures.roles ≡ true) × (((sized m.size).fits && is_some m.names) ≡ true)
    parts = and_parts (ltb m.admin measures.roles) ((sized m.size).fits && is_some m.names) (judged_fine _ _ true n).0

    pub admin_small : m.admin < measures.roles
    admin_small = ltb-true m.admin measures.roles parts.0

    pub names_fit : is_some m.names ≡ true
    names_fit = (and_parts (sized m.size).fits (is_some m.names) parts.1).1

    conditioned : (r : Option (Option Nodes)) → Conditions m.condition.now m.size r → (x : Assigning) → Says assigns s x → (tree : Option Nodes) × (r ≡ Some tree) × TreeOf x.clause tree
    conditioned r b x w =
        let o = every x w in
        b x.clause (codes " :" ++ entry_bytes 114 (roles_in x.row)) o.here w.1.2 (record { no_and = refl; no_or = refl; no_digit = refl }) o.size
        (sym (size_ranged x.clause) ∙ ap (λ z. (sized z).fits) (sym o.size) ∙ (and_parts (sized m.size).fits (is_some m.names) parts.1).0)
        (small_is x w ∙ (judged_fine _ _ true n).1)

    -- what is small is built
    pub assign_built : {A : Type 0} → Conditions m.condition.now m.size None → A
    assign_built b = let c = conditioned None b some.0 some.1 in no_some _ c.1

    pub assign_told : (v : Names) → m.names ≡ Some v → (tree : Option Nodes) → Conditions m.condition.now m.size (Some tree) → (e : Extra) → e.condition ≡ tree → e.twice ≡ v.twice → (admin : Role) → admin.number ≡ m.admin →
        Body Assign s (Ok (change.Assign admin v.roles)) e
    assign_told v i tree b e t q admin a = (
      assign_verdict (Ok tt) n,
      told assigns s some (λ x w.
          let o = every x w in
          let l = subst (λ u. Noted u (roles_in x.row)) i o.names in
          let c = conditioned (Some tree) b x w in
          says_assign (a ∙ o.admin) (record { set = l.1.set; twice = q ∙ l.1.twice }) (subst (TreeOf x.clause) (sym (some_is _ _ c.1) ∙ sym t) c.2)),
    )
