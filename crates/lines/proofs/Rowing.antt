-- Rows: read exactly, and refused by the smallest number.
use Rattle.std.proofs.Common.{◌≡◌, ℕ, ◌<◌, ◌≤◌, Bool, true, false, ◌&&◌, ltb, List, [], ◌∷◌, ◌++◌, Some, None, Ok, Option, MatchOption, decimal, sym, refl, ap, ◌∙◌, subst, ap₂, arith}
use borrow.Author.Tests.{clash}
use Rattle.std.proofs.lemmas.Bool.{lt-ltb, le-ltb}
use Rattle.std.specs.Option.{is_some}
use Rattle.meaning.specs.Measures as measures
use Rattle.grammar.specs.Text.{begins_digit, got, none, Takes}
use Rattle.grammar.specs.declared.grounds.Ground.TheVariants.{Syntax, Range}
use Rattle.rbac.specs.declared.roles.Role.{Role}
use Rattle.rbac.specs.declared.permissions.Permission.{Permission}
use Rattle.lines.specs.declared.parts.Names.{Names}
use Rattle.lines.specs.declared.change.Extra.{Extra}
use Rattle.lines.specs.Entries.{entry_at, entry_bytes}
use Rattle.lines.specs.Lists.{Noted, Listed, Users, in_range}
use Rattle.lines.specs.Languages.{Says, Least}
use Rattle.lines.specs.Bodies as B
use Rattle.lines.specs.Bodies.{roles_in, users_in, trusts, RoleListing, role_listings}
use Rattle.lines.specs.Readings.{RowRead, TrustRead}
use Rattle.lines.proofs.Entering.{entry_written, entry_read}
use Rattle.lines.proofs.Naming.{no_and, noted_fits}
use Rattle.lines.proofs.Judging.{Weighed, syntax_least, verdict, told}

pub no_some : {A : Type 0} {B : Type 0} (x : A) → None ≡ Some x → B
no_some x e = let z : ◌≡◌ {A = ℕ} 0 1 = cc in absurd (omega arith)

pub some_is : {A : Type 0} (x y : A) → Some x ≡ Some y → x ≡ y
some_is x y e = cc

pub none_got : {A : Type 0} (n : ℕ) (x : List ℕ) → none ≡ got n x → A
none_got n x e = let z : ◌≡◌ {A = ℕ} 0 1 = cc in absurd (omega arith)

pub got_is : (m n : ℕ) (x y : List ℕ) → got m x ≡ got n y → (m ≡ n) × (x ≡ y)
got_is m n x y e = (cc, cc)

-- what follows the number is no digit
middle : (between : List ℕ) (n : ℕ) (ns : List ℕ) → begins_digit between ≡ false → begins_digit (between ++ entry_bytes 114 (n ∷ ns)) ≡ false
middle [] n ns e = refl
middle (b ∷ bs) n ns e = e

module _ (letter limit : ℕ) (between s : List ℕ) (ok : begins_digit between ≡ false) where
  -- the number of a row that the text is
  row_number : (x : RoleListing) → Says (role_listings letter limit between) s x → entry_at letter s ≡ got x.subject (between ++ entry_bytes 114 (roles_in x))
  row_number x w = ap (entry_at letter) w.0 ∙ entry_written letter x.subject (between ++ entry_bytes 114 (roles_in x)) w.1.0 (middle between x.first x.more ok)

  pub row_no_number : entry_at letter s ≡ none → Least (role_listings letter limit between) s Syntax
  row_no_number e = syntax_least (role_listings letter limit between) s (λ x w. none_got _ _ (sym e ∙ row_number x w))

  module _ (n : ℕ) (s1 : List ℕ) (e : entry_at letter s ≡ got n s1) where
    parts : (x : RoleListing) → Says (role_listings letter limit between) s x → (n ≡ x.subject) × (s1 ≡ between ++ entry_bytes 114 (roles_in x))
    parts x w = got_is _ _ _ _ (sym e ∙ row_number x w)

    pub row_no_middle : (s2 : List ℕ) → Takes between s1 false s2 → Least (role_listings letter limit between) s Syntax
    row_no_middle s2 t = syntax_least (role_listings letter limit between) s (λ x w. clash (t.found (entry_bytes 114 (roles_in x)) (parts x w).1).0)

    module _ (s2 : List ℕ) (t : Takes between s1 true s2) where
      pub row_no_roles : Listed 114 Noted s2 None → Least (role_listings letter limit between) s Syntax
      row_no_roles l = syntax_least (role_listings letter limit between) s (λ x w.
          let h = l.found x.first x.more (t.found (entry_bytes 114 (roles_in x)) (parts x w).1).1 w.1.1 in
          no_some h.0 h.1)

      module _ (o : Option Names) (l : Listed 114 Noted s2 (Some o)) where
        every : (x : RoleListing) → Says (role_listings letter limit between) s x → Noted o (roles_in x)
        every x w =
            let h = l.found x.first x.more (t.found (entry_bytes 114 (roles_in x)) (parts x w).1).1 w.1.1 in
            subst (λ u. Noted u (roles_in x)) (sym (some_is _ _ h.1)) h.2

        some : (x : RoleListing) × Says (role_listings letter limit between) s x
        some =
            let h = l.real o refl in
            let r = entry_read letter s s1 n e in
            (record { subject = n; first = h.0; more = h.1 }, (r.0 ∙ ap (λ y. 32 ∷ letter ∷ (decimal n ++ y)) (t.real refl ∙ ap (λ y. between ++ y) h.2), (r.1, h.3)))

        weighed : (a : Bool) → (ltb n limit && is_some o) ≡ a → Weighed (role_listings letter limit between) s a true true
        weighed a q = record {
          some = some;
          ranged = λ x w. ap₂ ◌&&◌ (ap (λ n. ltb n limit) (sym (parts x w).0)) (sym (noted_fits o (roles_in x) (every x w))) ∙ q;
          small = λ x w. refl;
          semi_static = λ x w. refl;
        }

        pub row_range_number : limit ≤ n → Least (role_listings letter limit between) s Range
        row_range_number le = verdict (role_listings letter limit between) s false true true (weighed false (ap (λ b. b && is_some o) (le-ltb n limit le)))

      pub row_range_roles : Listed 114 Noted s2 (Some None) → Least (role_listings letter limit between) s Range
      row_range_roles l = verdict (role_listings letter limit between) s false true true (weighed None l false (no_and (ltb n limit)))

      pub row_read : (v : Names) → Listed 114 Noted s2 (Some (Some v)) → {N : Type 0} (of : N → ℕ) (m : N) → (of m ≡ n) × (n < limit) → RowRead letter limit between s of (Ok (record { subject = m; names = v }))
      row_read v l of m k = (
        verdict (role_listings letter limit between) s true true true (weighed (Some v) l true (ap (λ b. b && true) (lt-ltb n limit k.1))),
        told (role_listings letter limit between) s (some (Some v) l) (λ x w. record { subject_is = k.0 ∙ (parts x w).0; names = (every (Some v) l x w).1 }),
      )

-- a role and a permission are of a number below their limit
pub makes_role : (k : ℕ) (o : Option Role) → MatchOption o (measures.roles ≤ k) (λ r. r.number ≡ k) → MatchOption o (measures.roles ≤ k) (λ r. (r.number ≡ k) × (k < measures.roles))
makes_role k None h = h
makes_role k (Some r) h = let s = r.small in (h, omega arith)

pub makes_permission : (k : ℕ) (o : Option Permission) → MatchOption o (measures.permissions ≤ k) (λ p. p.number ≡ k) → MatchOption o (measures.permissions ≤ k) (λ p. (p.number ≡ k) × (k < measures.permissions))
makes_permission k None h = h
makes_permission k (Some p) h = let s = p.small in (h, omega arith)

-- the answer to a list of users that all of the text is, each of them in range or not
pub trust_read : (e : Extra) (s : List ℕ) (good : Bool) → Listed 117 (Users e) s (Some good) → TrustRead s (in_range good) e
trust_read e s good h = answer good refl
  where
    every : (x : B.Users) → Says trusts s x → Users e good (users_in x)
    every x w = let f = h.found x.first x.more w.0 w.1 in subst (λ b. Users e b (users_in x)) (sym (some_is _ _ f.1)) f.2

    some : (x : B.Users) × Says trusts s x
    some = let f = h.real good refl in (record { first = f.0; more = f.1 }, (f.2, f.3))

    weighed : Weighed trusts s good true true
    weighed = record { some = some; ranged = λ x w. sym (every x w).fits; small = λ x w. refl; semi_static = λ x w. refl }

    answer : (b : Bool) → good ≡ b → TrustRead s (in_range b) e
    answer false q = verdict trusts s false true true (subst (λ b. Weighed trusts s b true true) q weighed)
    answer true q = (
      verdict trusts s true true true (subst (λ b. Weighed trusts s b true true) q weighed),
      told trusts s some (λ x w. let u = every x w in record { named = u.named q; many = u.many q; first = u.first q; twice = u.twice q }),
    )
