-- The lines of who is assigned what, of what is given to whom, and of who is senior to whom.
use Rattle.std.proofs.Common.{◌≡◌, ℕ, ◌<◌, Bool, true, false, ◌&&◌, T, eqb, ltb, List, [], ◌∷◌, ◌++◌, codes, decimal, sym, refl, ap, ◌∙◌, subst, ⊎_elim, arith, eqb→eq}
use mathlib.Core.Path.{subst⁻¹}
use Rattle.std.proofs.lemmas.Bool.{lt-ltb, and_from}
use Rattle.grammar.specs.Text.{number_limit}
use Rattle.meaning.specs.Measures as measures
use Rattle.meaning.specs.Membership.{User, Role, Permission, State, Edges, Senior, same, above}
use Rattle.meaning.specs.Rules.{AssignRule, RevokeRule, Regime as RegimeMeant}
use Rattle.meaning.specs.Requirements.{Requirement}
use Rattle.meaning.specs.Rows.{Holders, FreeRow}
use Rattle.meaning.specs.Lists.{listed}
use Rattle.meaning.proofs.Tests.{either, first, second, deny}
use Rattle.lines.specs.Entries.{AllShort, all_below, repeats, entry_bytes}
use Rattle.lines.specs.declared.keyword.Keyword.TheVariants.{Ua, Pa, Rh}
use Rattle.texts.specs.declared.faults.Way.TheVariants.{Add}
use Rattle.pen.specs.Ascending.{ascending}
use Rattle.saving.proofs.Ascends.{asc_short, asc_below}
use Rattle.book.specs.Book.{Book, pairs, gifts, edges, blank, plus}
use Rattle.book.specs.Orderly.{Orderly}
use Rattle.book.specs.Refusals.{entered, NoneApplies}
use Rattle.book.specs.Calls.{Feeds}
use Rattle.book.proofs.Ladder.{pass}
use Rattle.book.proofs.Ladder.{end as nothing_left}
use Rattle.boardtext.specs.Canonical.{row_lines}
use Rattle.boardtext.proofs.Listing.{passes, not_twice, some_of, holder_of, head}
use Rattle.boardtext.proofs.Putting.{Writes}
use Rattle.boardtext.proofs.Rowed.{Relation, below, nothing, part, all_rows}
use Rattle.book.specs.Grounds.{AnyListed}
use Rattle.lines.specs.Bodies.{role_listings}

-- a book from its parts
abbrev pub made : RegimeMeant → State → (Permission → Role → Bool) → Edges → (User → Bool) → List AssignRule → List RevokeRule → List Requirement → Book
made g s gives edge trusted assigns revokes ds = record {
  policy = record { regime = g; edge = edge; gives = gives; trusted = trusted; assigns = assigns; revokes = revokes };
  state = s;
  requirements = ds;
}

abbrev pub nobody : User → Bool
nobody u = false

-- ---- a line

module _ (f : ℕ → Bool) (r : ℕ) (rs : List ℕ) (e : ascending f measures.roles ≡ r ∷ rs) where
  pub row_proper : (letter limit : ℕ) (between : List ℕ) (n : ℕ) → n < number_limit → (role_listings letter limit between).proper (record { subject = n; first = r; more = rs })
  row_proper letter limit between n l = (l, subst AllShort e (asc_short f measures.roles (omega arith)))

  pub row_ranged : (letter limit : ℕ) (between : List ℕ) (n : ℕ) → n < limit → (role_listings letter limit between).ranged (record { subject = n; first = r; more = rs }) ≡ true
  row_ranged letter limit between n l = and_from (ltb n limit) (all_below measures.roles (r ∷ rs)) (lt-ltb n limit l) (ap (all_below measures.roles) (sym e) ∙ asc_below f measures.roles measures.roles (omega arith))

  pub once : T (repeats (r ∷ rs)) → ⊥
  once t = subst (λ (b : Bool). T b) (ap repeats (sym e) ∙ not_twice f measures.roles) t

  pub member : (q : ℕ) → T (listed (r ∷ rs) q) → T (f q)
  member q t = (passes f measures.roles q (subst⁻¹ (λ (ns : List ℕ). T (listed ns q)) e t)).1

-- nothing of a number is there as long as only lower numbers are
not_there : (f : Relation) (n : ℕ) (rs : List ℕ) → AnyListed (λ r. T (below f n n r)) rs → ⊥
not_there f n rs h = let (r, t, p) = some_of (λ r. T (below f n n r)) rs h in let l = (part f n n r p).0 in omega arith

module _ (b : Book) (o : Orderly b) where
  -- ---- assignments

  abbrev pub assigned : State → Book
  assigned s = made b.policy.regime s nothing nothing nobody [] [] []

  module _ (n r : ℕ) (rs : List ℕ) (l : n < measures.users) (e : ascending (b.state n) measures.roles ≡ r ∷ rs) where
    ua_written : Writes (pairs n (r ∷ rs)) (codes "ua u" ++ (decimal n ++ entry_bytes 114 (r ∷ rs)))
    ua_written = record {
      line = record { keyword = Ua; body = record { subject = n; first = r; more = rs } };
      fine = record { proper = (refl, row_proper (b.state n) r rs e 117 measures.users [] n (omega arith)); ranged = row_ranged (b.state n) r rs e 117 measures.users [] n l; small = refl; semi_static = refl };
      bytes = refl;
      names = refl;
    }

    -- with one user more there are still few
    free_row : FreeRow (below b.state n)
    free_row us a h =
        let held : Holders b.state us = whole us h in
        let new : T (listed us n) → ⊥ = λ t. (let (q, p) = holder_of (below b.state n) us h n t in let k = (part b.state n n q p).0 in omega arith) in
        let k = o.few_rows (n ∷ us) (deny (listed us n) new, a) ((r, member (b.state n) r rs e r (head r rs)), held) in
        omega arith
      where
        whole : (vs : List User) → Holders (below b.state n) vs → Holders b.state vs
        whole [] h = tt
        whole (v ∷ vs) ((q, t), h) = ((q, (part b.state n v q t).1), whole vs h)

    ua_free : NoneApplies (entered Add (assigned (below b.state n)) (pairs n (r ∷ rs)))
    ua_free =
        pass (λ h. h)
        (pass (λ h. ⊎_elim (λ t. not_there b.state n (r ∷ rs) t) (λ t. once (b.state n) r rs e t) h)
        (pass (λ h. h.full free_row) (pass (λ h. h) nothing_left)))

  pub all_assigned : Feeds (blank b.policy.regime) (row_lines (codes "ua u") b.state measures.users) (assigned b.state)
  all_assigned = all_rows (codes "ua u") measures.users b.state pairs assigned (record { inside = o.assigned_inside; written = ua_written; puts = λ g n rs. refl; free = ua_free })

  -- ---- permissions

  abbrev pub given : (Permission → Role → Bool) → Book
  given g = made b.policy.regime b.state g nothing nobody [] [] []

  module _ (n r : ℕ) (rs : List ℕ) (l : n < measures.permissions) (e : ascending (b.policy.gives n) measures.roles ≡ r ∷ rs) where
    pa_written : Writes (gifts n (r ∷ rs)) (codes "pa p" ++ (decimal n ++ entry_bytes 114 (r ∷ rs)))
    pa_written = record {
      line = record { keyword = Pa; body = record { subject = n; first = r; more = rs } };
      fine = record { proper = (refl, row_proper (b.policy.gives n) r rs e 112 measures.permissions [] n (omega arith)); ranged = row_ranged (b.policy.gives n) r rs e 112 measures.permissions [] n l; small = refl; semi_static = refl };
      bytes = refl;
      names = refl;
    }

    pa_free : NoneApplies (entered Add (given (below b.policy.gives n)) (gifts n (r ∷ rs)))
    pa_free =
        pass (λ h. h)
        (pass (λ h. ⊎_elim (λ t. not_there b.policy.gives n (r ∷ rs) t) (λ t. once (b.policy.gives n) r rs e t) h) (pass (λ h. h) (pass (λ h. h) nothing_left)))

  pub all_given : Feeds (assigned b.state) (row_lines (codes "pa p") b.policy.gives measures.permissions) (given b.policy.gives)
  all_given = all_rows (codes "pa p") measures.permissions b.policy.gives gifts given (record { inside = o.given_inside; written = pa_written; puts = λ g n rs. refl; free = pa_free })

  -- ---- seniority

  abbrev pub ordered : Edges → Book
  ordered edge = made b.policy.regime b.state b.policy.gives edge nobody [] [] []

  module _ (n r : ℕ) (rs : List ℕ) (l : n < measures.roles) (e : ascending (b.policy.edge n) measures.roles ≡ r ∷ rs) where
    rh_written : Writes (edges n (r ∷ rs)) (codes "rh r" ++ (decimal n ++ entry_bytes 114 (r ∷ rs)))
    rh_written = record {
      line = record { keyword = Rh; body = record { subject = n; first = r; more = rs } };
      fine = record { proper = (refl, row_proper (b.policy.edge n) r rs e 114 measures.roles [] n (omega arith)); ranged = row_ranged (b.policy.edge n) r rs e 114 measures.roles [] n l; small = refl; semi_static = refl };
      bytes = refl;
      names = refl;
    }

    edge_of : (v q : ℕ) → T (plus (below b.policy.edge n) n (r ∷ rs) v q) → T (b.policy.edge v q)
    edge_of v q t = ⊎_elim
        (λ (h : T (below b.policy.edge n v q)). (part b.policy.edge n v q h).1)
        (λ (h : T (eqb v n && listed (r ∷ rs) q)).
        subst⁻¹ (λ (w : ℕ). T (b.policy.edge w q)) (eqb→eq v n (first (eqb v n) (listed (r ∷ rs) q) h)) (member (b.policy.edge n) r rs e q (second (eqb v n) (listed (r ∷ rs) q) h)))
        (either (below b.policy.edge n v q) (eqb v n && listed (r ∷ rs) q) t)

    senior_of : {v q : ℕ} → Senior (plus (below b.policy.edge n) n (r ∷ rs)) v q → Senior b.policy.edge v q
    senior_of same = same
    senior_of (above {q = v} {r = m} t s) = above (edge_of v m t) (senior_of s)

    no_circle : AnyListed (λ q. Senior (plus (below b.policy.edge n) n (r ∷ rs)) q n) (r ∷ rs) → ⊥
    no_circle h =
        let (q, t, s) = some_of (λ q. Senior (plus (below b.policy.edge n) n (r ∷ rs)) q n) (r ∷ rs) h in
        o.no_circle n q (member (b.policy.edge n) r rs e q t) (senior_of s)

    rh_free : NoneApplies (entered Add (ordered (below b.policy.edge n)) (edges n (r ∷ rs)))
    rh_free =
        pass (λ h. h)
        (pass (λ h. ⊎_elim (λ t. not_there b.policy.edge n (r ∷ rs) t) (λ t. once (b.policy.edge n) r rs e t) h) (pass (λ h. h) (pass (λ h. no_circle h) nothing_left)))

  pub all_ordered : Feeds (given b.policy.gives) (row_lines (codes "rh r") b.policy.edge measures.roles) (ordered b.policy.edge)
  all_ordered = all_rows (codes "rh r") measures.roles b.policy.edge edges ordered (record { inside = o.edges_inside; written = rh_written; puts = λ g n rs. refl; free = rh_free })
