-- What a line names, by the change that it says.
use Rattle.std.proofs.Common.{◌≡◌, ℕ, true, List, Option, sym, refl, ap, ◌∙◌, ap₂}
use mathlib.Core.Path.{subst⁻¹}
use borrow.Author.Tests.{clash}
use Rattle.std.proofs.lemmas.Bool.{and_parts, and_from}
use Rattle.meaning.specs.Measures.{users}
use Rattle.meaning.specs.Rules.{AssignRule, RevokeRule}
use Rattle.meaning.specs.Requirements.{always, never}
use Rattle.meaning.specs.Sets.{UserSet, members, holders, only, nobody, union, intersection, as_condition}
use Rattle.grammar.specs.Phrase.{meaning, in_range}
use Rattle.grammar.specs.Phrase.{roles_alone as roles_written}
use Rattle.rbac.specs.Roles.{roles_of}
use Rattle.trees.specs.Reading.{Nodes}
use Rattle.lines.specs.declared.change.Change.{Change}
use Rattle.lines.specs.declared.change.Change.TheVariants as change
use Rattle.lines.specs.declared.change.Extra.{Extra}
use Rattle.lines.specs.declared.keyword.Keyword.{Keyword}
use Rattle.lines.specs.Entries.{all_below}
use Rattle.lines.specs.Bodies.{Clause, always_true, in_set, clause_ranged, ProperClause, condition, roles_in, users_in}
use Rattle.lines.specs.Lines.{bodies, Fine}
use Rattle.tables.specs.declared.entries.Demand.TheVariants.{Always, Never}
use Rattle.tables.specs.View.{condition_of, assign_of, revoke_of, requirement_of}
use Rattle.soundness.specs.Valid.{Whole, only_roles}
use Rattle.book.specs.Book.{Entry, pairs, gifts, edges, trusts, assigns, revokes, requires as required}
use Rattle.book.specs.Entering.{Readable}
use Rattle.book.specs.Says.{entry_of, line_entry}
use Rattle.drafts.proofs.Sets.{set_is}
use Rattle.entering.specs.Laid.{SidesWhole}
use Rattle.entering.specs.Entries.{needs_of, assign_entry, revoke_entry, requirement_entry}
use Rattle.lines.specs.Changes.{TreeOf, NamesRoles, NamesUsers, Means, says_ua, says_pa, says_rh, says_trust, says_assign, says_revoke, says_always, says_never}

-- the entry of a change, and what the leaf of its kind asks for
abbrev pub Names : Change → Extra → Entry → Type 0
Names (change.Ua u roles) e x = (rs : List ℕ) × (x ≡ pairs u.number rs) × NamesRoles rs roles e
Names (change.Pa p roles) e x = (rs : List ℕ) × (x ≡ gifts p.number rs) × NamesRoles rs roles e
Names (change.Rh q juniors) e x = (rs : List ℕ) × (x ≡ edges q.number rs) × NamesRoles rs juniors e
Names change.Trust e x = (us : List ℕ) × (x ≡ trusts us) × NamesUsers us e × (all_below users us ≡ true)
Names (change.Assign q targets) e x = (rs : List ℕ) × (x ≡ assigns (assign_of (assign_entry q targets e)) rs) × NamesRoles rs targets e × Whole (needs_of e.condition)
Names (change.Revoke q targets) e x = (rs : List ℕ) × (x ≡ revokes (revoke_of (revoke_entry q targets)) rs) × NamesRoles rs targets e
Names change.Always e x = (x ≡ required (requirement_of (requirement_entry Always e))) × SidesWhole (requirement_entry Always e)
Names change.Never e x = (x ≡ required (requirement_of (requirement_entry Never e))) × SidesWhole (requirement_entry Never e)

-- a set of roles in range is one of roles alone
alone : (x : UserSet) → roles_written x ≡ true → in_range x ≡ true → only_roles x ≡ true
alone (members r) a b = b
alone (holders n) a b = absurd (clash a)
alone (only u) a b = absurd (clash a)
alone nobody a b = absurd (clash a)
alone (union x y) a b =
    let p = and_parts (roles_written x) (roles_written y) a in
    let q = and_parts (in_range x) (in_range y) b in
    and_from (only_roles x) (only_roles y) (alone x p.0 q.0) (alone y p.1 q.1)
alone (intersection x y) a b =
    let p = and_parts (roles_written x) (roles_written y) a in
    let q = and_parts (in_range x) (in_range y) b in
    and_from (only_roles x) (only_roles y) (alone x p.0 q.0) (alone y p.1 q.1)

needs_whole : (c : Clause) (tree : Option Nodes) → TreeOf c tree → ProperClause c → clause_ranged c ≡ true → Whole (needs_of tree)
needs_whole always_true tree t p r = subst⁻¹ (λ o. Whole (needs_of o)) t tt
needs_whole (in_set x) tree (nodes, is, listed_is) p r = subst⁻¹ (λ o. Whole (needs_of o)) is (meaning x, listed_is, alone (meaning x) p.1 r)

needs_say : (c : Clause) (tree : Option Nodes) → TreeOf c tree → condition_of (needs_of tree) ≡ condition c
needs_say always_true tree t = ap (λ o. condition_of (needs_of o)) t
needs_say (in_set x) tree (nodes, is, listed_is) = ap (λ o. condition_of (needs_of o)) is ∙ ap as_condition (set_is nodes (meaning x) listed_is)

by_kind : {k : Keyword} {f : (bodies k).Form} {c : Change} {e : Extra} → Means k f c e → Fine (record { keyword = k; body = f }) → Names c e (entry_of k f)
by_kind (says_ua {x = f} {e = e} is lists) fine = (roles_in f, ap (λ n. pairs n (roles_in f)) (sym is), lists)
by_kind (says_pa {x = f} {e = e} is lists) fine = (roles_in f, ap (λ n. gifts n (roles_in f)) (sym is), lists)
by_kind (says_rh {x = f} {e = e} is lists) fine = (roles_in f, ap (λ n. edges n (roles_in f)) (sym is), lists)
by_kind (says_trust {x = f} {e = e} told) fine = (users_in f, refl, told, fine.ranged)
by_kind (says_assign {x = f} {admin = q} {targets = targets} {e = e} is lists tree) fine =
    let r = and_parts _ _ (and_parts _ _ fine.ranged).1 in (
      roles_in f.row,
      ap (λ x. assigns x (roles_in f.row))
          (ap₂ {C = AssignRule} (λ n ts. record { admin = n; condition = condition f.clause; targets = ts }) (sym is) (sym lists.set)
          ∙ ap (λ c. record { admin = q.number; condition = c; targets = roles_of targets }) (sym (needs_say f.clause e.condition tree))),
      lists,
      needs_whole f.clause e.condition tree fine.proper.1.2 r.0,
    )
by_kind (says_revoke {x = f} {e = e} is lists) fine =
    (roles_in f, ap (λ x. revokes x (roles_in f)) (ap₂ {C = RevokeRule} (λ n ts. record { admin = n; targets = ts }) (sym is) (sym lists.set)), lists)
by_kind (says_always {x = f} {e = e} s) fine = (
  ap₂ {C = Entry} (λ l r. required (always (record { larger = l; smaller = r }))) (sym (set_is e.left (meaning f.larger) s.left)) (sym (set_is e.right (meaning f.smaller) s.right)),
  ((meaning f.larger, s.left), (meaning f.smaller, s.right)),
)
by_kind (says_never {x = f} {e = e} s) fine = (
  ap₂ {C = Entry} (λ l r. required (never (record { larger = l; smaller = r }))) (sym (set_is e.left (meaning f.larger) s.left)) (sym (set_is e.right (meaning f.smaller) s.right)),
  ((meaning f.larger, s.left), (meaning f.smaller, s.right)),
)

pub names : (c : Change) (e : Extra) (x : Readable c e) → Names c e (line_entry x.line)
names c e x = by_kind x.means x.fine
