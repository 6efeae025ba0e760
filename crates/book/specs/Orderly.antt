-- What every board keeps, whatever is done to it: all is in range and within measure, no edges close a circle, nothing is there twice, and each rule and requirement is one that some line says.
use Rattle.std.specs.Prelude.{◌≡◌, ℕ, ◌<◌, ◌≤◌, T, List, length}
use Rattle.meaning.specs.Measures.{roles, permissions, rows, trusted_users, assign_rules, revoke_rules}
use Rattle.meaning.specs.Measures as Measures
use Rattle.meaning.specs.Membership.{User, Role, Permission, IsUser, Edges, Senior}
use Rattle.meaning.specs.Rules.{AssignRule, RevokeRule, aatu, aar, Policy}
use Rattle.meaning.specs.Lists.{Nth, Apart}
use Rattle.meaning.specs.Requirements.{Requirement}
use Rattle.meaning.specs.Rows.{Holders}
use Rattle.lines.specs.Lines.{Sentence, Fine}
use Rattle.book.specs.Book.{Book, Entry, assigns, revokes, requires}
use Rattle.book.specs.Grounds.{AllTrusted}
use Rattle.book.specs.Says.{line_entry}

-- no two entries of the list are the same
abbrev pub Once : {A : Type 0} → List A → Type 0
Once {A} xs = (j k : ℕ) (x : A) → j < k → Nth j x xs → Nth k x xs → ⊥

-- some line that nothing refuses says it
pub record Said (e : Entry) : Type 0 where
  pub line : Sentence
  pub fine : Fine line
  pub names : line_entry line ≡ e

-- no role lies below itself on a path of edges
abbrev pub NoCircle : Edges → Type 0
NoCircle edge = (q r : Role) → T (edge q r) → Senior edge r q → ⊥

-- the one kind of entry that a regime excludes is not there
abbrev pub KeepsRegime : Policy → Type 0
KeepsRegime p = elim p.regime [ aatu ↦ ((k : ℕ) (rule : RevokeRule) → Nth k rule p.revokes → ⊥) | aar ↦ ((u : User) → T (p.trusted u) → ⊥) ]

pub record Orderly (b : Book) : Type 0 where
  pub assigned_inside : (u : User) (r : Role) → T (b.state u r) → IsUser u × (r < roles)
  pub edges_inside : (q r : Role) → T (b.policy.edge q r) → (q < roles) × (r < roles)
  pub given_inside : (n : Permission) (r : Role) → T (b.policy.gives n r) → (n < permissions) × (r < roles)
  pub trusted_inside : (u : User) → T (b.policy.trusted u) → IsUser u
  pub few_rows : (us : List User) → Apart us → Holders b.state us → length us ≤ rows
  pub few_trusted : (us : List User) → Apart us → AllTrusted b.policy us → length us ≤ trusted_users
  pub few_assigns : length b.policy.assigns ≤ assign_rules
  pub few_revokes : length b.policy.revokes ≤ revoke_rules
  pub few_requirements : length b.requirements ≤ Measures.requirements
  pub no_circle : NoCircle b.policy.edge
  pub regime : KeepsRegime b.policy
  pub assigns_once : Once b.policy.assigns
  pub revokes_once : Once b.policy.revokes
  pub requirements_once : Once b.requirements
  pub assigns_said : (k : ℕ) (rule : AssignRule) → Nth k rule b.policy.assigns → (rs : List Role) × Said (assigns rule rs)
  pub revokes_said : (k : ℕ) (rule : RevokeRule) → Nth k rule b.policy.revokes → (rs : List Role) × Said (revokes rule rs)
  pub requirements_said : (k : ℕ) (d : Requirement) → Nth k d b.requirements → Said (requires d)
