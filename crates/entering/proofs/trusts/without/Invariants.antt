use Rattle.std.proofs.Common.{◌≡◌, not, take, filter}
use Rattle.meaning.specs.Measures.{trusted_users}
use Rattle.words.specs.Words.{bits}
use Rattle.rbac.specs.declared.users.User.{User}
use Rattle.bounded.specs.Entries.{entries}
use Rattle.entering.proofs.trusts.without.Given as goal

abbrev pub invariant-list : goal.invariant-list
invariant-list l = entries l.left ≡ take trusted_users (filter (λ (u : User). not (bits l.named u.number)) (take l.user-index l.list))
