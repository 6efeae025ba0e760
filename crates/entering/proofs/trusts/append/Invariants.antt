use Rattle.std.proofs.Common.{◌≡◌, ◌++◌, take}
use Rattle.meaning.specs.Measures.{trusted_users}
use Rattle.bounded.specs.Entries.{entries}
use Rattle.entering.proofs.trusts.append.Given as goal

abbrev pub invariant-more : goal.invariant-more
invariant-more l = entries l.list ≡ take trusted_users (entries l.fn.list ++ take l.user-index l.more)
