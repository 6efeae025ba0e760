-- A rule that some line says.
use Rattle.std.proofs.Common.{List}
use Rattle.meaning.specs.Membership.{Role}
use Rattle.meaning.specs.Rules.{AssignRule, RevokeRule}
use Rattle.book.specs.Book.{assigns, revokes}
use Rattle.book.specs.Orderly.{Said}

abbrev pub RuleSaid : AssignRule → Type 0
RuleSaid rule = (rs : List Role) × Said (assigns rule rs)

abbrev pub RevokeSaid : RevokeRule → Type 0
RevokeSaid rule = (rs : List Role) × Said (revokes rule rs)
