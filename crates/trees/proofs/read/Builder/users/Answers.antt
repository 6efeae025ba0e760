use Rattle.trees.specs.declared.nodes.Node.TheVariants.{Or}
use Rattle.trees.specs.Reading.{user_at, users_at}
use Rattle.trees.proofs.Turns.{begun, begun_bad, item_bad, turned, add_bad, ended}
use Rattle.grammar.specs.Text.{rest}
use Rattle.trees.proofs.read.Builder.users.Goals as goal

pub returns-in_err-user : goal.returns-in_err-user
unfolding users_at
returns-in_err-user c = begun_bad 44 Or user_at _ _ _ _ _ c.in_err-user.ensures c.from_residual.ensures.1

pub users-init : goal.users-init
users-init c = begun 44 Or user_at _ _ _ c.in_ok-user.ensures

pub returns-in_err-user-2 : goal.returns-in_err-user-2
unfolding users_at
returns-in_err-user-2 c = item_bad 44 Or user_at _ _ c.users.invariant _ c.users-test.ensures.read _ _ _ _ c.in_err-user-2.ensures c.from_residual-in_err-user-2.ensures.1

pub users-preserved : goal.users-preserved
users-preserved c = turned 44 Or user_at _ _ c.users.invariant _ c.users-test.ensures.read _ _ c.in_ok-user-2.ensures _ _ (c.in_ok-push.ensures (rest c.user-in-users.new.self.reader))

pub returns-in_err-push : goal.returns-in_err-push
unfolding users_at
returns-in_err-push c =
    add_bad 44 Or user_at _ _ c.users.invariant _ c.users-test.ensures.read _ _ c.in_ok-user-2.ensures _ _ _ (c.in_err-push.ensures (rest c.user-in-users.new.self.reader)) c.from_residual-in_err-push.ensures.1

pub returns : goal.returns
unfolding users_at
returns c = ended 44 Or user_at _ _ c.users.invariant c.users-test.ensures.read.0 _ c.users-test.ensures.read.1
