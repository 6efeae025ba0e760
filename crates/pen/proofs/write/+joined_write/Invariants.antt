use Rattle.std.proofs.Common.{◌+◌, ◌*◌, length}
use Rattle.pen.proofs.write.+joined_write.Given as goal

abbrev pub decreases-joined : goal.decreases-joined
decreases-joined l = 2 * length l.nodes.now + 2

abbrev pub decreases-write : goal.decreases-write
decreases-write l = 2 * length l.nodes.now + 1
