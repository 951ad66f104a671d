use Rattle.proof_cert.proofs.Common.{◌≡◌, ◌+◌, ◌*◌, ◌-◌, replies_of, left_of, replies_read, below_read, tree_read, CountsReplies}
use Rattle.proof_cert.proofs.ReadTrees.{prepended}
use Rattle.proof_cert.proofs.tree_reading.+read.Given as goal

abbrev pub decreases-read_tree : goal.decreases-read_tree
decreases-read_tree a = 4 * a.room

abbrev pub decreases-read_below : goal.decreases-read_below
decreases-read_below a = 4 * a.room + 1

abbrev pub decreases-read_reply : goal.decreases-read_reply
decreases-read_reply a = 4 * a.room + 2

abbrev pub decreases-read_replies : goal.decreases-read_replies
decreases-read_replies a = 4 * a.room + 3

abbrev pub invariant-read_replies-loop : goal.invariant-read_replies-loop
invariant-read_replies-loop l = record {
  read : replies_read (below_read (tree_read l.room)) l.count (left_of l.fn.reading.source l.fn.reading.nodes l.fn.reading.listed)
      ≡ prepended (replies_of l.fn.reading.source.size l.replies.items) (replies_read (below_read (tree_read l.room)) (l.count - l.counter) (left_of l.reading.source l.reading.nodes l.reading.listed));
  counted : CountsReplies l.room l.fn.reading.nodes l.fn.reading.listed (replies_of l.fn.reading.source.size l.replies.items) l.reading.nodes l.reading.listed;
  size : l.reading.source.size ≡ l.fn.reading.source.size;
}
