use Rattle.proof_cert.proofs.Common.{◌≡◌, ◌+◌, ◌-◌, ◌++◌, ◌∷◌, [], Option, Some, None, ap, subst, sym, ◌∙◌, rules, arith, ply_of, Turn, Branches, node_of, replies_of, with_rest, left_of, reply_read, replies_read, below_read, tree_read, CountsTree, CountsReplies}
use Rattle.proof_cert.specs.declared.certificate.Node.{Node}
use Rattle.proof_cert.specs.Private.Reading.{reply_value}
use Rattle.proof_cert.proofs.ReadTrees.{prepended, reply_is_read, reply_is_missing, replies_are_read, replies_pushed}
use Rattle.proof_cert.proofs.ReadCounts.{reply_counted}
use Rattle.proof_cert.proofs.tree_reading.+read.Goals as goal

pub read_replies-returns-in_default-clause-read : goal.read_replies-returns-in_default-clause-read
read_replies-returns-in_default-clause-read t c =
    let below = below_read (tree_read c.args.room) in
    let s = left_of c.loop.reading.source c.loop.reading.nodes c.loop.reading.listed in
    let left = left_of c.read_reply.new.reading.source c.read_reply.new.reading.nodes c.read_reply.new.reading.listed in
    let missing : reply_read below s ≡ None = sym c.in_ok-reply.ensures.read ∙ ap (λ (x : Option (Turn × Node)). with_rest (reply_value c.loop.reading.source.size) x left) c.in_default.is in
    sym (c.loop.invariant.read ∙ reply_is_missing below c.args.count c.loop.counter s (omega arith) (replies_of c.args.reading.now.source.size c.loop.replies.items) missing)

pub read_replies-loop-preserved : goal.read_replies-loop-preserved
read_replies-loop-preserved t c =
    let n = c.args.reading.now.source.size in
    let below = below_read (tree_read c.args.room) in
    let s = left_of c.loop.reading.source c.loop.reading.nodes c.loop.reading.listed in
    let left = left_of c.read_reply.new.reading.source c.read_reply.new.reading.nodes c.read_reply.new.reading.listed in
    let there : reply_read below s ≡ Some (reply_value n c.in-Some.reply, left) =
    sym c.in_ok-reply.ensures.read ∙ ap (λ (x : Option (Turn × Node)). with_rest (reply_value c.loop.reading.source.size) x left) c.in-Some.is
    ∙ ap (λ k. Some (reply_value k c.in-Some.reply, left)) c.loop.invariant.size in
    let items : c.push.new.self.items ≡ c.loop.replies.items ++ c.in-Some.reply ∷ [] = search rules in
    let pushed = ap (replies_of n) items ∙ replies_pushed n c.loop.replies.items c.in-Some.reply in
    record {
      read =
          c.loop.invariant.read ∙ reply_is_read below c.args.count c.loop.counter s (omega arith) (replies_of n c.loop.replies.items) (reply_value n c.in-Some.reply) left there
          ∙ ap (λ (bs : Branches). prepended bs (replies_read below (c.args.count - (c.loop.counter + 1)) left)) (sym pushed);
      counted =
          subst (λ (bs : Branches). CountsReplies c.args.room c.args.reading.now.nodes c.args.reading.now.listed bs c.read_reply.new.reading.nodes c.read_reply.new.reading.listed) (sym pushed)
          (reply_counted (ply_of n c.in-Some.reply.0) (node_of n c.in-Some.reply.1) c.args.room _ _ (replies_of n c.loop.replies.items) _ _ _ _ c.loop.invariant.counted
          (subst (λ k. CountsTree c.args.room c.loop.reading.nodes c.loop.reading.listed (node_of k c.in-Some.reply.1) c.read_reply.new.reading.nodes c.read_reply.new.reading.listed) c.loop.invariant.size (search rules)));
      size = search rules;
    }

pub read_replies-returns-clause-read : goal.read_replies-returns-clause-read
read_replies-returns-clause-read t c =
    let below = below_read (tree_read c.args.room) in
    let s = left_of c.loop.reading.source c.loop.reading.nodes c.loop.reading.listed in
    sym (c.loop.invariant.read ∙ replies_are_read below c.args.count c.loop.counter s (replies_of c.args.reading.now.source.size c.loop.replies.items) (omega arith))
