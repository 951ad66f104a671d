use Rattle.std.proofs.Common.{◌≡◌, false, rules}
use Rattle.std.specs.Io.KnownBytes.{Appends}
use Rattle.byte_writer.specs.Taken.{TakesPart}
use Rattle.byte_writer.proofs.TakenLemmas.{put_written, put_failed}
use Rattle.byte_writer.proofs.pending.PendingBytes.put.Goals as goal

pub returns-then-is_err-2 : goal.returns-then-is_err-2
returns-then-is_err-2 g c =
    let sound : c.args.self.now.failed ≡ false = search rules in
    let held : Appends (g.W.Write.contents c.args.writer.now) (g.W.Write.contents c.write_bytes.new.writer) c.args.self.now.held = search rules in
    let cut : TakesPart (g.W.Write.contents c.write_bytes.new.writer) (g.W.Write.contents c.write_bytes-2.new.writer) c.args.bytes.now = search rules in
    put_failed _ _ _ c.args.self.now _ c.args.bytes.now sound held (search rules) cut

pub returns-else-is_err-2 : goal.returns-else-is_err-2
returns-else-is_err-2 g c =
    let sound : c.args.self.now.failed ≡ false = search rules in
    let held : Appends (g.W.Write.contents c.args.writer.now) (g.W.Write.contents c.write_bytes.new.writer) c.args.self.now.held = search rules in
    let written : Appends (g.W.Write.contents c.write_bytes.new.writer) (g.W.Write.contents c.write_bytes-2.new.writer) c.args.bytes.now = search rules in
    put_written _ _ _ c.args.self.now _ c.args.bytes.now sound held (search rules) written
