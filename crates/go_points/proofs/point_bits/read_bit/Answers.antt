use Rattle.go_points.proofs.Bits.{bit_read}
use Rattle.go_points.proofs.point_bits.read_bit.Goals as goal

pub returns : goal.returns
returns c = bit_read c.args.bits.now c.args.bit
