use Rattle.proof_cert.proofs.Common.{◌≡◌, ◌+◌, ◌-◌, length, line_value, left_of, picks, listed_read, list_read}
use Rattle.proof_cert.proofs.ReadTrees.{listed_front}
use Rattle.proof_cert.proofs.read.read_listed.Given as goal

abbrev pub invariant-loop-reading : goal.invariant-loop-reading
invariant-loop-reading l = record {
  read : list_read (picks l.fn.listing) (line_value l.fn.reading.source.size l.fn.first) (left_of l.fn.reading.source l.fn.reading.nodes l.fn.reading.listed)
      ≡ listed_front l.listed.items (listed_read (picks l.fn.listing) (1000001 - l.reading.listed) (line_value l.fn.reading.source.size l.line) (left_of l.reading.source l.reading.nodes l.reading.listed));
  nodes : l.reading.nodes ≡ l.fn.reading.nodes;
  counted : l.reading.listed ≡ l.fn.reading.listed + length l.listed.items;
  size : l.reading.source.size ≡ l.fn.reading.source.size;
}

abbrev pub decreases-loop-reading : goal.decreases-loop-reading
decreases-loop-reading l = 1000001 - l.reading.listed
