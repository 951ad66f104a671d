use Rattle.sgf_text.proofs.Common.{◌≡◌, drop, list_all, is_upper}
use Rattle.sgf_text.proofs.well_formed.is_ident.Given as goal

abbrev pub invariant-loop-byte : goal.invariant-loop-byte
invariant-loop-byte l = list_all is_upper (drop l.byte-index l.name) ≡ list_all is_upper l.name
