-- What the program's lines say.
--     version_number v      the number of a claim's version
--     line_value n l      what a line says, for a board of n rows and n columns
use Rattle.std.specs.Prelude.{ℕ}
use Rattle.go_points.specs.Ply.{ply_of}
use Rattle.proof_cert.specs.Lines.{Line, header_line, lemma_line, had_line, not_line, main_line, won_line, use_line, play_line, all_line, reply_line, end_line}
use Rattle.proof_cert.specs.declared.line.Line as code
use Rattle.proof_cert.specs.declared.line.Line.TheVariants.{Header, Lemma, Had, Not, Main, Won, Use, Play, All, Reply, End}
use Rattle.proof_cert.specs.declared.version.Version.{Version}
use Rattle.proof_cert.specs.declared.version.Version.TheVariants.{One, Two}

abbrev pub version_number : Version → ℕ
version_number One = 1
version_number Two = 2

abbrev pub line_value : ℕ → code.Line → Line
line_value n (Header version size winner) = header_line (version_number version) size winner
line_value n (Lemma mover passes root) = lemma_line mover passes root
line_value n (Had c) = had_line c
line_value n (Not c) = not_line c
line_value n Main = main_line
line_value n Won = won_line
line_value n (Use j) = use_line j
line_value n (Play t) = play_line (ply_of n t)
line_value n (All m) = all_line m
line_value n (Reply t) = reply_line (ply_of n t)
line_value n End = end_line
