-- The bounds on what is read.
--     front_limit      a record is looked for in this many bytes of the input
--     white_limit      how many bytes of white space may be between a record and a claim
--     session_limit, block_limit      how many bytes a session may have, and how many it asks for at once
use Rattle.std.specs.Prelude.{ℕ}

abbrev pub front_limit : ℕ
front_limit = 1048577

abbrev pub white_limit : ℕ
white_limit = 1048576

abbrev pub session_limit : ℕ
session_limit = 67108864

abbrev pub block_limit : ℕ
block_limit = 4096
