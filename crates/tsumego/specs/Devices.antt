-- When a read of the program has failed.
--     PassesLimit command bytes      the bytes pass a bound on what the command reads
--     ReadFails command faults interrupts bytes      the reader failed, by what was counted, or the bytes pass that bound
use Rattle.std.specs.Prelude.{ℕ, ◌<◌, List, length, Option, Some, None, ◌⊎◌}
use Rattle.counted_devices.specs.Devices.{HasFailed}
use Rattle.gtp_core.specs.Runs.{input_limit}
use Rattle.tsumego_words.specs.declared.command_line.Command.{Command}
use Rattle.tsumego_words.specs.declared.command_line.Command.TheVariants.{Gtp}
use Rattle.tsumego_replies.specs.Answers.{PassesBound}

abbrev pub PassesLimit : Command → List ℕ → Type 0
PassesLimit Gtp bytes = input_limit < length bytes
PassesLimit command bytes = PassesBound command bytes

abbrev pub ReadFails : Option Command → ℕ → ℕ → List ℕ → Type 0
ReadFails None faults interrupts bytes = HasFailed faults interrupts
ReadFails (Some command) faults interrupts bytes = HasFailed faults interrupts ⊎ PassesLimit command bytes
