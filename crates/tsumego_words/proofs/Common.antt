-- The names that several proofs of this crate cite, passed on from one place. Declares nothing.
pub use Rattle.clap.proofs.WalkLemmas.{one_text-rows}
pub use Rattle.clap.specs.Facts.{explicit_source}
pub use Rattle.clap.specs.Faults.{settle_fault, check_fault, defaults_fault, other_fault, step_fault, turn_fault, use_fault, word_fault}
pub use Rattle.clap.specs.Kinds.{or_else}
pub use Rattle.clap.specs.Lexer.{long_of, short_of}
pub use Rattle.clap.specs.Takes.{is_given}
pub use Rattle.clap.specs.ValueTests.{is_unsigned_in}
pub use Rattle.clap.specs.Walk.{Held, settled, Outcome, Step, Waiting, Walk, after_flag, after_step, arg_by_index, arg_by_long, bundle, done, finished, idle, long_met, long_or_other, next, nothing_held, option, plain, plain_word, positional, refused, short_or_plain, subcommand, subcommand_met, subcommand_or_other, to_positional, trailing, used, value, waits, walk, walk_from, walked_from, word_met}
pub use Rattle.clap.specs.Words.{Text, Kinds, Row, Rule, Shape, fault_of, found_of, one_text, subcommand_of}
pub use Rattle.clap.specs.declared.builder.value_parser.ValueParser.TheVariants.{Unsigned}
pub use Rattle.std.proofs.Common.{None, Some, false, [], ap, codes, refl, sym, true, ◌∙◌, ◌∷◌, ◌≡◌, Bool, List, Option, cond, inl, inr, is_some, option_and_then, subst, ℕ, ◌&&◌, fold, arith, find, if◌then◌else◌, length, not, option_map, slice_get, ◌⊎◌}
pub use Rattle.std.specs.List.{list_any}
pub use Rattle.std.specs.Option.{option_map_or}
pub use Rattle.std.specs.Str.{bytes_eq}
pub use Rattle.std.specs.Str.Parse.{ParsesUnsigned, digits_value, without_leading_plus}
pub use Rattle.go_points.proofs.Lists.{Member, and_both, and_left, and_right}
pub use Rattle.tsumego_words.specs.CommandLine.{number_in, command_named, grammar, unless_faulty}
unfoldable pub use Rattle.tsumego_words.specs.CommandLine.{command_of}
