-- Worked examples of the command line, computed by the definitions.
use Rattle.tsumego_words.proofs.Common.{◌≡◌, true, false, [], ◌∷◌, Some, None, codes, refl, command_of}
use Rattle.clap.proofs.OnLiterals.{clap_on_literals}
use Rattle.tsumego_words.specs.declared.command_line.Command.TheVariants.{Check, Within, Audit, Solve, Gtp}

check_asked : command_of (codes "tsumego" ∷ codes "check" ∷ []) ≡ Some Check
unfolding clap_on_literals command_of
check_asked = refl

within_asked : command_of (codes "tsumego" ∷ codes "within" ∷ codes "3" ∷ []) ≡ Some (Within 3 1000000)
unfolding clap_on_literals command_of
within_asked = refl

numbers_after_signs : command_of (codes "tsumego" ∷ codes "within" ∷ codes "+5" ∷ codes "--nodes=5" ∷ []) ≡ Some (Within 5 5)
unfolding clap_on_literals command_of
numbers_after_signs = refl

greatest_numbers : command_of (codes "tsumego" ∷ codes "within" ∷ codes "--nodes" ∷ codes "4294967295" ∷ codes "200" ∷ []) ≡ Some (Within 200 4294967295)
unfolding clap_on_literals command_of
greatest_numbers = refl

too_many_turns : command_of (codes "tsumego" ∷ codes "within" ∷ codes "201" ∷ []) ≡ None
unfolding clap_on_literals command_of
too_many_turns = refl

too_many_nodes : command_of (codes "tsumego" ∷ codes "within" ∷ codes "3" ∷ codes "--nodes" ∷ codes "4294967296" ∷ []) ≡ None
unfolding clap_on_literals command_of
too_many_nodes = refl

negative_number : command_of (codes "tsumego" ∷ codes "within" ∷ codes "-1" ∷ []) ≡ None
unfolding clap_on_literals command_of
negative_number = refl

given_twice : command_of (codes "tsumego" ∷ codes "within" ∷ codes "3" ∷ codes "--nodes" ∷ codes "1" ∷ codes "--nodes" ∷ codes "1" ∷ []) ≡ None
unfolding clap_on_literals command_of
given_twice = refl

no_turns : command_of (codes "tsumego" ∷ codes "within" ∷ []) ≡ None
unfolding clap_on_literals command_of
no_turns = refl

no_subcommand : command_of (codes "tsumego" ∷ []) ≡ None
unfolding clap_on_literals command_of
no_subcommand = refl

unknown_subcommand : command_of (codes "tsumego" ∷ codes "chek" ∷ []) ≡ None
unfolding clap_on_literals command_of
unknown_subcommand = refl

call_for_help : command_of (codes "tsumego" ∷ codes "within" ∷ codes "--help" ∷ []) ≡ None
unfolding clap_on_literals command_of
call_for_help = refl

call_for_version : command_of (codes "tsumego" ∷ codes "--version" ∷ []) ≡ None
unfolding clap_on_literals command_of
call_for_version = refl

version_of_a_command : command_of (codes "tsumego" ∷ codes "solve" ∷ codes "--version" ∷ []) ≡ None
unfolding clap_on_literals command_of
version_of_a_command = refl

audit_asked : command_of (codes "tsumego" ∷ codes "audit" ∷ []) ≡ Some Audit
unfolding clap_on_literals command_of
audit_asked = refl

gtp_asked : command_of (codes "tsumego" ∷ codes "gtp" ∷ []) ≡ Some Gtp
unfolding clap_on_literals command_of
gtp_asked = refl

word_behind_audit : command_of (codes "tsumego" ∷ codes "audit" ∷ codes "3" ∷ []) ≡ None
unfolding clap_on_literals command_of
word_behind_audit = refl

solve_asked : command_of (codes "tsumego" ∷ codes "solve" ∷ []) ≡ Some (Solve 1000000 100000 false false)
unfolding clap_on_literals command_of
solve_asked = refl

solve_with_all : command_of (codes "tsumego" ∷ codes "solve" ∷ codes "--proof" ∷ codes "--steps" ∷ codes "10000000" ∷ codes "--table=1" ∷ []) ≡ Some (Solve 10000000 1 true false)
unfolding clap_on_literals command_of
solve_with_all = refl

lemma_asked : command_of (codes "tsumego" ∷ codes "solve" ∷ codes "--lift" ∷ codes "--proof" ∷ []) ≡ Some (Solve 1000000 100000 true true)
unfolding clap_on_literals command_of
lemma_asked = refl

lemma_asked_without_proof : command_of (codes "tsumego" ∷ codes "solve" ∷ codes "--lift" ∷ []) ≡ Some (Solve 1000000 100000 false true)
unfolding clap_on_literals command_of
lemma_asked_without_proof = refl

no_steps : command_of (codes "tsumego" ∷ codes "solve" ∷ codes "--steps" ∷ codes "0" ∷ []) ≡ None
unfolding clap_on_literals command_of
no_steps = refl

too_many_steps : command_of (codes "tsumego" ∷ codes "solve" ∷ codes "--steps" ∷ codes "10000001" ∷ []) ≡ None
unfolding clap_on_literals command_of
too_many_steps = refl

no_table : command_of (codes "tsumego" ∷ codes "solve" ∷ codes "--table" ∷ codes "0" ∷ []) ≡ None
unfolding clap_on_literals command_of
no_table = refl

too_large_table : command_of (codes "tsumego" ∷ codes "solve" ∷ codes "--table" ∷ codes "1000001" ∷ []) ≡ None
unfolding clap_on_literals command_of
too_large_table = refl

flag_given_twice : command_of (codes "tsumego" ∷ codes "solve" ∷ codes "--proof" ∷ codes "--proof" ∷ []) ≡ None
unfolding clap_on_literals command_of
flag_given_twice = refl

lemma_asked_twice : command_of (codes "tsumego" ∷ codes "solve" ∷ codes "--lift" ∷ codes "--lift" ∷ []) ≡ None
unfolding clap_on_literals command_of
lemma_asked_twice = refl

flag_with_a_value : command_of (codes "tsumego" ∷ codes "solve" ∷ codes "--proof=true" ∷ []) ≡ None
unfolding clap_on_literals command_of
flag_with_a_value = refl

steps_given_twice : command_of (codes "tsumego" ∷ codes "solve" ∷ codes "--steps" ∷ codes "1" ∷ codes "--steps" ∷ codes "1" ∷ []) ≡ None
unfolding clap_on_literals command_of
steps_given_twice = refl

word_behind_solve : command_of (codes "tsumego" ∷ codes "solve" ∷ codes "3" ∷ []) ≡ None
unfolding clap_on_literals command_of
word_behind_solve = refl
