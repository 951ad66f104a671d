use Rattle.tsumego_problem.proofs.Common.{take_rest, sym, ◌∙◌, ap, option_and_then, take, ◌+◌, board_of, size_named, number_named, equal}
use Rattle.tsumego_problem.proofs.Numbers.{with_colon, without_colon}
use Rattle.tsumego_problem.proofs.sizes.read_size.Goals as goal

pub returns-in-Some : goal.returns-in-Some
returns-in-Some c = c.read_square.ensures ∙ ap (λ w. option_and_then board_of (equal (number_named (take c.in-Some.colon c.trim-value.result.now)) (number_named w))) (take_rest c.trim-value.result.now (c.in-Some.colon + 1)) ∙ sym (ap (option_and_then board_of) (with_colon c.trim-value.result.now c.in-Some.colon (sym c.colon_in.ensures ∙ c.in-Some.is))) ∙ ap (λ v. option_and_then board_of (size_named v)) c.trim-value.ensures

pub returns-in-None : goal.returns-in-None
returns-in-None c = c.read_number.ensures ∙ sym (ap (option_and_then board_of) (without_colon c.trim-value.result.now (sym c.colon_in.ensures ∙ c.in-None.is))) ∙ ap (λ v. option_and_then board_of (size_named v)) c.trim-value.ensures
