-- The equations of what an answer tree of the program says.
use Rattle.solution_tree.proofs.Common.{arith, ◌≡◌, ℕ, ◌+◌, ◌<◌, ◌≤◌, length, drop, get_or, List, [], ◌∷◌, ◌++◌, Vec, Box, Global, sym, ap, ◌∙◌, refl, nat_tests, Turn, ply_of, AnswerTree, leaf, turn, replies, none, reply, reply_sizes, answer_of, replies_of, Answer}
use Rattle.std.specs.List.{IsLastAndRest}
use Rattle.std.proofs.lemmas.List.{at_drop_more, at_drop_all}
use Rattle.target_game.specs.Answers.{answer_size}
use Rattle.solution_tree.specs.Answer.{answer_step}
use Rattle.solution_tree.specs.declared.answer.Answer.{Answer-F, fold-roll-Answer}
use Rattle.solution_tree.specs.declared.answer.Answer.TheVariants as code

pub answer_of_won : (n : ℕ) → answer_of n code.Won ≡ leaf
unfolding answer_of
answer_of_won n = ap (answer_of n) (sym code.rolls-Won) ∙ fold-roll-Answer AnswerTree (answer_step n) Answer-F.Won

pub answer_of_turn : (n : ℕ) (t : Turn) (below : Box Answer Global) → answer_of n (code.Turn t below) ≡ turn (ply_of n t) (answer_of n below.value)
unfolding answer_of
answer_of_turn n t below = ap (answer_of n) (sym (code.rolls-Turn t below)) ∙ fold-roll-Answer AnswerTree (answer_step n) (Answer-F.Turn t below)

pub answer_of_replies : (n : ℕ) (all : Vec (Turn × Answer) Global) → answer_of n (code.Replies all) ≡ replies (replies_of n all.items)
unfolding answer_of
answer_of_replies n all = ap (answer_of n) (sym (code.rolls-Replies all)) ∙ fold-roll-Answer AnswerTree (answer_step n) (Answer-F.Replies all)

-- what is left of the replies, one by one
pub answers_more : (n : ℕ) (rs : List (Turn × Answer)) (i : ℕ) (r : Turn × Answer) → i < length rs → r ≡ get_or rs i r → replies_of n (drop i rs) ≡ reply (ply_of n r.0) (answer_of n r.1) (replies_of n (drop (i + 1) rs))
answers_more n rs i r within is =
    at_drop_more (replies_of n) rs i r within
    ∙ ap (λ (x : Turn × Answer). reply (ply_of n x.0) (answer_of n x.1) (replies_of n (drop (i + 1) rs))) (sym is)

pub answers_done : (n : ℕ) (rs : List (Turn × Answer)) (i : ℕ) → length rs ≤ i → replies_of n (drop i rs) ≡ none
answers_done n rs i past = at_drop_all (replies_of n) rs i past

-- ---- sizes

pub size_won : (n : ℕ) → answer_size (answer_of n code.Won) ≡ 0
unfolding answer_size
size_won n = ap answer_size (answer_of_won n)

pub size_turn : (n : ℕ) (t : Turn) (below : Box Answer Global) → answer_size (answer_of n (code.Turn t below)) ≡ 1 + answer_size (answer_of n below.value)
unfolding answer_size
size_turn n t below = ap answer_size (answer_of_turn n t below)

pub size_replies : (n : ℕ) (all : Vec (Turn × Answer) Global) → answer_size (answer_of n (code.Replies all)) ≡ reply_sizes (replies_of n all.items)
unfolding answer_size
size_replies n all = ap answer_size (answer_of_replies n all)

pub sizes_last : (n : ℕ) (rs : List (Turn × Answer)) (r : Turn × Answer) → reply_sizes (replies_of n (rs ++ r ∷ [])) ≡ reply_sizes (replies_of n rs) + 1 + answer_size (answer_of n r.1)
unfolding answer_size
sizes_last n [] r = omega arith
sizes_last n (s ∷ rs) r = omega (arith, sizes_last n rs r)

pub sizes_more : (n : ℕ) (rs : List (Turn × Answer)) (i : ℕ) (r : Turn × Answer) → i < length rs → r ≡ get_or rs i r → reply_sizes (replies_of n (drop i rs)) ≡ 1 + answer_size (answer_of n r.1) + reply_sizes (replies_of n (drop (i + 1) rs))
unfolding answer_size
sizes_more n rs i r within is = ap reply_sizes (answers_more n rs i r within is)

pub sizes_done : (n : ℕ) (rs : List (Turn × Answer)) (i : ℕ) → length rs ≤ i → reply_sizes (replies_of n (drop i rs)) ≡ 0
unfolding answer_size
sizes_done n rs i past = ap reply_sizes (answers_done n rs i past)

pub no_sizes : (n : ℕ) → reply_sizes (replies_of n []) ≡ 0
unfolding answer_size
no_sizes n = refl

-- ---- sizes of a part that is of some form
pub part_won : (n : ℕ) (part : Answer) → part ≡ code.Won → answer_size (answer_of n part) ≡ 0
part_won n part is = ap (λ (a : Answer). answer_size (answer_of n a)) is ∙ size_won n

pub part_turn : (n : ℕ) (part : Answer) (t : Turn) (below : Box Answer Global) → part ≡ code.Turn t below → answer_size (answer_of n part) ≡ 1 + answer_size (answer_of n below.value)
part_turn n part t below is = ap (λ (a : Answer). answer_size (answer_of n a)) is ∙ size_turn n t below

pub part_replies : (n : ℕ) (part : Answer) (all : Vec (Turn × Answer) Global) (rs : List (Turn × Answer)) → part ≡ code.Replies all → rs ≡ all.items → answer_size (answer_of n part) ≡ reply_sizes (replies_of n rs)
part_replies n part all rs is same = ap (λ (a : Answer). answer_size (answer_of n a)) is ∙ size_replies n all ∙ ap (λ xs. reply_sizes (replies_of n xs)) (sym same)

-- ---- counting on, below a part: what is counted and what is left stay the same in all

pub below_turn : (count next before : ℕ) (answer part value : Answer) (t : Turn) (below : Box Answer Global) → part ≡ code.Turn t below → value ≡ below.value → next ≡ count + 1
    → ((n : ℕ) → count + answer_size (answer_of n part) ≡ before + answer_size (answer_of n answer)) → (n : ℕ) → next + answer_size (answer_of n value) ≡ before + answer_size (answer_of n answer)
below_turn count next before answer part value t below h g e f n = grind (arith, nat_tests, part_turn)

pub below_replies : (count got next before : ℕ) (answer part : Answer) (whole : Vec (Turn × Answer) Global) (items others : List (Turn × Answer)) (r : Turn × Answer) → part ≡ code.Replies whole → items ≡ whole.items
    → IsLastAndRest items r others → ((n : ℕ) → count + reply_sizes (replies_of n others) ≡ got) → next ≡ got + 1
    → ((n : ℕ) → count + answer_size (answer_of n part) ≡ before + answer_size (answer_of n answer)) → (n : ℕ) → next + answer_size (answer_of n r.1) ≡ before + answer_size (answer_of n answer)
below_replies count got next before answer part whole items others r is same rest some more all n =
    omega (arith, more, some n, all n, part_replies n part whole items is same, ap (λ (xs : List (Turn × Answer)). reply_sizes (replies_of n xs)) rest.0, sizes_last n others r)

pub empty_sizes : (n : ℕ) (rs : List (Turn × Answer)) → length rs ≡ 0 → reply_sizes (replies_of n rs) ≡ 0
empty_sizes n [] h = no_sizes n
empty_sizes n (r ∷ rs) h = absurd (omega (arith, h))
