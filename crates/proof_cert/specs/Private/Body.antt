-- Lines of a body: those of its nodes and replies, and the one that ends it. Nearly all lines of a claim are such.
--     body_value n l      what the line says, for a board of n rows and n columns
--     body_line_of n b      the line of a body that these bytes spell; None if they spell none
--     other_line_of n b      the line of no body that they spell; None if they spell none
use Rattle.std.specs.Prelude.{ℕ, List, Option, codes, option_map}
use Rattle.go_points.specs.Ply.{ply_of}
use Rattle.go_points.specs.Text.{colouring_from_text}
use Rattle.proof_cert.specs.Lines.{Line, had_line, not_line, main_line, won_line, use_line, play_line, all_line, reply_line, end_line}
use Rattle.proof_cert.specs.Text.{after_word, at_end, behind, header_tail, lemma_tail, number_of, or_else, vertex_of}
use Rattle.proof_cert.specs.declared.body_line.BodyLine.{BodyLine}
use Rattle.proof_cert.specs.declared.body_line.BodyLine.TheVariants.{Won, Use, Play, All, Reply, End}

abbrev pub body_value : ℕ → BodyLine → Line
body_value n Won = won_line
body_value n (Use j) = use_line j
body_value n (Play t) = play_line (ply_of n t)
body_value n (All m) = all_line m
body_value n (Reply t) = reply_line (ply_of n t)
body_value n End = end_line

abbrev pub body_line_of : ℕ → List ℕ → Option Line
body_line_of n b =
    or_else (behind (codes "reply ") (λ r. option_map reply_line (vertex_of n r)) b)
    (or_else (behind (codes "play ") (λ r. option_map play_line (vertex_of n r)) b)
    (or_else (behind (codes "all ") (λ r. option_map all_line (number_of r)) b)
    (or_else (at_end won_line (after_word (codes "won") b))
    (or_else (behind (codes "use ") (λ r. option_map use_line (number_of r)) b)
    (at_end end_line (after_word (codes "end") b))))))

abbrev pub other_line_of : ℕ → List ℕ → Option Line
other_line_of n b =
    or_else (behind (codes "tsucert ") header_tail b)
    (or_else (behind (codes "lemma ") (lemma_tail n) b)
    (or_else (behind (codes "had ") (λ r. option_map had_line (colouring_from_text n r)) b)
    (or_else (behind (codes "not ") (λ r. option_map not_line (colouring_from_text n r)) b)
    (at_end main_line (after_word (codes "main") b)))))
