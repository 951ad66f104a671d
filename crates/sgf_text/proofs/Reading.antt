-- Each byte that the reader takes is one step of the followers and of the reader on lists.
use Rattle.sgf_text.proofs.Common.{◌≡◌, ℕ, suc, ◌+◌, List, [], ◌∷◌, sym, ap, ◌∙◌, subst, refl, arith, length, rules, true, nat_lt, Option, Some, None, option_map, Result, Ok, Err, nat_tests, Sign, ParserState, AfterOpen, AfterChild, Transition, Opens, Begins, Closes, To, Refused, SgfFault, NoTree, Syntax, TooLong, TooDeep, TooMany, Memory, sign_of, Node, Forest, GameTree, transition, tree_end, depth_limit, node_limit, Parser, moved, led, node_ended, begun_in, opened_in, closed_in, Steps, IsSound}
use Rattle.sgf_text.proofs.Signs.{means}
use Rattle.sgf_text.proofs.Machine.{Front, front, closed, opened, begun, kept, complete}
use Rattle.sgf_text.proofs.Sound.{sound}
use Rattle.sgf_text.proofs.Limits.{front_at, end_at, tested, last_end, last_front}
use Rattle.sgf_text.proofs.OpenSound.{opens_at, begins_at, closes_at, ended_outer}
use Rattle.sgf_text.proofs.OpenKept.{LedSound, led_sound, begun_sound, opened_sound, closed_sound}
use Rattle.sgf_text.proofs.Filled.{filled, Led, led_filled, opened_filled, closed_filled, last_filled, begun_filled}

-- the first tree, if the rest of the text completes it
abbrev pub completed : Parser → List ℕ → Option GameTree
completed o rest = option_map (filled o.state o) (complete o.state (length o.outer) rest)

-- where the first tree ends, or the first fault
abbrev pub ends : SgfFault → Parser → ℕ → List ℕ → Result ℕ SgfFault
ends cut o at rest = tree_end cut o.state (length o.outer) o.nodes at rest

abbrev pub Follows : Parser → ℕ → ℕ → Result (Option GameTree) SgfFault → Parser → Type 0
Follows o c at (Ok None) n = IsSound n × ((rest : List ℕ) → completed n rest ≡ completed o (c ∷ rest)) × ((cut : SgfFault) (rest : List ℕ) → ends cut n (at + 1) rest ≡ ends cut o at (c ∷ rest))
Follows o c at (Ok (Some tree)) n = ((rest : List ℕ) → Some tree ≡ completed o (c ∷ rest)) × ((cut : SgfFault) (rest : List ℕ) → ends cut o at (c ∷ rest) ≡ Ok (at + 1))
Follows o c at (Err Memory) n = Unit {0}
Follows o c at (Err e) n = (cut : SgfFault) (rest : List ℕ) → ends cut o at (c ∷ rest) ≡ Err e

led_outer : (c : ℕ) (o : Parser) (P : ParserState) (z : Sign) → (led P z c o).outer ≡ o.outer
led_outer c o P z = search rules

led_nodes : (c : ℕ) (o : Parser) (P : ParserState) (z : Sign) → (led P z c o).nodes ≡ o.nodes
led_nodes c o P z = search rules

moved_filled : (P next : ParserState) (o : Parser) (F : Front) → filled P (moved next o) F ≡ filled P o F
moved_filled P next o F = search rules

map_map : (x : Option Front) (f g : Front → GameTree) (h : Front → Front) → ((G : Front) → x ≡ Some G → f G ≡ g (h G)) → option_map f x ≡ option_map g (option_map h x)
map_map x f g h e = search rules

module _ (o : Parser) (c at : ℕ) (s : IsSound o) where
  here : (m : Transition) → transition o.state (sign_of c) ≡ m → (rest : List ℕ) → completed o (c ∷ rest) ≡ option_map (filled o.state o) (front_at m (kept o.state (sign_of c) c) (length o.outer) rest (λ next around. complete next around rest))
  here m e rest = ap (λ x. option_map (filled o.state o) (front_at x (kept o.state (sign_of c) c) (length o.outer) rest (λ next around. complete next around rest))) e

  end_here : (m : Transition) → transition o.state (sign_of c) ≡ m → (cut : SgfFault) (rest : List ℕ) → ends cut o at (c ∷ rest) ≡ end_at m (length o.outer) o.nodes at (λ next around count. tree_end cut next around count (at + 1) rest)
  end_here m e cut rest = ap (λ x. end_at x (length o.outer) o.nodes at (λ next around count. tree_end cut next around count (at + 1) rest)) e

  -- ---- the "(" of a tree

  opened_tree : transition o.state (sign_of c) ≡ Opens → (rest : List ℕ) → completed (opened_in (node_ended o.state o)) rest ≡ completed o (c ∷ rest)
  opened_tree e rest =
      ap (λ k. option_map (filled AfterOpen (opened_in (node_ended o.state o))) (complete AfterOpen (suc (length k)) rest)) (ended_outer o.state o)
      ∙ map_map (complete AfterOpen (suc (length o.outer)) rest) (filled AfterOpen (opened_in (node_ended o.state o))) (filled o.state o) opened
      (λ G g. at_outer G.word G.values G.properties G.nodes G.trees G.rest G.outer (sound AfterOpen (suc (length o.outer)) rest G g).1)
      ∙ sym (here Opens e rest)
    where
      at_outer : (w : List ℕ) (vs : _) (ps : _) (ns : List Node) (f : Forest) (r : List ℕ) (outer : List Forest) → length outer ≡ suc (length o.outer)
          → filled AfterOpen (opened_in (node_ended o.state o)) (front w vs ps ns f outer r) ≡ filled o.state o (opened (front w vs ps ns f outer r))
      at_outer w vs ps ns f r [] l = absurd cc
      at_outer w vs ps ns f r (x ∷ xs) l = opened_filled o.state o (opens_at o.state (sign_of c) e) ns f x xs r

  opened_end : transition o.state (sign_of c) ≡ Opens → nat_lt (length o.outer + 1) depth_limit ≡ true → (cut : SgfFault) (rest : List ℕ) → ends cut (opened_in (node_ended o.state o)) (at + 1) rest ≡ ends cut o at (c ∷ rest)
  opened_end h g cut rest = search rules

  opens_follow : transition o.state (sign_of c) ≡ Opens → (r : Result (Option GameTree) SgfFault) (n : Parser) → Steps Opens (sign_of c) c at o r n → Follows o c at r n
  opens_follow h r n g = grind (arith, nat_tests, opened_sound, opens_at, opened_tree, opened_end, end_here, tested)

  -- ---- the ";" of a node

  begun_tree : transition o.state (sign_of c) ≡ Begins → (rest : List ℕ) → completed (begun_in (node_ended o.state o)) rest ≡ completed o (c ∷ rest)
  begun_tree h rest = grind (arith, nat_tests, filled, complete, ended_outer, map_map, begun, begun_filled, begins_at, here)

  begun_end : transition o.state (sign_of c) ≡ Begins → nat_lt o.nodes node_limit ≡ true → (cut : SgfFault) (rest : List ℕ) → ends cut (begun_in (node_ended o.state o)) (at + 1) rest ≡ ends cut o at (c ∷ rest)
  begun_end h g cut rest = search rules

  begins_follow : transition o.state (sign_of c) ≡ Begins → (r : Result (Option GameTree) SgfFault) (n : Parser) → Steps Begins (sign_of c) c at o r n → Follows o c at r n
  begins_follow h r n g = grind (arith, nat_tests, begun_sound, begins_at, begun_tree, begun_end, end_here, tested)

  -- ---- the ")" of a tree

  closed_tree : transition o.state (sign_of c) ≡ Closes → (a : GameTree) (os : List GameTree) → o.outer ≡ a ∷ os → (rest : List ℕ) → completed (closed_in (node_ended o.state o) a os) rest ≡ completed o (c ∷ rest)
  closed_tree e a os z rest =
      map_map (complete AfterChild (length os) rest) (filled AfterChild (closed_in (node_ended o.state o) a os)) (filled o.state o) closed
      (λ G g. closed_filled o.state o (closes_at o.state (sign_of c) e) a os z G (sound AfterChild (length os) rest G g).0.3)
      ∙ ap (λ (k : List GameTree). option_map (filled o.state o) (last_front (length k) rest (λ around. complete AfterChild around rest))) (sym z)
      ∙ sym (here Closes e rest)

  closed_end : transition o.state (sign_of c) ≡ Closes → (a : GameTree) (os : List GameTree) → o.outer ≡ a ∷ os → (cut : SgfFault) (rest : List ℕ) → ends cut (closed_in (node_ended o.state o) a os) (at + 1) rest ≡ ends cut o at (c ∷ rest)
  closed_end h a os g cut rest = search rules

  closes_follow : transition o.state (sign_of c) ≡ Closes → (r : Result (Option GameTree) SgfFault) (n : Parser) → Steps Closes (sign_of c) c at o r n → Follows o c at r n
  closes_follow h r n g = grind (arith, nat_tests, closed_sound, closes_at, closed_tree, closed_end, last_filled, filled, last_front, complete, here, end_here, last_end)

  -- ---- a byte that leads on, and one that is no follower

  leads_follow : (next : ParserState) → transition o.state (sign_of c) ≡ To next → (r : Result (Option GameTree) SgfFault) (n : Parser) → Steps (To next) (sign_of c) c at o r n → Follows o c at r n
  leads_follow next e (Ok None) n h = subst (Follows o c at (Ok None)) (sym h) (
    subst (LedSound o o.state (sign_of c) c) e (led_sound o s.outer o.state (sign_of c) c (means c) s.word s.property s.properties s.tree),
    λ rest. ap (λ (k : List GameTree). option_map (filled next (moved next (led o.state (sign_of c) c o))) (complete next (length k) rest)) (led_outer c o o.state (sign_of c))
        ∙ map_map (complete next (length o.outer) rest) (filled next (moved next (led o.state (sign_of c) c o))) (filled o.state o) (kept o.state (sign_of c) c)
        (λ G g. moved_filled next next (led o.state (sign_of c) c o) G ∙ subst (Led o G o.state (sign_of c) c) e (led_filled o G o.state (sign_of c) c (means c) s.word s.property) rest (sound next (length o.outer) rest G g).0)
        ∙ sym (here (To next) e rest),
    λ cut rest. ap (λ (k : List GameTree). tree_end cut next (length k) (led o.state (sign_of c) c o).nodes (at + 1) rest) (led_outer c o o.state (sign_of c))
        ∙ ap (λ k. tree_end cut next (length o.outer) k (at + 1) rest) (led_nodes c o o.state (sign_of c))
        ∙ sym (end_here (To next) e cut rest),
  )
  leads_follow next e (Ok (Some x)) n h = absurd h
  leads_follow next e (Err Memory) n h = tt
  leads_follow next e (Err NoTree) n h = absurd h
  leads_follow next e (Err (Syntax k)) n h = absurd h
  leads_follow next e (Err TooLong) n h = absurd h
  leads_follow next e (Err TooDeep) n h = absurd h
  leads_follow next e (Err TooMany) n h = absurd h

  refused_follow : transition o.state (sign_of c) ≡ Refused → (r : Result (Option GameTree) SgfFault) (n : Parser) → Steps Refused (sign_of c) c at o r n → Follows o c at r n
  refused_follow h r n g = search rules

  follows_at : (m : Transition) → transition o.state (sign_of c) ≡ m → (r : Result (Option GameTree) SgfFault) (n : Parser) → Steps m (sign_of c) c at o r n → Follows o c at r n
  follows_at m h r n g = grind (arith, nat_tests, opens_follow, begins_follow, closes_follow, leads_follow, refused_follow)

  pub steps_follow : (r : Result (Option GameTree) SgfFault) (n : Parser) → Steps (transition o.state (sign_of c)) (sign_of c) c at o r n → Follows o c at r n
  steps_follow r n h = follows_at (transition o.state (sign_of c)) refl r n h
