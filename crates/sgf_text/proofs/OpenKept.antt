-- No byte breaks what an open tree keeps.
use Rattle.sgf_text.proofs.Common.{◌≡◌, ◌≢◌, ℕ, List, [], ◌∷◌, ◌++◌, sym, ap, ◌∙◌, subst, refl, rules, arith, true, false, IsTrue, list_all, append_assoc, append-nil, and_from, and_parts, nat_tests, Sign, White, Upper, Lower, OpenRound, CloseRound, Semicolon, OpenSquare, CloseSquare, Backslash, Other, ParserState, AfterOpen, AfterSemicolon, InIdent, AfterIdent, InValue, AfterBackslash, AfterValue, AfterChild, Transition, To, Property, is_upper, is_value_after, is_value, GameTree, is_tree, transition, added, with_node, with_child, Parser, moved, led, node_ended, can_close, begun_in, opened_in, closed_in, IsSound, IsSoundWord, IsSoundProperty, IsSoundNode, IsSoundTree}
use Rattle.sgf_text.proofs.Signs.{Means}
use Rattle.sgf_text.proofs.Sound.{IsPlain, plain_white, plain_letter, plain_at}
use Rattle.sgf_text.proofs.ForestLemmas.{join_good}
use Rattle.sgf_text.proofs.OpenSound.{open_at, can_begin, value_node, all_nodes, ended_good}
use Rattle.sgf_text.proofs.Written.{ident_good}

-- ---- words and values

upper_more : (c : ℕ) (w : List ℕ) → is_upper c ≡ true → IsTrue (list_all is_upper w) → IsTrue (list_all is_upper (w ++ c ∷ []))
upper_more c [] h g = and_from (is_upper c) true h refl
upper_more c (x ∷ xs) h g = let b = and_parts (is_upper x) (list_all is_upper xs) g in and_from (is_upper x) (list_all is_upper (xs ++ c ∷ [])) b.0 (upper_more c xs h b.1)

some_more : (c : ℕ) (w : List ℕ) → w ++ c ∷ [] ≢ []
some_more c [] = λ k. cc
some_more c (x ∷ xs) = λ k. cc

no_upper : (w : List ℕ) → w ≡ [] → IsTrue (list_all is_upper w)
no_upper w e = subst (λ x. IsTrue (list_all is_upper x)) (sym e) refl

no_values : (vs : List (List ℕ)) → vs ≡ [] → IsTrue (list_all is_value vs)
no_values vs e = subst (λ x. IsTrue (list_all is_value x)) (sym e) refl

values_more : (vs : List (List ℕ)) (v : List ℕ) → IsTrue (list_all is_value vs) → IsTrue (is_value v) → IsTrue (list_all is_value (vs ++ v ∷ []))
values_more [] v h g = and_from (is_value v) true g refl
values_more (x ∷ xs) v h g = let b = and_parts (is_value x) (list_all is_value xs) h in and_from (is_value x) (list_all is_value (xs ++ v ∷ [])) b.0 (values_more xs v b.1 g)

some_values : (vs : List (List ℕ)) (v : List ℕ) → vs ++ v ∷ [] ≢ []
some_values [] v = λ k. cc
some_values (x ∷ xs) v = λ k. cc

no_word : (w : List ℕ) → w ≡ [] → IsSoundWord InValue w
no_word w e = λ rest. ap (λ x. is_value_after false (x ++ rest)) e

plain_byte : (c : ℕ) (rest : List ℕ) → IsPlain c → is_value_after false (c ∷ rest) ≡ is_value_after false rest
plain_byte c rest p = rw (p.0, p.1) refl

word_plain : (c : ℕ) (w : List ℕ) → IsPlain c → IsSoundWord InValue w → IsSoundWord InValue (w ++ c ∷ [])
word_plain c w p s = λ rest. ap (is_value_after false) (append_assoc w (c ∷ []) rest) ∙ s (c ∷ rest) ∙ plain_byte c rest p

slash_byte : (c : ℕ) (rest : List ℕ) → c ≡ 92 → is_value_after false (c ∷ rest) ≡ is_value_after true rest
slash_byte c rest e = rw e refl

word_slash : (c : ℕ) (w : List ℕ) → c ≡ 92 → IsSoundWord InValue w → IsSoundWord AfterBackslash (w ++ c ∷ [])
word_slash c w e s = λ rest. ap (is_value_after false) (append_assoc w (c ∷ []) rest) ∙ s (c ∷ rest) ∙ slash_byte c rest e

word_escaped : (c : ℕ) (w : List ℕ) → IsSoundWord AfterBackslash w → IsSoundWord InValue (w ++ c ∷ [])
word_escaped c w s = λ rest. ap (is_value_after false) (append_assoc w (c ∷ []) rest) ∙ s (c ∷ rest)

value_good : (w : List ℕ) → IsSoundWord InValue w → IsTrue (is_value w)
value_good w s = ap (is_value_after false) (sym (append-nil w)) ∙ s []

-- ---- a byte that leads on

abbrev pub LedSound : Parser → ParserState → Sign → ℕ → Transition → Type 0
LedSound o P s c (To next) = IsSound (moved next (led P s c o))
LedSound o P s c m = Unit {0}

module _ (o : Parser) (h : IsTrue (list_all is_tree o.outer)) where
  value_next : (c : ℕ) → IsPlain c → IsSoundWord InValue o.word → IsSoundProperty InValue o.ident o.values → IsSoundNode InValue o.properties → IsSoundTree InValue o.tree → IsSound (moved InValue (led AfterBackslash Other c o))
  value_next c k w p q t = record { word = word_plain c o.word k w; property = p; properties = q; tree = t; outer = h }

  pub led_sound : (P : ParserState) (s : Sign) (c : ℕ) → Means s c → IsSoundWord P o.word → IsSoundProperty P o.ident o.values → IsSoundNode P o.properties → IsSoundTree P o.tree → LedSound o P s c (transition P s)
  led_sound AfterOpen White c m w p q t = record { word = w; property = p; properties = q; tree = t; outer = h }
  led_sound AfterOpen Semicolon c m w p q t = tt
  led_sound AfterOpen _ c m w p q t = tt
  led_sound AfterSemicolon White c m w p q t = record { word = w; property = p; properties = q; tree = t; outer = h }
  led_sound AfterSemicolon Upper c m w p q t = record { word = (upper_more c o.word m.0 (no_upper o.word w), λ _. some_more c o.word); property = p; properties = q; tree = t; outer = h }
  led_sound AfterSemicolon Lower c m w p q t = record { word = (no_upper o.word w, λ e. absurd cc); property = p; properties = q; tree = t; outer = h }
  led_sound AfterSemicolon _ c m w p q t = tt
  led_sound (InIdent has) Upper c m w p q t = record { word = (upper_more c o.word m.0 w.0, λ _. some_more c o.word); property = p; properties = q; tree = t; outer = h }
  led_sound (InIdent has) Lower c m w p q t = record { word = w; property = p; properties = q; tree = t; outer = h }
  led_sound (InIdent true) White c m w p q t = record { word = refl; property = (ident_good o.word (w.1 refl) w.0, p); properties = q; tree = t; outer = h }
  led_sound (InIdent true) OpenSquare c m w p q t = record { word = λ rest. refl; property = (ident_good o.word (w.1 refl) w.0, no_values o.values p); properties = q; tree = t; outer = h }
  led_sound (InIdent _) _ c m w p q t = tt
  led_sound AfterIdent White c m w p q t = record { word = w; property = p; properties = q; tree = t; outer = h }
  led_sound AfterIdent OpenSquare c m w p q t = record { word = no_word o.word w; property = (p.0, no_values o.values p.1); properties = q; tree = t; outer = h }
  led_sound AfterIdent _ c m w p q t = tt
  led_sound InValue Backslash c m w p q t = record { word = word_slash c o.word m w; property = p; properties = q; tree = t; outer = h }
  led_sound InValue CloseSquare c m w p q t = record { word = refl; property = (p.0, values_more o.values o.word p.1 (value_good o.word w), some_values o.values o.word); properties = q; tree = t; outer = h }
  led_sound InValue White c m w p q t = value_next c (plain_white c m) w p q t
  led_sound InValue Upper c m w p q t = value_next c (plain_letter c m.1) w p q t
  led_sound InValue Lower c m w p q t = value_next c (plain_letter c m.1) w p q t
  led_sound InValue OpenRound c m w p q t = value_next c (plain_at c 40 m (refl, refl)) w p q t
  led_sound InValue CloseRound c m w p q t = value_next c (plain_at c 41 m (refl, refl)) w p q t
  led_sound InValue Semicolon c m w p q t = value_next c (plain_at c 59 m (refl, refl)) w p q t
  led_sound InValue OpenSquare c m w p q t = value_next c (plain_at c 91 m (refl, refl)) w p q t
  led_sound InValue Other c m w p q t = value_next c m w p q t
  led_sound AfterBackslash White c m w p q t = record { word = word_escaped c o.word w; property = p; properties = q; tree = t; outer = h }
  led_sound AfterBackslash _ c m w p q t = record { word = word_escaped c o.word w; property = p; properties = q; tree = t; outer = h }
  led_sound AfterValue White c m w p q t = record { word = w; property = p; properties = q; tree = t; outer = h }
  led_sound AfterValue OpenSquare c m w p q t = record { word = no_word o.word w; property = (p.0, p.1); properties = q; tree = t; outer = h }
  led_sound AfterValue Upper c m w p q t = record { word = (upper_more c o.word m.0 (no_upper o.word w), λ _. some_more c o.word); property = refl; properties = value_node o.ident o.values o.properties p q; tree = t; outer = h }
  led_sound AfterValue Lower c m w p q t = record { word = (no_upper o.word w, λ e. absurd cc); property = refl; properties = value_node o.ident o.values o.properties p q; tree = t; outer = h }
  led_sound AfterValue _ c m w p q t = tt
  led_sound AfterChild White c m w p q t = record { word = w; property = p; properties = q; tree = t; outer = h }
  led_sound AfterChild OpenRound c m w p q t = tt
  led_sound AfterChild _ c m w p q t = tt

-- ---- a tree that opens, a node that begins, a tree that ends

module _ (w i : List ℕ) (vs : List (List ℕ)) (ps : List Property) (t : GameTree) (os : List GameTree) (n : ℕ) (h : IsTrue (list_all is_tree os)) where
  begun_at : (P : ParserState) → IsSoundWord P w → IsSoundProperty P i vs → IsSoundNode P ps → IsSoundTree P t → can_begin P ≡ true → IsSound (begun_in (node_ended P (open_at P w i vs ps t os n)))
  begun_at AfterOpen a p q r c = search rules
  begun_at AfterSemicolon a p q r c = record { word = a; property = p; properties = refl; tree = (all_nodes t.nodes ps r.0 q, r.1); outer = h }
  begun_at AfterValue a p q r c = record { word = a; property = refl; properties = refl; tree = (all_nodes t.nodes (added ps i vs) r.0 (value_node i vs ps p q), r.1); outer = h }
  begun_at AfterChild a p q r c = absurd cc
  begun_at (InIdent has) a p q r c = absurd cc
  begun_at AfterIdent a p q r c = absurd cc
  begun_at InValue a p q r c = absurd cc
  begun_at AfterBackslash a p q r c = absurd cc

  opened_at : (P : ParserState) → IsSoundWord P w → IsSoundProperty P i vs → IsSoundNode P ps → IsTrue (is_tree (node_ended P (open_at P w i vs ps t os n)).tree) → can_close P ≡ true → IsSound (opened_in (node_ended P (open_at P w i vs ps t os n)))
  opened_at AfterSemicolon a p q r c = record { word = a; property = p; properties = refl; tree = refl; outer = and_from (is_tree (with_node t ps)) (list_all is_tree os) r h }
  opened_at AfterValue a p q r c = record { word = a; property = refl; properties = refl; tree = refl; outer = and_from (is_tree (with_node t (added ps i vs))) (list_all is_tree os) r h }
  opened_at AfterChild a p q r c = record { word = a; property = p; properties = q; tree = refl; outer = and_from (is_tree t) (list_all is_tree os) r h }
  opened_at AfterOpen a p q r c = absurd cc
  opened_at (InIdent has) a p q r c = absurd cc
  opened_at AfterIdent a p q r c = absurd cc
  opened_at InValue a p q r c = absurd cc
  opened_at AfterBackslash a p q r c = absurd cc

  closed_at : (P : ParserState) → IsSoundWord P w → IsSoundProperty P i vs → IsSoundNode P ps → can_close P ≡ true → (around : GameTree) (others : List GameTree)
      → IsTrue (is_tree (with_child around (node_ended P (open_at P w i vs ps t os n)).tree)) → IsTrue (list_all is_tree others) → IsSound (closed_in (node_ended P (open_at P w i vs ps t os n)) around others)
  closed_at P h g e f around others i j = search rules

child_good : (around t : GameTree) → IsTrue (is_tree around) → IsTrue (is_tree t) → IsTrue (is_tree (with_child around t))
child_good around t h g = grind (arith, nat_tests, and_parts, and_from, join_good)

module _ (o : Parser) (s : IsSound o) where
  ended : can_close o.state ≡ true → IsTrue (is_tree (node_ended o.state o).tree)
  ended c = ended_good o.state o.word o.ident o.values o.properties o.tree o.outer o.nodes s.property s.properties s.tree c

  pub begun_sound : can_begin o.state ≡ true → IsSound (begun_in (node_ended o.state o))
  begun_sound c = begun_at o.word o.ident o.values o.properties o.tree o.outer o.nodes s.outer o.state s.word s.property s.properties s.tree c

  pub opened_sound : can_close o.state ≡ true → IsSound (opened_in (node_ended o.state o))
  opened_sound c = opened_at o.word o.ident o.values o.properties o.tree o.outer o.nodes s.outer o.state s.word s.property s.properties (ended c) c

  pub closed_sound : can_close o.state ≡ true → (around : GameTree) (others : List GameTree) → o.outer ≡ around ∷ others → IsSound (closed_in (node_ended o.state o) around others)
  closed_sound h around others g = grind (arith, nat_tests, and_parts, closed_at, child_good, ended)
