-- The names that several proofs of this crate cite, passed on from one place. Declares nothing.
pub use Rattle.std.proofs.Common.{◌≡◌, arith, ap, sym, ◌∙◌, ℕ, length, rules, refl, ◌∷◌, [], ◌+◌, List, take, drop, subst, suc, ◌++◌, ◌<◌, ◌≤◌, get_or, zero, ◌-◌, ◌≢◌, inl, inr, length-append}
pub use Rattle.std.proofs.Math.ListN.{drop_of_length-le}
pub use Rattle.std.proofs.Math.Seq.{drop-cons}
pub use Rattle.std.proofs.lemmas.Bool.{and_from, and_parts, eqb-true, not-true}
pub use Rattle.std.proofs.lemmas.Bool.Decides.{nat_tests}
pub use Rattle.std.proofs.lemmas.Iterator.Adapters.{position_from-zero}
pub use Rattle.std.proofs.lemmas.List.{append_assoc, append-nil, length-take, take-append-drop}
pub use Rattle.std.specs.BTreeMap.{Updates, BTreeMap}
pub use Rattle.std.specs.List.{list_all, list_any, position_from}
pub use Rattle.std.specs.Prelude.{false, true, Some, Bool, None, IsTrue, option_map, Option, flat_map, Err, Ok, cond, filter, position, ◌==◌, ◌&&◌, ◌||◌, Result, map, nat_lt, not}
pub use Rattle.std.specs.Str.{bytes_eq}
pub use Rattle.byte_writer.proofs.TakenLemmas.{next_put, then_put}
pub use Rattle.byte_writer.specs.Taken.{HasPut}
pub use Rattle.sgf_text.specs.Bytes.{is_upper, sign_of, is_white, is_letter, bytes_order, is_blank, is_lower}
pub use Rattle.sgf_text.specs.Followers.{transition, byte_limit, outcome_of, cut_fault, depth_limit, node_limit, outcome_in, tree_end}
pub use Rattle.sgf_text.specs.Grammar.{tree_place, Reads, SpellsEach, SpellsNode, joined_forest, joined_tree, starts_node, SpellsForest, SpellsProperty, SpellsValue}
pub use Rattle.sgf_text.specs.Laws.{IsWithin}
pub use Rattle.sgf_text.specs.Nodes.{is_named, is_node, is_value, is_value_after, joined, are_distinct, is_ident, is_property, values_at, without}
pub use Rattle.sgf_text.specs.OpenTrees.{Parser, added, names_of, IsSound, IsSoundNode, IsSoundProperty, node_ended, ArePlaces, begun_in, can_close, closed_in, led, opened_in, with_child, IsSoundTree, IsSoundWord, Steps, forest_join, moved, with_node}
pub use Rattle.sgf_text.specs.Text.{node_text, is_forest, is_tree, tree_text, are_nodes, forest_text, property_text, value_text, forest_depth, forest_nodes}
pub use Rattle.sgf_text.specs.Tokens.{tokens_after}
pub use Rattle.sgf_text.specs.Trees.{Node, Forest, GameTree, tree_then, no_tree, forest_of, tree_count}
pub use Rattle.sgf_text.specs.declared.fault.SgfFault.{SgfFault}
pub use Rattle.sgf_text.specs.declared.fault.SgfFault.TheVariants.{Syntax, NoTree, TooDeep, TooLong, TooMany, Memory}
pub use Rattle.sgf_text.specs.declared.followers.ParserState.{ParserState}
pub use Rattle.sgf_text.specs.declared.followers.ParserState.TheVariants.{AfterOpen, AfterChild, AfterSemicolon, AfterValue, AfterBackslash, InIdent, InValue, AfterIdent}
pub use Rattle.sgf_text.specs.declared.followers.Sign.{Sign}
pub use Rattle.sgf_text.specs.declared.followers.Sign.TheVariants.{CloseSquare, Lower, OpenSquare, Upper, Backslash, CloseRound, OpenRound, Semicolon, White, Other}
pub use Rattle.sgf_text.specs.declared.followers.Transition.{Transition}
pub use Rattle.sgf_text.specs.declared.followers.Transition.TheVariants.{To, Begins, Closes, Opens, Refused}
pub use Rattle.sgf_text.specs.declared.node.Property.{Property}
