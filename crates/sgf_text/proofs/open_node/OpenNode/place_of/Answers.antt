use Rattle.sgf_text.proofs.Common.{◌≡◌, ◌+◌, sym, ap, ◌∙◌, rules, position, Some, None, option_map, bytes_eq, is_named, names_of}
use Rattle.std.specs.Prelude.{take, drop}
use Rattle.sgf_text.proofs.FewNames.{place_behind}
use Rattle.sgf_text.proofs.open_node.OpenNode.place_of.Goals as goal

pub returns-in-Some-copied : goal.returns-in-Some-copied
returns-in-Some-copied c =
    let others : position (bytes_eq c.args.ident.now) (names_of (drop 8 c.self.inside.properties.items)) ≡ Some c.in-Some-copied.place =
    sym (c.self.invariant c.args.ident.now) ∙ sym c.get.ensures.value ∙ sym c.in-Some-copied.ensures in
    let first : position (is_named c.args.ident.now) (take 8 c.self.inside.properties.items) ≡ None = search rules in
    sym (ap (position (is_named c.args.ident.now)) (sym c.self.view_is) ∙ place_behind 8 _ c.args.ident.now first ∙ ap (option_map (λ j. 8 + j)) others)

pub returns-in-None : goal.returns-in-None
returns-in-None c =
    let others : position (bytes_eq c.args.ident.now) (names_of (drop 8 c.self.inside.properties.items)) ≡ None =
    sym (c.self.invariant c.args.ident.now) ∙ sym c.get.ensures.value ∙ sym c.in-None.ensures in
    let first : position (is_named c.args.ident.now) (take 8 c.self.inside.properties.items) ≡ None = search rules in
    sym (ap (position (is_named c.args.ident.now)) (sym c.self.view_is) ∙ place_behind 8 _ c.args.ident.now first ∙ ap (option_map (λ j. 8 + j)) others)
