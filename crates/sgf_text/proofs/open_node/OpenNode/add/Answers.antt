use Rattle.sgf_text.proofs.Common.{◌≡◌, ◌<◌, ◌≤◌, ◌-◌, [], ◌∷◌, ◌++◌, length, sym, ap, ◌∙◌, subst, rules, Updates, bytes_order, position, Some, None, bytes_eq, is_named, ArePlaces, added, names_of}
use Rattle.std.specs.Prelude.{drop}
use Rattle.sgf_text.proofs.AddedLemmas.{property, added_none, appended_at, on_ok_map}
use Rattle.sgf_text.proofs.FewNames.{names_set_behind, places_noted}
use Rattle.sgf_text.proofs.open_node.OpenNode.add.Goals as goal

pub invariant_of-self : goal.invariant_of-self
invariant_of-self c name =
    c.self.invariant name
    ∙ ap (position (bytes_eq name)) (sym (names_set_behind 8 c.self.inside.properties.items c.in-Some.place c.index_mut.result.now c.append.new.self c.index_mut.ensures.value))

pub returns-in-Some : goal.returns-in-Some
returns-in-Some c =
    let place : position (is_named c.args.ident) c.self.inside.properties.items ≡ Some c.in-Some.place =
    ap (position (is_named c.args.ident)) c.self.view_is ∙ sym c.in-Some.ensures in
    on_ok_map c.append.result _ _
    (appended_at c.args.self.now c.self.inside.properties.items c.args.ident c.args.values c.append.new.self c.in-Some.place c.index_mut.result.now c.self.view_is place c.index_mut.ensures.value)
    c.append.ensures

pub invariant_of-self-else-is_err : goal.invariant_of-self-else-is_err
invariant_of-self-else-is_err c =
    let none : position (is_named c.args.ident) c.self.inside.properties.items ≡ None =
    ap (position (is_named c.args.ident)) c.self.view_is ∙ sym c.in_default.ensures in
    let pushed : c.push.new.self.items ≡ c.self.inside.properties.items ++ property c.args.ident c.args.values ∷ [] = search rules in
    let few : length c.self.inside.properties.items < 8 → c.note_place.new.places ≡ c.self.inside.places = search rules in
    let more : 8 ≤ length c.self.inside.properties.items → Updates bytes_order c.self.inside.places c.note_place.new.places c.args.ident (Some (length c.self.inside.properties.items - 8)) = search rules in
    subst (λ ps. ArePlaces c.note_place.new.places (names_of (drop 8 ps))) (sym pushed)
    (places_noted c.self.inside.places c.note_place.new.places 8 c.self.inside.properties.items (property c.args.ident c.args.values) c.self.invariant none few more)

pub returns : goal.returns
returns c =
    let none : position (is_named c.args.ident) c.self.inside.properties.items ≡ None =
    ap (position (is_named c.args.ident)) c.self.view_is ∙ sym c.in_default.ensures in
    let pushed : c.push.new.self.items ≡ c.self.inside.properties.items ++ property c.args.ident c.args.values ∷ [] = search rules in
    pushed ∙ sym (added_none c.self.inside.properties.items c.args.ident c.args.values none) ∙ ap (λ ps. added ps c.args.ident c.args.values) c.self.view_is
