use Rattle.std.proofs.Common.{ℕ, List, get_or, [], ◌∷◌, ◌++◌, sym, ap, ◌∙◌}
use Rattle.std.proofs.lemmas.Option.{none-some, slice_get-get_or, get_or_from_slice_get}
use Rattle.diagram_join.proofs.instances.add_listed.Goals as goal

pub unreachable-requires : goal.unreachable-requires
unreachable-requires c =
    none-some (get_or c.args.names.now c.args.place [])
    (sym c.in_default.is ∙ c.name.ensures c.args.place c.at_place.ensures ∙ slice_get-get_or c.args.names.now c.args.place [] c.requires)

pub returns : goal.returns
returns c =
    c.in_ok-push.ensures.items
    ∙ ap (λ (name : List ℕ). c.args.listed.now.items ++ name ∷ []) (sym (get_or_from_slice_get c.args.names.now c.args.place c.in-Some.name [] (sym (c.name.ensures c.args.place c.at_place.ensures) ∙ c.in-Some.is)))
