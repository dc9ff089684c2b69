use Rattle.std.proofs.Common.{◌∙◌, get_or, [], arith}
use Rattle.std.proofs.lemmas.Option.{none-some, slice_get-get_or}
use Rattle.fault_places.proofs.step.name_of.Goals as goal

pub unreachable-requires : goal.unreachable-requires
unreachable-requires c =
    none-some (get_or c.args.names.now c.place-place.result [])
    (c.in-None.ensures c.place-place.result c.place-place.ensures.value ∙ slice_get-get_or c.args.names.now c.place-place.result [] (omega (arith, c.requires, c.place-place.ensures.value)))
