use Rattle.std.proofs.Common.{[], get_or, sym, ◌∙◌, arith}
use Rattle.std.proofs.lemmas.Option.{none-some, slice_get-get_or}
use Rattle.texts.proofs.instances.named.Goals as goal

pub unreachable-requires : goal.unreachable-requires
unreachable-requires c =
    let names = c.args.names.now in
    let place = c.place-place.result in
    none-some (get_or names place []) (sym c.in-None.is ∙ c.name.ensures place c.place-place.ensures.value ∙ slice_get-get_or names place [] (omega (arith, c.if-prove.false, c.len.ensures.value)))
