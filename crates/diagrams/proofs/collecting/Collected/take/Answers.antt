use Rattle.std.proofs.Common.{◌≡◌, ◌<◌, length, refl}
use Rattle.std.specs.Prelude.{slice_get, Some}
use Rattle.std.proofs.lemmas.Option.{slice_get_read}
use Rattle.diagrams.proofs.collecting.Collected.take.Goals as goal

pub returns : goal.returns
returns c =
    let within : c.args.at < length c.self.inside.waiting.items = rw (← c.self.view_is) at c.requires in
    let first : slice_get c.self.inside.waiting.items c.args.at ≡ Some c.index.result.now = slice_get_read c.self.inside.waiting.items _ c.args.at c.index.result.now refl within c.index.ensures in
    rw (← c.self.view_is, first, c.receive.ensures, c.remove.ensures.items) refl
