use Rattle.std.proofs.Common.{◌+◌, List, Some, sym, ap, ◌∙◌, subst}
use Rattle.std.proofs.lemmas.Option.{slice_get-get_or}
use Rattle.cmd_page.specs.declared.text.race.Race.{Race}
use Rattle.cmd_page.specs.Races.{AreFirst}
use Rattle.cmd_page.proofs.RaceLemmas.{races_next}
use Rattle.cmd_page.proofs.races.races_of.Goals as goal

pub loop-place-preserved : goal.loop-place-preserved
loop-place-preserved c =
    let pairs = c.args.pairs.now in
    let n = c.loop-place.place in
    let pair = c.index-pairs-place.result in
    let there = slice_get-get_or pairs n pair c.loop-place-test.true ∙ ap Some (sym c.index-pairs-place.is) in
    subst (λ (xs : List Race). AreFirst c.args.file.bytes.now (c.args.names.now, c.args.closure.now) c.args.explained pairs (n + 1) xs) (sym c.in_ok-push.ensures.items)
    (races_next c.args.file.bytes.now (c.args.names.now, c.args.closure.now) c.args.explained pairs n c.loop-place.races.items c.in_ok-race.race pair c.loop-place.invariant there c.in_ok-race.ensures)
