use Rattle.std.proofs.Common.{[], ◌∷◌, ◌++◌, sym, ap, subst}
use Rattle.std.specs.List.{flat_map}
use Rattle.texts.specs.Writing.{Adds}
use Rattle.races_text.specs.Named.JsonText.{next_text}
use Rattle.races_text.proofs.NamedLemmas.FoundRaces.{taken_one, adds_next, stops_at_next}
use Rattle.races_text.proofs.named.json.add_others.Goals as goal

pub loop-range-preserved : goal.loop-range-preserved
loop-range-preserved g c =
    let so_far = c.loop-range.invariant in (
      so_far.0 ++ c.in-Some.range ∷ [],
      taken_one c.args.ranges so_far.0 c.loop-range.ranges c.next_range.new.self c.in-Some.range so_far.1 c.in-Some.ensures.ranges,
      adds_next (next_text c.args.events.now) so_far.0 c.in-Some.range so_far.2 c.in_ok-add_next.ensures,
    )

pub returns-in_err-add_next : goal.returns-in_err-add_next
returns-in_err-add_next g c =
    let so_far = c.loop-range.invariant in
    let all = taken_one c.args.ranges so_far.0 c.loop-range.ranges c.next_range.new.self c.in-Some.range so_far.1 c.in-Some.ensures.ranges in
    subst (Adds g.W.Out.sink c.args.text.now c.add_next.new.text c.from_residual.result) (ap (flat_map (next_text c.args.events.now)) (sym all))
    (stops_at_next (next_text c.args.events.now) c.from_residual.result so_far.0 c.in-Some.range c.next_range.new.self c.from_residual.ensures.0 so_far.2 c.in_err-add_next.ensures)
