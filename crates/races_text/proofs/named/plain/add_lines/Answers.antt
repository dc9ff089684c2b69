use Rattle.std.proofs.Common.{[], ◌∷◌, ◌++◌, sym, ap, subst}
use Rattle.std.specs.List.{flat_map}
use Rattle.texts.specs.Writing.{Adds}
use Rattle.races_text.specs.Named.PlainText.{line_text}
use Rattle.races_text.proofs.NamedLemmas.FoundRaces.{taken_one, adds_next, stops_at_next, has_some}
use Rattle.races_text.proofs.named.plain.add_lines.Goals as goal

pub loop-range-preserved : goal.loop-range-preserved
loop-range-preserved g c =
    let so_far = c.loop-range.invariant in (
      so_far.0 ++ c.in-Some.range ∷ [],
      taken_one c.args.ranges so_far.0 c.loop-range.ranges c.next_range.new.self c.in-Some.range so_far.1 c.in-Some.ensures.ranges,
      adds_next (line_text c.args.names.now c.args.events.now c.args.receive.now) so_far.0 c.in-Some.range so_far.2 c.in_ok-add_line.ensures,
      sym (has_some so_far.0 c.in-Some.range),
    )

pub returns-in_err-add_line-clause-lines : goal.returns-in_err-add_line-clause-lines
returns-in_err-add_line-clause-lines g c =
    let line = line_text c.args.names.now c.args.events.now c.args.receive.now in
    let so_far = c.loop-range.invariant in
    let all = taken_one c.args.ranges so_far.0 c.loop-range.ranges c.next_range.new.self c.in-Some.range so_far.1 c.in-Some.ensures.ranges in
    subst (Adds g.W.Out.sink c.args.text.now c.add_line.new.text c.from_residual.result) (ap (flat_map line) (sym all))
    (stops_at_next line c.from_residual.result so_far.0 c.in-Some.range c.next_range.new.self c.from_residual.ensures.0 so_far.2 c.in_err-add_line.ensures)
