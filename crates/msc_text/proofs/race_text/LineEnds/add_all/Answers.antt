use Rattle.std.proofs.Common.{◌∙◌, ap, sym, subst, arith}
use Rattle.std.proofs.lemmas.List.{take_all}
use Rattle.std.specs.List.{flat_map}
use Rattle.texts.specs.Writing.{Buffers, Adds}
use Rattle.msc_text.proofs.RaceTexts.{range_lines, lines_of_ranges}
use Rattle.texts.proofs.Writes.{buffers_more_read, adds_in_read}
use Rattle.msc_text.proofs.race_text.LineEnds.add_all.Goals as goal

pub loop-range-preserved : goal.loop-range-preserved
loop-range-preserved g c =
    (buffers_more_read (range_lines c.args.self.now.front c.args.self.now.end) c.args.earlier.now c.loop-range.range-index c.range-item.result c.loop-range-test.true c.range-item.is c.loop-range.invariant.0 c.in_ok-add_range.ensures.text, c.add_range.ensures.made)

pub returns-in_err-add_range : goal.returns-in_err-add_range
returns-in_err-add_range g c =
    subst (Adds _ _ _ _) (sym (lines_of_ranges c.args.self.now.front c.args.self.now.end c.args.earlier.now))
    (adds_in_read (range_lines c.args.self.now.front c.args.self.now.end) c.from_residual.result c.args.earlier.now c.loop-range.range-index c.range-item.result c.from_residual.ensures.0 c.loop-range-test.true c.range-item.is c.loop-range.invariant.0 c.in_err-add_range.ensures.text)

pub returns : goal.returns
returns g c =
    let front = c.args.self.now.front in
    let end = c.args.self.now.end in
    let ranges = c.args.earlier.now in
    let whole = take_all c.loop-range.range-index ranges (omega (arith, c.loop-range-test.false)) in
    subst (Buffers g.W.Out.sink c.args.text.now c.loop-range.text) (ap (flat_map (range_lines front end)) whole ∙ sym (lines_of_ranges front end ranges)) c.loop-range.invariant.0
