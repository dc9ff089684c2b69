use Rattle.std.proofs.Common.{arith}
use Rattle.std.proofs.lemmas.Result.{err_from_is_err_and}
use Rattle.msc_text.proofs.ReaderLemmas.OneLook.{goes_first, may_be_built, goes_on, line_stops, ends_well, ends_badly, event_right, event_read}
use Rattle.msc_text.proofs.reader.reading.one_look.Goals as goal
use Rattle.msc_text.proofs.reader.reading.one_look.Goals.{in-Some-event_in+in_ok-add_event, in_default-event_in+in_ok-more}

pub lines-init : goal.lines-init
lines-init c = record { goes = rw (c.new-names.ensures, c.new-builder.ensures) (goes_first c.args.known.now c.args.bytes.now c.requires); number = omega arith }

pub returns-in_err-names-clause-looks : goal.returns-in_err-names-clause-looks
returns-in_err-names-clause-looks c =
    let goes = rw c.in_default.ensures.no_line at c.lines.invariant.goes in
    let here = rw c.in_default.ensures.all_end at goes in
    let p = err_from_is_err_and c.from_residual.result c.from_residual.ensures.1 in
    rw (p.1, p.2) (ends_badly _ _ _ _ _ _ _ _ here c.in_err-names.ensures)

pub returns-in_default-clause-looks : goal.returns-in_default-clause-looks
returns-in_default-clause-looks c =
    let goes = rw c.in_default.ensures.no_line at c.lines.invariant.goes in
    let here = rw c.in_default.ensures.all_end at goes in
    rw c.into_lines.ensures.lines (ends_well _ _ _ _ _ _ _ _ here c.in_ok-names.ensures)

pub add_event-requires-clause-right : goal.add_event-requires-clause-right
add_event-requires-clause-right c =
    let event = rw c.open_region-region.ensures at c.in-Some-event_in.ensures in
    event_right _ _ _ _ _ _ _ event (may_be_built _ _ _ _ _ _ _ _ _ (rw c.in-Some.ensures.line at c.lines.invariant.goes))

pub with_line-requires : goal.with_line-requires
with_line-requires c = may_be_built _ _ _ _ _ _ _ _ _ (rw c.in-Some.ensures.line at c.lines.invariant.goes)

pub returns-in_err-more-clause-looks : goal.returns-in_err-more-clause-looks
returns-in_err-more-clause-looks c =
    let goes = rw c.in-Some.ensures.line at c.lines.invariant.goes in
    let p = err_from_is_err_and c.from_residual-in_err-more.result c.from_residual-in_err-more.ensures.1 in
    rw (p.1, p.2) (line_stops _ _ _ _ _ _ _ _ _ _ goes c.in_err-more.ensures)

pub lines-preserved : goal.lines-preserved
lines-preserved c =
    let goes = rw c.in-Some.ensures.line at c.lines.invariant.goes in
    record {
      goes = elim c.match-event_in.branch [
        | in-Some-event_in+in_ok-add_event w ↦ (
            let event = rw c.open_region-region.ensures at w.in-Some-event_in.ensures in
            let read = event_read _ _ _ _ _ _ _ _ _ event w.in_ok-add_event.ensures in
            rw (w.names-is, w.builder-is, w.state-is, ← c.in-Some.ensures.end) (goes_on _ _ _ _ _ _ _ _ _ _ _ _ goes read))
        | in_default-event_in+in_ok-more w ↦ (
            rw (w.names-is, w.builder-is, w.state-is, ← c.in-Some.ensures.end) (goes_on _ _ _ _ _ _ _ _ _ _ _ _ goes w.in_ok-more.ensures))
      ];
      number = omega (arith, c.in-Some.ensures.shorter);
    }
