use Rattle.std.proofs.Common.{◌≡◌, ◌≤◌, length, subst, sym, arith}
use Rattle.chart.specs.Events.{is_receive_from, is_in}
use Rattle.chart.specs.Runs.{EndsWithRun}
use Rattle.chart.proofs.LastRuns.{ends_asked, ends_asked_not}
use Rattle.chart.proofs.growing_line.GrowingLine.receive_starts.Goals as goal
use Rattle.chart.proofs.growing_line.GrowingLine.receive_starts.Goals.{then-is_receive_from, else-is_receive_from}

pub returns-then-is_in-clause-run : goal.returns-then-is_in-clause-run
returns-then-is_in-clause-run c =
    let line = c.args.self.now.line.events in
    let n = c.len-length.result in
    let begun : 1 ≤ n = omega (arith, c.if-length-eq0.false) in
    elim c.if-is_receive_from.branch [
      | then-is_receive_from w ↦ subst (EndsWithRun (is_receive_from c.args.sender) line) (sym w.result-is) (ends_asked is_receive_from c.args.sender line n w.run_start.result c.is_receive_from.result c.len-length.ensures.value begun c.is_receive_from.ensures w.if-is_receive_from.true w.run_start.ensures)
      | else-is_receive_from w ↦ subst (EndsWithRun (is_receive_from c.args.sender) line) (sym w.result-is) (ends_asked_not is_receive_from c.args.sender line n c.is_receive_from.result c.len-length.ensures.value begun c.is_receive_from.ensures w.if-is_receive_from.false)
    ]

pub returns-then-is_in-clause-region : goal.returns-then-is_in-clause-region
returns-then-is_in-clause-region c =
    let line = c.args.self.now.line.events in
    let n = c.len-length.result in
    let begun : 1 ≤ n = omega (arith, c.if-length-eq0.false) in
    ends_asked is_in c.args.region line n c.region_start.result c.is_in.result c.len-length.ensures.value begun c.is_in.ensures c.if-is_in.true c.region_start.ensures

pub returns-else-is_in-clause-run : goal.returns-else-is_in-clause-run
returns-else-is_in-clause-run c =
    let line = c.args.self.now.line.events in
    let n = c.len-length.result in
    let begun : 1 ≤ n = omega (arith, c.if-length-eq0.false) in
    elim c.if-is_receive_from.branch [
      | then-is_receive_from w ↦ subst (EndsWithRun (is_receive_from c.args.sender) line) (sym w.result-is) (ends_asked is_receive_from c.args.sender line n w.run_start.result c.is_receive_from.result c.len-length.ensures.value begun c.is_receive_from.ensures w.if-is_receive_from.true w.run_start.ensures)
      | else-is_receive_from w ↦ subst (EndsWithRun (is_receive_from c.args.sender) line) (sym w.result-is) (ends_asked_not is_receive_from c.args.sender line n c.is_receive_from.result c.len-length.ensures.value begun c.is_receive_from.ensures w.if-is_receive_from.false)
    ]

pub returns-else-is_in-clause-region : goal.returns-else-is_in-clause-region
returns-else-is_in-clause-region c =
    let line = c.args.self.now.line.events in
    let n = c.len-length.result in
    let begun : 1 ≤ n = omega (arith, c.if-length-eq0.false) in
    ends_asked_not is_in c.args.region line n c.is_in.result c.len-length.ensures.value begun c.is_in.ensures c.if-is_in.false
