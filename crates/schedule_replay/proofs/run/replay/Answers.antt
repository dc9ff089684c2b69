use Rattle.std.proofs.Common.{length, sym, ap, ◌∙◌, subst}
use Rattle.chart.proofs.HistoryLines.{length-history_lines}
use Rattle.schedule.specs.Outcomes.Outcomes.{IsOutcome}
use Rattle.schedule.specs.Meaning.{after}
use Rattle.schedule_replay.proofs.run.replay.Goals as goal

pub new-requires : goal.new-requires
new-requires c =
    let board = c.in_ok-board.board.board in
    let its = c.in_ok-board.ensures in
    let come = c.in_ok-gathered.ensures board (record { sized = rw (its.size, its.capacity) its.sized; new = c.in_ok-posts.ensures }) in
    record {
      as_many = ap length c.names.ensures.value ∙ sym its.size ∙ sym (length-history_lines board.size (after board.size board.capacity c.commands.result.now).run.history) ∙ ap length (sym come.chart);
      exact = come.reports;
    }

pub returns : goal.returns
returns c =
    let board = c.in_ok-board.board.board in
    let its = c.in_ok-board.ensures in
    let come = c.in_ok-gathered.ensures board (record { sized = rw (its.size, its.capacity) its.sized; new = c.in_ok-posts.ensures }) in
    subst (IsOutcome c.args.schedule.now) (sym c.new.ensures) (record {
      names = c.names.ensures.value;
      chart = rw (its.size, its.capacity, c.commands.ensures.value) at come.chart;
      reports = come.reports;
      notes = rw (its.size, its.capacity, c.commands.ensures.value) at come.notes;
    })
