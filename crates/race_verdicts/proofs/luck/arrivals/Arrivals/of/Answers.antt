use Rattle.race_verdicts.specs.Luck.Arrivals.{of_stream, receives, is_left}
use Rattle.race_verdicts.proofs.LuckLemmas.ArrivalLemmas.{waiting_begins}
use Rattle.race_verdicts.proofs.luck.arrivals.Arrivals.of.Goals as goal

pub arrivals_of-requires-clause-waiting : goal.arrivals_of-requires-clause-waiting
arrivals_of-requires-clause-waiting c =
    let lines = c.args.recording.lines.now in
    record {
      received_lists = of_stream receives lines;
      left_lists = of_stream (is_left lines) lines;
      received_are = c.in_ok-received.ensures;
      left_are = c.in_ok-left.ensures;
      both = waiting_begins lines c.args.recording.arrivals.now;
    }
