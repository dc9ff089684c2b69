use Rattle.std.proofs.Common.{◌≡◌, ◌∙◌, ◌++◌, length, map, sym, arith}
use Rattle.chart.specs.Events.{send_event}
use Rattle.line_recorder.specs.Sends.{known_after}
use Rattle.line_recorder.proofs.SendsLemmas.{send_clocks_are, is_after_sends}
use Rattle.line_recorder.proofs.recorder.Recorder.send_many.Goals as goal

pub returns-clause-ok : goal.returns-clause-ok
returns-clause-ok c =
    let before = c.self.inside.line.line in
    let is_line : c.push_sends.new.self.line ≡ record { instance = before.instance; events = before.events ++ map (send_event c.args.to) c.args.names.now } = c.in_ok-push_sends.ensures.ok in
    let is_known : c.in_ok-known.known ≡ known_after c.args.self.now (length c.args.names.now) = c.in_ok-known.ensures in
    rw (← c.self.view_is) (is_after_sends (record { line = before; knowledge = c.self.inside.knowledge; reports = c.self.inside.reports.reports; room = c.self.inside.room }) c.args.to c.args.names.now c.push_sends.new.self.line c.in_ok-known.known c.saturating_sub-self-inside.result is_line (rw (← c.self.view_is) at is_known) (omega arith))

pub returns-clause-clocks : goal.returns-clause-clocks
returns-clause-clocks c = c.in_ok-clocks.ensures ∙ sym (send_clocks_are c.args.self.now c.args.to c.args.names.now)
