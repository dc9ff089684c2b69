-- What a contract sees of a recorder, and how each event changes it (vector time: after Fidge 1988 and Mattern 1989;
-- races: this project's profile).
use Rattle.std.specs.Prelude.{◌≡◌, ℕ, ◌+◌, ◌-◌, List, [], ◌∷◌, ◌++◌, length, map, max, replicate, All}
use Rattle.chart.specs.Words.{Instance, Name, Clock}
use Rattle.chart.specs.declared.event.Event.{Event}
use Rattle.chart.specs.Events.{send_event, receive_event}
use Rattle.chart.specs.Charts.{LineView}
use Rattle.chart.specs.Order.{AreLineRaces}
use Rattle.chart.specs.Reports.{ReportView}
use Rattle.clock.specs.Clocks.{entry_of, with_entry, merged}

-- an instance's line, how many events it knows of each instance, and the reports of its receives. `room`: the number of
-- further events for which room was made on the line
pub record RecorderView : Type 0 where
  pub line : LineView
  pub knowledge : Clock
  pub reports : List ReportView
  pub room : ℕ

-- instance p of n, before its first event
abbrev pub new_recorder : ℕ → ℕ → RecorderView
new_recorder p n = record {
  line = record { instance = p; events = [] };
  knowledge = replicate n 0;
  reports = [];
  room = 0;
}

-- the line with one more event
abbrev pub with_event : LineView → Event → LineView
with_event l m = record { instance = l.instance; events = l.events ++ m ∷ [] }

-- the clock of the next event, if it is a send: what is known, with the event itself
abbrev pub send_clock : RecorderView → Clock
send_clock r = with_entry r.knowledge r.line.instance (length r.line.events + 1)

-- after a send, which is part of the knowledge from then on
abbrev pub after_send : RecorderView → ℕ → Name → RecorderView
after_send r to name = record {
  line = with_event r.line (send_event to name);
  knowledge = send_clock r;
  reports = r.reports;
  room = r.room - 1;
}

-- with everything ready for a send, which is part of the knowledge already, but isn't on the line yet
abbrev pub begun_send : RecorderView → RecorderView
begun_send r = record {
  line = r.line;
  knowledge = send_clock r;
  reports = r.reports;
  room = max r.room 1;
}

-- after this send is on the line too
abbrev pub after_begun : RecorderView → ℕ → Name → RecorderView
after_begun r to name = record {
  line = with_event r.line (send_event to name);
  knowledge = r.knowledge;
  reports = r.reports;
  room = r.room - 1;
}

-- after a receive with this report, before the message's clock is merged
abbrev pub after_report : RecorderView → ℕ → Name → ℕ → ReportView → RecorderView
after_report r from name region report = record {
  line = with_event r.line (receive_event from name region);
  knowledge = r.knowledge;
  reports = r.reports ++ report ∷ [];
  room = r.room - 1;
}

-- after a receive of a message with this clock, and with this report
abbrev pub after_receive : RecorderView → Instance → Name → ℕ → Clock → ReportView → RecorderView
after_receive r from name region clock report = record {
  line = with_event r.line (receive_event from name region);
  knowledge = merged r.knowledge clock;
  reports = r.reports ++ report ∷ [];
  room = r.room - 1;
}

-- the report of the next event, if it is a receive whose send knows `entry` events of this line: the races later than
-- these
pub record IsReportAbove (r : RecorderView) (from region entry : ℕ) (report : ReportView) : Type 0 where
  pub receive : report.receive ≡ record { instance = r.line.instance; index = length r.line.events + 1 }
  pub races : AreLineRaces r.line.events entry from region (map (λ race. race.index) report.earlier)
  pub own : All (λ race. race.instance ≡ r.line.instance) report.earlier

-- the report of the next event, if it is a receive of a message with this clock: the races later than the clock's own
-- entry for this line
pub record IsReportOf (r : RecorderView) (from region : ℕ) (clock : Clock) (report : ReportView) : Type 0 where
  pub receive : report.receive ≡ record { instance = r.line.instance; index = length r.line.events + 1 }
  pub races : AreLineRaces r.line.events (entry_of clock r.line.instance) from region
      (map (λ race. race.index) report.earlier)
  pub own : All (λ race. race.instance ≡ r.line.instance) report.earlier

-- after a send of each name, one after another
abbrev pub after_sends : RecorderView → ℕ → List Name → RecorderView
after_sends r to [] = r
after_sends r to (name ∷ names) = after_sends (after_send r to name) to names

-- the clocks of those sends
abbrev pub send_clocks : RecorderView → ℕ → List Name → List Clock
send_clocks r to [] = []
send_clocks r to (name ∷ names) = send_clock r ∷ send_clocks (after_send r to name) to names

-- with room for at least this many events
abbrev pub with_room : RecorderView → ℕ → RecorderView
with_room r events = record r { room = max r.room events }
