-- What a recording shows besides its chart, as contracts see it (this project's profile of logs).
use Rattle.std.specs.Prelude.{ℕ, List, map}
use Rattle.log_chart.specs.declared.item.Item.{Item}
use Rattle.log_chart.specs.declared.matching.LogLine.{LogLine}
use Rattle.race_verdicts.specs.declared.recording.Arrival.{Arrival}
use Rattle.race_verdicts.specs.declared.recording.LineWords.{LineWords}
use Rattle.race_verdicts.specs.declared.recording.Pattern.{Pattern}
use Rattle.race_verdicts.specs.declared.recording.Recording.{Recording}
use Rattle.race_verdicts.specs.declared.recording.Taken.{Taken}

pub record PatternView : Type 0 where
  pub peer : List ℕ
  pub names : List ℕ

abbrev pub pattern_view : Pattern → PatternView
pattern_view p = record { peer = p.peer.now; names = p.names.now }

pub record TakenView : Type 0 where
  pub line : ℕ
  pub pattern : PatternView

abbrev pub taken_view : Taken → TakenView
taken_view t = record { line = t.line; pattern = pattern_view t.pattern }

pub record WordsView : Type 0 where
  pub host : List ℕ
  pub peer : List ℕ
  pub name : List ℕ

abbrev pub words_view : LineWords → WordsView
words_view w = record { host = w.host.now; peer = w.peer.now; name = w.name.now }

pub record RecordingView : Type 0 where
  pub lines : List LogLine
  pub hosts : List (List Item)
  pub words : List WordsView
  pub taken : List TakenView
  pub arrivals : List Arrival

abbrev pub recording_view : Recording → RecordingView
recording_view r = record {
  lines = r.lines.now;
  hosts = r.hosts.now;
  words = map words_view r.words.now;
  taken = map taken_view r.taken.now;
  arrivals = r.arrivals.now;
}
