-- The warnings that name lines of a log, or events of its chart.
use Rattle.std.specs.Prelude.{ℕ, List, ◌++◌, codes, decimal}
use Rattle.chart.specs.declared.instance.EventNo.{EventNo}
use Rattle.texts.specs.Instances.{name_at}
use Rattle.log_lines.specs.declared.event.Place.{Place}
use Rattle.log_text.specs.Spots.{SpotView, spot}
use Rattle.cmd_import_log.specs.declared.answers.overtaking.Overtaking.{Overtaking}

-- a line whose message is lost
unfoldable pub lost_line : SpotView → List ℕ
lost_line s = s.front ++ (s.separator ++ (decimal s.line ++ codes " is lost\n"))

abbrev pub lost_text : List (List ℕ) → Place → List ℕ
lost_text files place = lost_line (spot files place)

-- a line whose receive is freed of its send
unfoldable pub freed_line : SpotView → List ℕ
freed_line s = s.front ++ (s.separator ++ (decimal s.line ++ codes " takes no send of the log, for it would close a cycle\n"))

abbrev pub freed_text : List (List ℕ) → Place → List ℕ
freed_text files place = freed_line (spot files place)

-- a line whose message overtakes another one
unfoldable pub overtaking_line : SpotView → SpotView → List ℕ
overtaking_line s t =
    s.front ++ (s.separator ++ (decimal s.line ++ (codes " overtakes " ++ (t.front ++ (t.separator ++ (decimal t.line
    ++ codes ": this lane isn't first in, first out\n"))))))

abbrev pub overtaking_text : List (List ℕ) → Overtaking → List ℕ
overtaking_text files o = overtaking_line (spot files o.line) (spot files o.overtaken)

-- an invented send
unfoldable pub invented_line : List ℕ → ℕ → List ℕ
invented_line name n = name ++ (codes " " ++ (decimal n ++ codes " is invented: the log begins in the middle\n"))

abbrev pub invented_text : List (List ℕ) → EventNo → List ℕ
invented_text names e = invented_line (name_at names e.instance) e.index
