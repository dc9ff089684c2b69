-- What a line of a log records (after the convention of ShiViz: each event of a host is a line, in their order).
use Rattle.std.specs.Prelude.{◌<◌, Bool, true, false, List, length, All}
use Rattle.log_chart.specs.declared.entry.Entry.{Entry}
use Rattle.log_chart.specs.declared.entry.Kind.{Kind}
use Rattle.log_chart.specs.declared.entry.Kind.TheVariants.{Send, Receive, Freed}

abbrev pub is_send : Kind → Bool
is_send Send = true
is_send Receive = false
is_send Freed = false

-- it takes a send of the log
abbrev pub takes : Kind → Bool
takes Send = false
takes Receive = true
takes Freed = false

-- there are no more streams than lines
abbrev pub HaveStreams : List Entry → Type 0
HaveStreams log = All (λ e. e.stream < length log) log
