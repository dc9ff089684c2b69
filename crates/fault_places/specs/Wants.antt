-- What may be at each place of a line of a schedule's text and of a chart's, word by word (this project's profile of
-- the instance-oriented text of ITU-T Z.120).
use Rattle.std.specs.Prelude.{ℕ, Bool, true, false, ◌||◌, List, codes, bytes_eq, Option, None, Some, is_some, if◌then◌else◌}
use Rattle.fault_places.specs.declared.want.Want.{Want}
use Rattle.fault_places.specs.declared.want.Want.TheVariants as wants
use Rattle.msc_text.specs.Reader.Steps.{name_part, is_plain}
use Rattle.texts.specs.Lines.{is_word}
use Rattle.schedule.specs.FirstLines.{is_number}

-- what may be next, if the word may be where it is
abbrev pub on : Bool → Want → Option Want
on true next = Some next
on false next = None

-- after the word for an action
unfoldable pub begins_command : List ℕ → Option Want
begins_command word =
    if bytes_eq word (codes "send") then Some wants.SendTo else (
    if bytes_eq word (codes "receive") || bytes_eq word (codes "close") then Some wants.Partner else (
    on (bytes_eq word (codes "any") || (bytes_eq word (codes "concurrent") || bytes_eq word (codes "endconcurrent"))) wants.LineEnd))

-- after the first word of a line inside an instance, if no coregion is open
unfoldable pub begins_out : List ℕ → Option Want
begins_out word =
    if bytes_eq word (codes "out") then Some wants.Sent else (
    if bytes_eq word (codes "in") then Some wants.Received else (
    on (bytes_eq word (codes "concurrent;") || bytes_eq word (codes "endinstance;")) wants.LineEnd))

-- the same in a coregion that has a receive
unfoldable pub begins_in : List ℕ → Option Want
begins_in word =
    if bytes_eq word (codes "in") then Some wants.Received else on (bytes_eq word (codes "endconcurrent;")) wants.LineEnd

-- after the first word of a line outside of an instance
unfoldable pub named_on : List ℕ → Option Want
named_on word =
    if bytes_eq word (codes "instance") then Some wants.InstanceName else on (bytes_eq word (codes "endmsc;")) wants.LineEnd

-- after a word of a chart's line
unfoldable pub chart_next : Want → List ℕ → Option Want
chart_next wants.Msc word = on (bytes_eq word (codes "msc")) wants.ChartName
chart_next wants.ChartName word = on (bytes_eq word (codes "run;")) wants.LineEnd
chart_next wants.InstanceOrEnd word = named_on word
chart_next wants.Event word = begins_out word
chart_next wants.OpenedEvent word = on (bytes_eq word (codes "in")) wants.Received
chart_next wants.HeldEvent word = begins_in word
chart_next wants.Sent word = on (is_plain word) wants.To
chart_next wants.To word = on (bytes_eq word (codes "to")) wants.Receiver
chart_next wants.Received word = on (is_plain word) wants.From
chart_next wants.From word = on (bytes_eq word (codes "from")) wants.Sender
chart_next wants.InstanceName word = on (is_some (name_part word)) wants.LineEnd
chart_next wants.Receiver word = on (is_some (name_part word)) wants.LineEnd
chart_next wants.Sender word = on (is_some (name_part word)) wants.LineEnd
chart_next _ word = None

-- what may be after a word, or none if the word itself can't be there
unfoldable pub next : Want → List ℕ → Option Want
next wants.Instances word = on (bytes_eq word (codes "instances")) wants.FirstName
next wants.FirstName word = on (is_word word) wants.OtherName
next wants.OtherName word = on (is_word word) wants.OtherName
next wants.Capacity word = on (bytes_eq word (codes "capacity")) wants.Slots
next wants.Slots word = on (is_number word) wants.LineEnd
next wants.Actor word = on (is_word word) wants.Action
next wants.Action word = begins_command word
next wants.SendTo word = on (is_word word) wants.Message
next wants.Partner word = on (is_word word) wants.LineEnd
next wants.Message word = on (is_word word) wants.LineEnd
next want word = chart_next want word
