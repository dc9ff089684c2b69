-- Which receive takes which send: along a lane by id, or by name if it has no id, in order.
use Rattle.std.specs.Prelude.{ℕ, ◌+◌, ◌==◌, ◌&&◌, List, [], ◌∷◌, Option, None, drop, if◌then◌else◌}
use Rattle.log_chart.specs.Chains.{first_of}
use Rattle.log_chart.specs.Entries.{is_send, takes}
use Rattle.log_chart.specs.declared.entry.Entry.{Entry}
use Rattle.log_chart.specs.declared.matching.LogLine.{LogLine}

-- the numbers of a stream's sends in these lines, the first of which has this number
unfoldable pub sends_from : ℕ → List Entry → ℕ → List ℕ
sends_from n [] c = []
sends_from n (e ∷ log) c = if is_send e.kind && e.stream == c then n ∷ sends_from (n + 1) log c else sends_from (n + 1) log c

-- the send that a line takes: the first of its stream's remaining sends
abbrev pub send_for : (ℕ → List ℕ) → Entry → Option ℕ
send_for left e = if takes e.kind then first_of (left e.stream) else None

-- the sends of each stream that remain after it
abbrev pub left_after : (ℕ → List ℕ) → Entry → ℕ → List ℕ
left_after left e c = if takes e.kind && e.stream == c then drop 1 (left c) else left c

-- these lines with the sends that they take
unfoldable pub matched_from : (ℕ → List ℕ) → ℕ → List Entry → List LogLine
matched_from left n [] = []
matched_from left n (e ∷ log) =
    record { number = n; entry = e; send = send_for left e } ∷ matched_from (left_after left e) (n + 1) log

-- the lines of a log
abbrev pub matched : List Entry → List LogLine
matched log = matched_from (sends_from 0 log) 0 log
