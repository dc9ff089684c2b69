-- Several turns at once, that free receives of one host: for the crate's own functions.
use Rattle.std.specs.Prelude.{◌≡◌, ℕ, suc, ◌+◌, ◌<◌, ◌==◌, Bool, true, false, List, [], ◌∷◌, length, set, take, fold, All, Option, None, Some, slice_index_or, if◌then◌else◌}
use Rattle.log_chart.specs.Cycles.Searching.{IsClosed, AreBefore, IsPast}
use Rattle.log_chart.specs.Cycles.Sources.{IsDirect}
use Rattle.log_chart.specs.Entries.{takes}
use Rattle.log_chart.specs.Fates.{sender_of, receiver_of}
use Rattle.log_chart.specs.Matching.{sends_from, left_after}
use Rattle.log_chart.specs.declared.cycles.past.Past.{Past}
use Rattle.log_chart.specs.declared.entry.Entry.{Entry}
use Rattle.log_chart.specs.declared.matching.LogLine.{LogLine}

-- a line is the first one's host's exactly if it has the name of that host. A line of a lane to the host has the one
-- stream of its sender's lane, and the other lines have streams of other lanes
pub record IsPlainLine (senders streams : ℕ → Option ℕ) (first e : Entry) : Type 0 where
  pub named : e.host ≡ first.host → e.host_name ≡ first.host_name
  pub owned : e.host_name ≡ first.host_name → e.host ≡ first.host
  pub sender : receiver_of e ≡ first.host → senders e.stream ≡ Some (sender_of e)
  pub stream : receiver_of e ≡ first.host → streams (sender_of e) ≡ Some e.stream
  pub other : (receiver_of e ≡ first.host → ⊥) → senders e.stream ≡ None

-- each lane to the first one's host has one stream, which no other lane has, and the host has a name of its own
pub record IsPlain (first : Entry) (log : List Entry) : Type 0 where
  pub senders : ℕ → Option ℕ
  pub streams : ℕ → Option ℕ
  pub lines : All (IsPlainLine senders streams first) log

-- the line, without the send that it takes if it is the host's
abbrev pub apart : ℕ → LogLine → LogLine
apart p x = if x.entry.host == p then record x { send = None } else x

-- the sends of each stream that none of the first n lines takes
abbrev pub left_before : List Entry → ℕ → ℕ → List ℕ
left_before log n = fold left_after (sends_from 0 log) (take n log)

-- how many lines take sends
abbrev pub takers : List Entry → ℕ
takers [] = 0
takers (e ∷ log) = (if takes e.kind then 1 else 0) + takers log

-- a search for what comes before this send may begin with what was found
pub record IsReady (tops sends : List (Option ℕ)) (s : ℕ) (past : Past) : Type 0 where
  pub within : (a b : ℕ) → IsDirect tops sends a b → a < length past.seen.items
  pub empty : past.stack.items ≡ []
  pub closed : IsClosed tops sends past.seen.items
  pub before : AreBefore tops sends past.seen.items s

-- one of the searches went on to this send, and whether it found the line
pub record HasSearched (tops sends : List (Option ℕ)) (i s n : ℕ) (pasts after : List Past) (comes : Bool) : Type 0 where
  pub past : Past
  pub pasts_are : after ≡ set pasts i past
  pub whole : (x : Past) → x ≡ slice_index_or pasts i x → length past.seen.items ≡ length x.seen.items
  pub empty : past.stack.items ≡ []
  pub found : IsPast tops sends s past.seen.items
  pub answer : comes ≡ slice_index_or past.seen.items n false

-- whether line n is one of host p that comes before the first send that remains of its stream
pub data HasAsked (tops sends firsts : List (Option ℕ)) (p : ℕ) (e : Entry) (n : ℕ) (pasts after : List Past) (answer : Bool) : Type 0 where
  other : (e.host ≡ p → takes e.kind ≡ true → ⊥) → after ≡ pasts → answer ≡ false → HasAsked tops sends firsts p e n pasts after answer
  none : slice_index_or firsts e.stream None ≡ None → after ≡ pasts → answer ≡ false → HasAsked tops sends firsts p e n pasts after answer
  asked : (i s : ℕ) → e.host ≡ p → takes e.kind ≡ true → e.peer ≡ suc i → slice_index_or firsts e.stream None ≡ Some s → HasSearched tops sends i s n pasts after answer
      → HasAsked tops sends firsts p e n pasts after answer
