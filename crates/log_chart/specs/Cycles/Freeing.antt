-- Logs with lines that come before themselves, such as one that begins in the middle of a ping-pong: receives are
-- freed, one after another, until no line does (this project's profile).
use Rattle.std.specs.Prelude.{◌≡◌, ℕ, zero, suc, Bool, true, List, [], ◌∷◌, Some, Contains, All}
use Rattle.std.specs.Cmp.Lexicographic.{slice_cmp}
use Rattle.std.specs.Ordering.{nat_cmp, ordering_then, is_lt}
use Rattle.std.specs.declared.cmp.Ordering.{Ordering}
use Rattle.chart.specs.Histories.{AreTwo}
use Rattle.log_chart.specs.HostLines.{kept}
use Rattle.log_chart.specs.Laws.{AreOfLanes}
use Rattle.log_chart.specs.declared.entry.Entry.{Entry}
use Rattle.log_chart.specs.declared.entry.Kind.TheVariants.{Freed}
use Rattle.log_chart.specs.declared.matching.LogLine.{LogLine}
use Rattle.log_chart.specs.Cycles.Order.{Comes}

-- the line with this number takes a logged send, and comes before itself
pub record IsOnCycle (lines : List LogLine) (k : ℕ) : Type 0 where
  pub line : LogLine
  pub among : Contains lines line
  pub number : line.number ≡ k
  pub send : ℕ
  pub takes : line.send ≡ Some send
  pub cycle : Comes lines k k

-- lines in the order of their hosts' names, byte by byte, and those of one host by their places in the log; there they
-- are in the host's own order
abbrev pub by_host : LogLine → LogLine → Ordering
by_host x y = ordering_then (slice_cmp nat_cmp x.entry.host_name y.entry.host_name) (nat_cmp x.number y.number)

-- the line comes sooner
abbrev pub is_sooner : LogLine → LogLine → Bool
is_sooner x y = is_lt (by_host x y)

-- no such receive is of a host with a lesser name, or of the same host and above
pub record IsFirst (lines : List LogLine) (k : ℕ) : Type 0 where
  pub on : IsOnCycle lines k
  pub first : (j : ℕ) (other : IsOnCycle lines j) → is_sooner other.line on.line ≡ true → ⊥

-- there is no such receive
abbrev pub HasNone : List LogLine → Type 0
HasNone lines = (k : ℕ) → IsOnCycle lines k → ⊥

-- the log in which the line with this number takes no send
abbrev pub freed : ℕ → List Entry → List Entry
freed k [] = []
freed zero (e ∷ log) = record e { kind = Freed } ∷ log
freed (suc k) (e ∷ log) = e ∷ freed k log

-- each turn frees the first receive that is on a cycle, and pairing begins anew, until there is none
pub data Settles : List Entry → List Entry → Type 0 where
  done : {log : List Entry} → HasNone (kept log) → Settles log log
  turn : {log out : List Entry} (k : ℕ) → IsFirst (kept log) k → Settles (freed k log) out → Settles log out

-- each line is of two of n hosts
abbrev pub AreAmong : ℕ → List Entry → Type 0
AreAmong n log = All (λ e. AreTwo n e.host e.peer) log

-- each stream is on one lane
abbrev pub HaveLanes : List Entry → Type 0
HaveLanes log = (from : ℕ → ℕ) × (to : ℕ → ℕ) × AreOfLanes from to log
