-- Neighbouring events of a host that are of one kind: invented, sent or received (this project's profile of logs). All
-- invented ones have one verdict with a receive, and so have all sends of the log.
use Rattle.std.specs.Prelude.{◌≡◌, ◌≢◌, ℕ, ◌+◌, ◌<◌, ◌≤◌, ◌⊎◌, Bool, true, false, List, [], length, Option, None, Some, slice_get, slice_index_or}
use Rattle.chart.specs.Events.{ith}
use Rattle.log_chart.specs.declared.item.Item.{Item}
use Rattle.race_verdicts.specs.declared.luck.runs.Kind.{Kind}
use Rattle.race_verdicts.specs.declared.luck.runs.Kind.TheVariants.{Invented, Send, Receive}

-- the kind of an event, by its line of the log, if it has one, and whether it sends
abbrev pub kind_in : Option ℕ → Bool → Kind
kind_in None sends = Invented
kind_in (Some n) true = Send
kind_in (Some n) false = Receive

abbrev pub kind_of : Item → Kind
kind_of i = kind_in i.line i.sends

-- both are invented, or both are sends of the log
abbrev pub IsOneKind : Item → Item → Type 0
IsOneKind x y = (kind_of y ≡ kind_of x) × (kind_of x ≢ Receive)

-- `count` of at most n events of a host, from number i on, are of one kind, and the next one isn't; if the first is a
-- receive of the log, `count` is 1
pub record AreAlike (items : List Item) (i n count : ℕ) : Type 0 where
  pub some : 0 < count
  pub within : count ≤ n
  pub alike : (j : ℕ) (x y : Item) → j < count → ith items i ≡ Some x → ith items (i + j) ≡ Some y → (y ≡ x) ⊎ IsOneKind x y
  pub longest : (x y : Item) → count < n → ith items i ≡ Some x → ith items (i + count) ≡ Some y → IsOneKind x y → ⊥

-- Tables of these numbers of events, by the places on a host's line, from 0.

-- the event after the one at this place is of the same kind
pub record IsNextAlike (items : List Item) (k : ℕ) : Type 0 where
  pub item : Item
  pub is : slice_get items k ≡ Some item
  pub next : Item
  pub next_is : slice_get items (k + 1) ≡ Some next
  pub same : kind_of next ≡ kind_of item

-- n events from this place on are of one kind, and the next one isn't
pub record IsRun (items : List Item) (k n : ℕ) : Type 0 where
  pub some : 0 < n
  pub within : k + n ≤ length items
  pub alike : (j : ℕ) (x y : Item) → j < n → slice_get items k ≡ Some x → slice_get items (k + j) ≡ Some y → kind_of y ≡ kind_of x
  pub longest : (x y : Item) → slice_get items k ≡ Some x → slice_get items (k + n) ≡ Some y → kind_of y ≡ kind_of x → ⊥

-- the table has this number for each event from `low` on
abbrev pub HaveRuns : List Item → List (Option ℕ) → ℕ → Type 0
HaveRuns items runs low = (k : ℕ) → low ≤ k → k < length items → (n : ℕ) × (slice_index_or runs k None ≡ Some n) × IsRun items k n

-- there is such a table for each host
pub record AreRuns (hosts : List (List Item)) (runs : List (List (Option ℕ))) : Type 0 where
  pub whole : length runs ≡ length hosts
  pub each : (p : ℕ) → p < length hosts → HaveRuns (slice_index_or hosts p []) (slice_index_or runs p []) 0
