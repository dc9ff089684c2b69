-- The lines that explain a race (this project's profile). They list the events that have to come before the receive,
-- then its line as it was and as it may be.
use Rattle.std.specs.Prelude.{ℕ, zero, suc, ◌-◌, Bool, true, false, not, ◌&&◌, ◌||◌, nat_lt, nat_le, List, [], ◌∷◌, ◌++◌, length, map, slice_index, Option, None, Some, if◌then◌else◌}
use Rattle.chart.specs.declared.event.Event.{Event}
use Rattle.chart.specs.Events.{ith, is_receive_from}
use Rattle.closure.specs.Rows.{entry}
use Rattle.closure.specs.declared.chain.link.Link.{Link}
use Rattle.cmd_base.specs.declared.pairs.saying.Saying.{Saying}
use Rattle.cmd_base.specs.declared.pairs.saying.Saying.TheVariants.{Before, Also, Row, Step}

-- the numbers from 1 to n that pass the test, rising
abbrev pub passing : (ℕ → Bool) → ℕ → List ℕ
passing test zero = []
passing test (suc n) = if test (suc n) then passing test n ++ suc n ∷ [] else passing test n

-- there is a receive from q
abbrev pub comes_from : ℕ → Option Event → Bool
comes_from q None = false
comes_from q (Some m) = is_receive_from q m

-- event i comes before a later receive from q on its line, as do the first `count` events and each receive from q
abbrev pub comes_first : List Event → ℕ → ℕ → ℕ → Bool
comes_first events count q i = nat_le i count || comes_from q (ith events i)

-- event i isn't one of the first `count`, but it is a receive from q
abbrev pub comes_too : List Event → ℕ → ℕ → ℕ → Bool
comes_too events count q i = nat_lt count i && comes_from q (ith events i)

-- the answer, or its negation
abbrev pub so : Bool → Bool → Bool
so true answer = answer
so false answer = not answer

-- the numbers of a line's events with those before the receive r first, then r, and then the others
abbrev pub order : List Event → ℕ → ℕ → ℕ → List ℕ
order events r count q =
    passing (λ i. so true (comes_first events count q i)) (r - 1) ++ r
    ∷ (passing (λ i. so false (comes_first events count q i)) (r - 1) ++ passing (nat_lt r) (length events))

-- for each of the first n lines, how many of its first events come before the receive
abbrev pub befores : List ℕ → ℕ → List Saying
befores counts zero = []
befores counts (suc n) = befores counts n ++ Before (suc n) (slice_index counts n) ∷ []

-- these events of p's line come before it too
abbrev pub alsos : ℕ → List ℕ → List Saying
alsos p numbers = map (Also p) numbers

-- each of the first n events of a line, with the event that takes its place in this order
abbrev pub rows : List ℕ → ℕ → List Saying
rows numbers zero = []
rows numbers (suc n) = rows numbers n ++ Row (suc n) (slice_index numbers n) ∷ []

-- the lines that explain a race of receive r from q, on p's line with these events; `counts` has for each line how many
-- of its first events come before the receive
abbrev pub race_sayings : List Event → ℕ → ℕ → ℕ → List ℕ → List Saying
race_sayings events p r q counts =
    befores counts (length counts)
    ++ (alsos p (passing (comes_too events (entry counts p) q) (r - 1))
    ++ rows (order events r (entry counts p) q) (length (order events r (entry counts p) q)))

-- the lines that explain an enforced pair: its chain
abbrev pub chain_sayings : List Link → List Saying
chain_sayings links = map Step links
