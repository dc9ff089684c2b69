-- The two events that the words of a `race` line name (this project's profile).
use Rattle.std.specs.Prelude.{ℕ, nat_lt, List, Option, None, Some, Result, Ok, Err, if◌then◌else◌}
use Rattle.chart.specs.declared.event.Event.{Event}
use Rattle.chart.specs.Events.{ith}
use Rattle.chart.specs.Charts.{Chart, LineView, IsReceiveFrom, chart_lines}
use Rattle.chart.specs.Order.{IsEarlier}
use Rattle.closure.specs.Faults.{place_of}
use Rattle.cmd_base.specs.declared.named.missing.Missing.TheVariants.{Instance}
use Rattle.cmd_base.specs.Named.NamedRefusals.{missing_on}
use Rattle.cmd_base.specs.Named.Asked.{instance_named, has_event}
use Rattle.schedule_replay.specs.ReorderedRuns.Reorderings.{receives}
use Rattle.cmd_base.specs.declared.pairs.error.PairError.{PairError}
use Rattle.cmd_base.specs.declared.pairs.error.PairError.TheVariants.{NoSuchEvent, NotEarlier, NotAReceive}
use Rattle.cmd_base.specs.declared.pairs.pair.Asked.{Asked}
use Rattle.cmd_base.specs.declared.pairs.pair.Pair.{Pair}

-- the events of p's line with these numbers
abbrev pub pair_on : List (List ℕ) → ℕ → List Event → ℕ → ℕ → Result Pair PairError
pair_on names p events e r =
    if has_event events e then (if has_event events r then (if nat_lt e r then (if receives (ith events r)
    then Ok (record { earlier = record { instance = p; index = e }; receive = record { instance = p; index = r } })
    else Err (NotAReceive r)) else Err NotEarlier) else Err (NoSuchEvent (missing_on names p events)))
    else Err (NoSuchEvent (missing_on names p events))

-- the same, if there is such an instance
abbrev pub pair_at : List (List ℕ) → Option ℕ → List LineView → ℕ → ℕ → Result Pair PairError
pair_at names None lines e r = Err (NoSuchEvent Instance)
pair_at names (Some p) lines e r = pair_on names p (chart_lines lines p) e r

-- the two events that an instance's name and two numbers name
abbrev pub pair_of : List (List ℕ) → List LineView → Asked → Result Pair PairError
pair_of names lines asked = pair_at names (instance_named names asked.instance.now) lines asked.earlier asked.receive

-- a receive of the chart, and an earlier event of its line
pub record IsPair (c : Chart) (pair : Pair) : Type 0 where
  pub earlier : IsEarlier (place_of pair.earlier) (place_of pair.receive)
  pub receive : (q : ℕ) × IsReceiveFrom c q (place_of pair.receive)
