-- What follows if words name a pair.
use Rattle.std.proofs.Common.{◌≡◌, ℕ, Bool, true, false, cond, List, length, Option, None, Some, Result, Ok, Err, refl, subst, eq-eqb}
use Rattle.std.specs.Prelude.{nat_lt, nat_le}
use Rattle.std.proofs.lemmas.Bool.{leb-true, ltb-true, and_parts, false≢true}
use Rattle.chart.specs.declared.event.Event.{Event}
use Rattle.chart.specs.declared.event.Event.TheVariants.{Send, Receive}
use Rattle.chart.specs.Events.{ith}
use Rattle.chart.specs.Charts.{Chart, Place, at, chart_event, LineView, IsReceiveFrom, chart_lines}
use Rattle.cmd_base.specs.Named.NamedRefusals.{missing_on}
use Rattle.cmd_base.specs.declared.pairs.error.PairError.{PairError}
use Rattle.cmd_base.specs.declared.pairs.error.PairError.TheVariants.{NoSuchEvent, NotEarlier, NotAReceive}
use Rattle.cmd_base.specs.declared.pairs.pair.Asked.{Asked}
use Rattle.cmd_base.specs.declared.pairs.pair.Pair.{Pair}
use Rattle.cmd_base.specs.Pairs.Pairs.{pair_on, pair_at, pair_of, IsPair}
use Rattle.cmd_base.specs.Named.Asked.{instance_named, has_event}
use Rattle.schedule_replay.specs.ReorderedRuns.Reorderings.{receives}

-- if the result is Ok, the test passed
passed : (b : Bool) (x : Result Pair PairError) (error : PairError) (pair : Pair) → cond b x (Err error) ≡ Ok pair → (b ≡ true) × (x ≡ Ok pair)
passed true x error pair is = (refl, is)
passed false x error pair is = cc

-- the event at a place is a receive from some instance
received : (c : Chart) (r : Place) (found : Option Event) → chart_event c r ≡ found → receives found ≡ true → (q : ℕ) × IsReceiveFrom c q r
received c r None is fails = absurd (false≢true fails)
received c r (Some (Send to name)) is fails = absurd (false≢true fails)
received c r (Some (Receive from name region)) is passes = (from, (Receive from name region, is, eq-eqb from from refl))

-- a pair on one line
on_line : (names : List (List ℕ)) (c : Chart) (p e r : ℕ) (pair : Pair) → pair_on names p (c p) e r ≡ Ok pair → IsPair c pair
on_line names c p e r pair is =
    let events = c p in
    let right : Pair = record { earlier = record { instance = p; index = e }; receive = record { instance = p; index = r } } in
    let a = passed (has_event events e) _ (NoSuchEvent (missing_on names p events)) pair is in
    let b = passed (has_event events r) _ (NoSuchEvent (missing_on names p events)) pair a.1 in
    let d = passed (nat_lt e r) _ NotEarlier pair b.1 in
    let f = passed (receives (ith events r)) (Ok right) (NotAReceive r) pair d.1 in
    let same : right ≡ pair = cc in
    subst (λ (x : Pair). IsPair c x) same (record {
      earlier = record { line = refl; begun = leb-true 1 e (and_parts (nat_le 1 e) (nat_le e (length events)) a.0).0; less = ltb-true e r d.0 };
      receive = received c (at p r) (ith events r) refl f.0;
    })

-- a pair of a chart
pub IsPair-from_words : (names : List (List ℕ)) (lines : List LineView) (asked : Asked) (pair : Pair) → pair_of names lines asked ≡ Ok pair → IsPair (chart_lines lines) pair
IsPair-from_words names lines asked pair is = by_instance (instance_named names asked.instance.now) is
  where
    by_instance : (found : Option ℕ) → pair_at names found lines asked.earlier asked.receive ≡ Ok pair → IsPair (chart_lines lines) pair
    by_instance None h = cc
    by_instance (Some p) h = on_line names (chart_lines lines) p asked.earlier asked.receive pair h
