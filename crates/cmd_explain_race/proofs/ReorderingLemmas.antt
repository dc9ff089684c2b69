-- The result for a pair of events, and its output.
use Rattle.std.proofs.Common.{◌≡◌, ℕ, inl, inr, ◌≤◌, Bool, true, false, cond, List, length, Option, None, Some, Result, Ok, Err, refl, sym, subst, arith}
use Rattle.chart.specs.Charts.{Chart, LineView, chart_lines, IsPossible}
use Rattle.std.specs.Prelude.{nat_lt}
use Rattle.chart.specs.declared.event.Event.{Event}
use Rattle.chart.specs.Events.{ith, is_receive_from}
use Rattle.chart.specs.Places.{IsEvent}
use Rattle.chart.proofs.Belongs.{IsEvent-from_passes}
use Rattle.closure.specs.Faults.{place_of}
use Rattle.texts.specs.Outs.{Sink}
use Rattle.schedule.specs.Plans.{Plan}
use Rattle.cmd_base.specs.declared.error.ProgramError.TheVariants.{Usage, File, Memory, Text, ReceiveWithoutSend, NameMismatch, Cyclic, Write}
use Rattle.cmd_base.specs.declared.source.Source.{Source}
use Rattle.cmd_base.specs.Contents.{Named}
use Rattle.cmd_base.specs.Texts.{named_of}
use Rattle.schedule_replay.specs.ReorderedRuns.Showing.{IsShown, HasSteps}
use Rattle.schedule_replay.specs.declared.reordered_runs.overtaking.Reordered.{Reordered}
use Rattle.schedule_replay.specs.declared.reordered_runs.overtaking.Reordered.TheVariants as turns
use Rattle.reordering.specs.Witness.Orders.{IsInOrder}
use Rattle.schedule_replay.specs.declared.reordered_runs.showing.Shown.{Shown}
use Rattle.schedule_replay.specs.declared.reordered_runs.showing.Shown.TheVariants as founds
use Rattle.schedule_replay.specs.ReorderedRuns.Reorderings.{receives}
use Rattle.cmd_base.specs.Named.NamedRefusals.{missing_on}
use Rattle.cmd_base.specs.declared.pairs.error.PairError.{PairError}
use Rattle.cmd_base.specs.declared.pairs.error.PairError.TheVariants.{Program, NoSuchEvent, NotEarlier, NotAReceive, ManySlots}
use Rattle.cmd_base.specs.Named.Asked.{instance_named, has_event}
use Rattle.cmd_explain_race.specs.declared.finding.Found.{Found}
use Rattle.cmd_base.specs.declared.pairs.pair.Asked.{Asked}
use Rattle.cmd_base.specs.declared.pairs.pair.Pair.{Pair}
use Rattle.cmd_explain_race.specs.declared.verdict.Witnessed.{Witnessed}
use Rattle.cmd_base.specs.Pairs.Pairs.{IsPair, pair_on, pair_at, pair_of}
use Rattle.cmd_explain_race.specs.Finding.{origin_of, HasShown, IsFoundOf, IsFound, IsJudged}
use Rattle.cmd_explain_race.specs.Reordering.{Origin, first_of, IsKeptFrom, IsOrdered, IsAskedFor}
use Rattle.cmd_explain_race.specs.Witnessing.{WritesShown, Finds, FindsIn}

-- a plan with the steps of the result has their order
ordered_from : (named : Named) (origin : Origin) (pair : Pair) (reordered : Reordered) (plan : Plan) → IsKeptFrom named origin pair reordered → HasSteps reordered (founds.Replay plan) → IsOrdered named origin pair plan
ordered_from named origin pair (turns.Run slots run) plan (steps, from, kept) (capacity, commands) =
    (steps, run.items, from, subst (λ k. IsInOrder k steps (place_of pair.receive) run.items) (sym capacity) kept, commands)
ordered_from named origin pair turns.Enforced plan kept has = absurd has

-- the earlier event of a pair is an event of the chart
pub earlier_event : (c : Chart) (pair : Pair) → IsPair c pair → IsEvent c (place_of pair.earlier)
earlier_event c pair is =
    let r = IsEvent-from_passes c (is_receive_from is.receive.0) (place_of pair.receive) is.receive.1 in
    (is.earlier.begun, subst (λ p. pair.earlier.index ≤ length (c p)) (sym is.earlier.line) (let less = is.earlier.less in omega (arith, r.1)))

-- the result is the one that is shown
pub has_shown : (names : List (List ℕ)) (lines : List LineView) (origin : Origin) (pair : Pair) (reordered : Reordered) (shown : Shown) → IsKeptFrom (names, lines) origin pair reordered → HasSteps reordered shown
    → IsShown names (first_of origin) (chart_lines lines) (place_of pair.earlier) (place_of pair.receive) shown → HasShown (names, lines) origin pair shown
has_shown names lines origin pair reordered (founds.Replay plan) kept has is = (is.0, is.1, is.2, ordered_from (names, lines) origin pair reordered plan kept has)
has_shown names lines origin pair reordered founds.Enforced kept has is = is
has_shown names lines origin pair reordered (founds.TooManySlots k) kept has is = is

-- the result is for the pair that the words name
pub found_from : (named : Named) (origin : Origin) (asked : Asked) (pair : Pair) (result : Result Found PairError) → IsAskedFor named asked (Ok pair) → IsFoundOf named origin pair result → IsFound named origin asked result
found_from named origin asked pair (Ok found) is (same, shown) =
    (subst (λ (p : Pair). pair_of named.0 named.1 asked ≡ Ok p) (sym same) is.0, is.1, shown_for named origin pair found same shown)
  where
    shown_for : (named : Named) (origin : Origin) (pair : Pair) (found : Found) → found.pair ≡ pair → HasShown named origin pair found.shown → HasShown named origin found.pair found.shown
    shown_for named origin pair found same shown = subst (λ (p : Pair). HasShown named origin p found.shown) (sym same) shown
found_from named origin asked pair (Err (Program Memory)) is so = tt
found_from named origin asked pair (Err (Program Usage)) is so = absurd so
found_from named origin asked pair (Err (Program File)) is so = absurd so
found_from named origin asked pair (Err (Program (Text fault))) is so = absurd so
found_from named origin asked pair (Err (Program (ReceiveWithoutSend p index))) is so = absurd so
found_from named origin asked pair (Err (Program (NameMismatch p index))) is so = absurd so
found_from named origin asked pair (Err (Program Cyclic)) is so = absurd so
found_from named origin asked pair (Err (Program Write)) is so = absurd so
found_from named origin asked pair (Err (NoSuchEvent missing)) is so = absurd so
found_from named origin asked pair (Err NotEarlier) is so = absurd so
found_from named origin asked pair (Err (NotAReceive receive)) is so = absurd so
found_from named origin asked pair (Err (ManySlots k)) is so = absurd so

module _ {S : Type 0} (sink : S → Sink) (old new : S) (asked : Asked) (source : Source) (pair : Pair) (is_pair : pair_of (named_of source).0 (named_of source).1 asked ≡ Ok pair) (possible : IsPossible (length (named_of source).1) (chart_lines (named_of source).1)) where
  -- the output for a pair with a verdict
  pub finds_so : (shown : Shown) (witnessed : Witnessed) → HasShown (named_of source) (origin_of source) pair shown → IsJudged source pair shown (Ok witnessed) → WritesShown sink old new shown (Ok tt) → FindsIn sink old new asked source (Ok witnessed)
  finds_so (founds.Replay plan) witnessed is (true, are, same) puts = subst (FindsIn sink old new asked source) (sym same) (refl, (pair, is_pair, possible, (plan, is, are, puts)))
  finds_so (founds.Replay plan) witnessed is (false, are, same) puts = subst (FindsIn sink old new asked source) (sym same) (refl, (pair, is_pair, possible, (plan, is, are, puts)))
  finds_so founds.Enforced witnessed is same wrote = subst (FindsIn sink old new asked source) (sym same) (refl, (pair, is_pair, possible, (is, wrote.1)))
  finds_so (founds.TooManySlots k) witnessed is same wrote = cc

  -- the output for a pair whose text wasn't written completely
  pub finds_broken : (shown : Shown) (error : PairError) → HasShown (named_of source) (origin_of source) pair shown → WritesShown sink old new shown (Err error) → FindsIn sink old new asked source (Err error)
  finds_broken (founds.Replay plan) error is (same, breaks) =
      subst (λ (e : PairError). FindsIn sink old new asked source (Err e)) (sym same) (pair, is_pair, possible, (plan, is, breaks))
  finds_broken founds.Enforced error is wrote = let differs = wrote.0 in cc
  finds_broken (founds.TooManySlots k) error is wrote = let differs = wrote.0 in cc

  -- the output for a pair if each run needs too many slots
  pub finds_none : (shown : Shown) (error : PairError) → HasShown (named_of source) (origin_of source) pair shown → IsJudged source pair shown (Err error) → FindsIn sink old old asked source (Err error)
  finds_none (founds.TooManySlots k) error is same = subst (FindsIn sink old old asked source) (sym same) (pair, is_pair, possible, (is, refl))
  finds_none founds.Enforced error is same = cc
  finds_none (founds.Replay plan) error is (hidden, are, same) = cc

-- if the words name no pair, the refusal isn't about slots
failed : (b : Bool) (x : Result Pair PairError) (error other : PairError) → (error ≡ other → ⊥) → cond b x (Err error) ≡ Err other → x ≡ Err other
failed true x error other differs is = is
failed false x error other differs is = let same : error ≡ other = cc in absurd (differs same)

slots_on : (names : List (List ℕ)) (p : ℕ) (events : List Event) (e r k : ℕ) → pair_on names p events e r ≡ Err (ManySlots k) → ⊥
slots_on names p events e r k is =
    let a = failed (has_event events e) _ (NoSuchEvent (missing_on names p events)) (ManySlots k) (λ h. cc) is in
    let b = failed (has_event events r) _ (NoSuchEvent (missing_on names p events)) (ManySlots k) (λ h. cc) a in
    let d = failed (nat_lt e r) _ NotEarlier (ManySlots k) (λ h. cc) b in
    let f = failed (receives (ith events r)) _ (NotAReceive r) (ManySlots k) (λ h. cc) d in
    cc

pub no_slots : (names : List (List ℕ)) (lines : List LineView) (asked : Asked) (k : ℕ) → pair_of names lines asked ≡ Err (ManySlots k) → ⊥
no_slots names lines asked k is = by_instance (instance_named names asked.instance.now) is
  where
    by_instance : (found : Option ℕ) → pair_at names found lines asked.earlier asked.receive ≡ Err (ManySlots k) → ⊥
    by_instance None h = cc
    by_instance (Some p) h = slots_on names p (chart_lines lines p) asked.earlier asked.receive k h

-- if the pair isn't found, nothing is written
pub not_found : {S : Type 0} (sink : S → Sink) (old : S) (named : Named) (origin : Origin) (asked : Asked) (error : PairError) → IsAskedFor named asked (Err error) → Finds sink old old (Err error) named origin asked
not_found sink old named origin asked (Program Usage) is = absurd is
not_found sink old named origin asked (Program File) is = absurd is
not_found sink old named origin asked (Program Memory) is = refl
not_found sink old named origin asked (Program (Text fault)) is = absurd is
not_found sink old named origin asked (Program (ReceiveWithoutSend p index)) is = (is, refl)
not_found sink old named origin asked (Program (NameMismatch p index)) is = (is, refl)
not_found sink old named origin asked (Program Cyclic) is = (is, refl)
not_found sink old named origin asked (Program Write) is = absurd is
not_found sink old named origin asked (NoSuchEvent missing) is = (is.0, is.1, refl)
not_found sink old named origin asked NotEarlier is = (is.0, is.1, refl)
not_found sink old named origin asked (NotAReceive receive) is = (is.0, is.1, refl)
not_found sink old named origin asked (ManySlots k) is = absurd (no_slots named.0 named.1 asked k is.0)
