use Rattle.std.proofs.Common.{◌≡◌, ℕ, ◌-◌, ◌≤◌, [], length, subst, arith}
use Rattle.std.proofs.lemmas.List.{append-nil}
use Rattle.chart.specs.Charts.{LineView}
use Rattle.chart.specs.Ranges.{events_of}
use Rattle.chart.specs.declared.line.TheConstants.{MAX_EVENTS}
use Rattle.online_races.specs.Passing.{HasFound}
use Rattle.online_races.proofs.PassingLemmas.{HasFound-end, none_met}
use Rattle.online_races.proofs.race_ranges.Goals as goal

-- nothing was found before the search
none_yet : (line : LineView) (end many entry q region : ℕ) → end ≤ length line.events → many ≡ length line.events → many ≤ MAX_EVENTS → HasFound line end end entry q region []
none_yet line end many entry q region within all short = HasFound-end line end entry q region within (omega (arith, all, short))

pub returns-in-Some-clause-races : goal.returns-in-Some-clause-races
returns-in-Some-clause-races c =
    let a = c.args in
    let last = c.in-Some.last in
    let none = none_yet a.line.now.line a.end c.len.result a.entry a.sender a.region c.requires c.len.ensures.value c.len.ensures.limit in
    c.races_up_to.ensures.races a.end
    (subst (HasFound a.line.now.line a.end (last.first.index - 1) a.entry a.sender a.region) (append-nil (events_of last)) (c.in-Some.ensures.found a.end [] none))

pub returns-in-Some-clause-own : goal.returns-in-Some-clause-own
returns-in-Some-clause-own c =
    let a = c.args in
    let last = c.in-Some.last in
    let none = none_yet a.line.now.line a.end c.len.result a.entry a.sender a.region c.requires c.len.ensures.value c.len.ensures.limit in
    c.races_up_to.ensures.own a.end
    (subst (HasFound a.line.now.line a.end (last.first.index - 1) a.entry a.sender a.region) (append-nil (events_of last)) (c.in-Some.ensures.found a.end [] none))

pub returns-in-Some-clause-none : goal.returns-in-Some-clause-none
returns-in-Some-clause-none c no_races =
    let a = c.args in
    let none = none_yet a.line.now.line a.end c.len.result a.entry a.sender a.region c.requires c.len.ensures.value c.len.ensures.limit in
    absurd (none_met a.line.now.line a.end (c.in-Some.last.first.index - 1) a.entry a.sender a.region c.in-Some.last [] no_races c.in-Some.ensures.range.some (c.in-Some.ensures.found a.end [] none))

pub returns-in-None-clause-races : goal.returns-in-None-clause-races
returns-in-None-clause-races c =
    let a = c.args in
    let none = none_yet a.line.now.line a.end c.len.result a.entry a.sender a.region c.requires c.len.ensures.value c.len.ensures.limit in
    rw (c.finish.ensures, c.new.ensures) (c.in-None.ensures.found a.end [] none)
