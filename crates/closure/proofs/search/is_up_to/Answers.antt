use Rattle.std.proofs.Common.{suc, length, ap, arith}
use Rattle.std.proofs.lemmas.Bool.{false≢true, leb-true, le-leb}
use Rattle.chart.specs.Charts.{at, chart_lines}
use Rattle.closure.specs.Faults.{place_of}
use Rattle.closure.specs.Rows.{entry}
use Rattle.closure.proofs.SearchLemmas.{IsSearch-none, up_to_within}
use Rattle.closure.proofs.search.is_up_to.Goals as goal

pub returns-then-place-len : goal.returns-then-place-len
returns-then-place-len c =
    (λ never. absurd (false≢true never), λ up. let w = up_to_within c.args.linked.now (at (suc c.args.line) c.args.index) (place_of c.args.event.now) c.place-place.result c.requires.send up c.place-place.ensures.value in absurd (omega (arith, w.1, c.if-place-len.true, c.len.ensures.value)))

pub returns-then-event-eq0 : goal.returns-then-event-eq0
returns-then-event-eq0 c =
    (λ never. absurd (false≢true never), λ up. let w = up_to_within c.args.linked.now (at (suc c.args.line) c.args.index) (place_of c.args.event.now) c.place-place.result c.requires.send up c.place-place.ensures.value in absurd (omega (arith, w.0, c.if-event-eq0.true)))

pub reach-requires-clause-search : goal.reach-requires-clause-search
reach-requires-clause-search c = rw (c.in_ok-search.ensures, c.len-2.ensures.value) (IsSearch-none (chart_lines c.args.linked.now) (length c.args.linked.now) (at (suc c.args.line) c.args.index))

pub returns : goal.returns
returns c =
    let is = c.reach.ensures.reached (place_of c.args.event.now) (omega (arith, c.if-event-eq0.false)) in
    let front = ap (entry c.reach.new.search.fronts) c.place-place.ensures.value in (
      λ yes'. is.1 (let le = leb-true c.args.event.now.index c.at.result yes' in omega (arith, c.at.ensures, front)),
      λ up. le-leb c.args.event.now.index c.at.result (let le = is.0 up in omega (arith, c.at.ensures, front)),
    )
