use Rattle.std.proofs.Common.{◌≡◌, ◌+◌, Some, length, sym, ap, ◌∙◌, subst, arith}
use Rattle.std.specs.Prelude.{slice_get}
use Rattle.std.proofs.lemmas.Option.{slice_get-get_or}
use Rattle.chart.specs.Charts.{chart_lines}
use Rattle.repair.specs.declared.pairs.RacePair.{RacePair}
use Rattle.repair.specs.Best.{IsBestSo}
use Rattle.repair.proofs.BestLemmas.{best_next}
use Rattle.repair.proofs.PairLemmas.{IsRacePair, pairs_race}
use Rattle.repair.proofs.best.best_among.Goals as goal

pub try_pair-requires-clause-race : goal.try_pair-requires-clause-race
try_pair-requires-clause-race c =
    let lines = c.args.closure.now in
    (subst (IsRacePair (chart_lines lines)) (sym c.pair-item.is) (pairs_race c.args.counted.now lines c.args.pairs.now c.requires.possible.chart.numbered c.requires.pairs c.loop-pair.pair-index c.pair-item.result c.loop-pair-test.true)).0

pub try_pair-requires-clause-receive : goal.try_pair-requires-clause-receive
try_pair-requires-clause-receive c =
    let lines = c.args.closure.now in
    (subst (IsRacePair (chart_lines lines)) (sym c.pair-item.is) (pairs_race c.args.counted.now lines c.args.pairs.now c.requires.possible.chart.numbered c.requires.pairs c.loop-pair.pair-index c.pair-item.result c.loop-pair-test.true)).1

pub loop-pair-preserved : goal.loop-pair-preserved
loop-pair-preserved c =
    let counted = c.args.counted.now in
    let lines = c.args.closure.now in
    let name = c.args.name.now in
    let pairs = c.args.pairs.now in
    let i = c.loop-pair.pair-index in
    let pair = c.pair-item.result in
    let here : slice_get pairs i ≡ Some pair = slice_get-get_or pairs i pair c.loop-pair-test.true ∙ ap (λ (x : RacePair). Some x) (sym c.pair-item.is) in
    subst (IsBestSo counted lines name pairs (i + 1)) (sym c.better-best.ensures)
    (best_next counted lines name pairs i pair here c.loop-pair.best c.in_ok-next.next c.loop-pair.invariant c.in_ok-next.ensures)

pub returns : goal.returns
returns c =
    let same : c.loop-pair.pair-index ≡ length c.args.pairs.now = omega arith in
    subst (λ n. IsBestSo c.args.counted.now c.args.closure.now c.args.name.now c.args.pairs.now n c.loop-pair.best) same c.loop-pair.invariant
