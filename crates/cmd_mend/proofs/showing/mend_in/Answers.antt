use Rattle.std.proofs.Common.{◌≡◌, ◌⊎◌, ℕ, List, length, Ok, sym, subst}
use Rattle.std.proofs.lemmas.Result.{err_from_is_err_and}
use Rattle.cmd_base.specs.declared.error.ProgramError.TheVariants.{Usage, Memory}
use Rattle.chart.specs.Charts.{LineView, chart_lines}
use Rattle.closure.specs.Faults.{place_of}
use Rattle.repair.specs.Mends.{Mends, Fails}
use Rattle.cmd_base.specs.Pairs.Pairs.{pair_of, IsPair}
use Rattle.cmd_base.proofs.PairsLemmas.PairLemmas.{IsPair-from_words}
use Rattle.cmd_mend.specs.Naming.{IsMessageName}
use Rattle.cmd_mend.specs.Showing.{Writes, name_asked}
use Rattle.cmd_mend.proofs.RefusedLemmas.{not_named}
use Rattle.cmd_mend.proofs.ShowLemmas.{came_so, refused_shown, named_for}
use Rattle.cmd_mend.proofs.showing.mend_in.Goals as goal

pub mend-requires-clause-receive : goal.mend-requires-clause-receive
mend-requires-clause-receive g c =
    let asked = c.args.wanted.now.asked in
    let pair = c.in_ok-pair.pair in
    let is : pair_of c.args.names.now c.args.chart.now asked ≡ Ok pair = subst (λ (l : List LineView). pair_of c.args.names.now l asked ≡ Ok pair) c.lines.ensures.value (sym c.in_ok-pair.ensures) in
    (subst (λ (l : List LineView). IsPair (chart_lines l) pair) (sym c.in_ok-closure.ensures.closure) (IsPair-from_words c.args.names.now c.args.chart.now asked pair is)).receive

pub write_mending-requires-clause-pair : goal.write_mending-requires-clause-pair
write_mending-requires-clause-pair g c =
    let asked = c.args.wanted.now.asked in
    let pair = c.in_ok-pair.pair in
    let is : pair_of c.args.names.now c.args.chart.now asked ≡ Ok pair = subst (λ (l : List LineView). pair_of c.args.names.now l asked ≡ Ok pair) c.lines.ensures.value (sym c.in_ok-pair.ensures) in
    subst (λ (l : List LineView). IsPair (chart_lines l) pair) (sym c.in_ok-closure.ensures.closure) (IsPair-from_words c.args.names.now c.args.chart.now asked pair is)

pub returns-in-Ok : goal.returns-in-Ok
returns-in-Ok g c =
    let wanted = c.args.wanted.now in
    let asked = wanted.asked in
    let names = c.args.names.now in
    let lines = c.args.chart.now in
    let pair = c.in_ok-pair.pair in
    let name = c.in_ok-name.name in
    let mending = c.in-Ok.mending in
    let is : pair_of names lines asked ≡ Ok pair = subst (λ (l : List LineView). pair_of names l asked ≡ Ok pair) c.lines.ensures.value (sym c.in_ok-pair.ensures) in
    came_so g.W.Out.sink names lines wanted c.args.out.now c.write_mending.new.out pair name mending c.write_mending.result
    (record {
      asked = is;
      possible = c.in_ok-closure.ensures.possible;
      called = subst (λ (l : List LineView). IsMessageName l (name_asked wanted) name) c.lines-2.ensures.value c.in_ok-name.ensures.ok;
      mends = subst (λ (l : List LineView). Mends (length l) (chart_lines l) (place_of pair.earlier) (place_of pair.receive) name mending) c.in_ok-closure.ensures.closure c.in-Ok.ensures.ok;
    })
    (subst (λ (l : List LineView). Writes g.W.Out.sink c.args.out.now c.write_mending.new.out (names, l) wanted.detail pair mending c.write_mending.result) c.in_ok-closure.ensures.closure c.write_mending.ensures)

pub refused-requires : goal.refused-requires
refused-requires g c =
    let pair = c.in_ok-pair.pair in
    named_for c.args.chart.now pair (length c.args.names.now) c.in-Err.error c.requires
    (subst (λ (l : List LineView). Fails (chart_lines l) (place_of pair.earlier) (place_of pair.receive) c.in-Err.error) c.in_ok-closure.ensures.closure c.in-Err.ensures.err)

pub returns : goal.returns
returns g c =
    let wanted = c.args.wanted.now in
    let asked = wanted.asked in
    let names = c.args.names.now in
    let lines = c.args.chart.now in
    let pair = c.in_ok-pair.pair in
    let is : pair_of names lines asked ≡ Ok pair = subst (λ (l : List LineView). pair_of names l asked ≡ Ok pair) c.lines.ensures.value (sym c.in_ok-pair.ensures) in
    let fails = subst (λ (l : List LineView). Fails (chart_lines l) (place_of pair.earlier) (place_of pair.receive) c.in-Err.error) c.in_ok-closure.ensures.closure c.in-Err.ensures.err in
    let called = subst (λ (l : List LineView). IsMessageName l (name_asked wanted) c.in_ok-name.name) c.lines-2.ensures.value c.in_ok-name.ensures.ok in
    refused_shown g.W.Out.sink names lines wanted c.args.out.now pair c.in_ok-name.name c.in-Err.error c.refused.result (is, c.in_ok-closure.ensures.possible) called fails c.refused.ensures

pub returns-in_err-name : goal.returns-in_err-name
returns-in_err-name g c =
    let wanted = c.args.wanted.now in
    let names = c.args.names.now in
    let lines = c.args.chart.now in
    let pair = c.in_ok-pair.pair in
    let is : pair_of names lines wanted.asked ≡ Ok pair = subst (λ (l : List LineView). pair_of names l wanted.asked ≡ Ok pair) c.lines.ensures.value (sym c.in_ok-pair.ensures) in
    let p = err_from_is_err_and c.from_residual-in_err-name.result c.from_residual-in_err-name.ensures.1 in
    rw (p.1, p.2) (not_named g.W.Out.sink c.args.out.now (names, lines) wanted pair (is, c.in_ok-closure.ensures.possible) c.in_err-name.field-0.0
    (subst (λ (l : List LineView). (c.in_err-name.field-0.0 ≡ Memory) ⊎ ((c.in_err-name.field-0.0 ≡ Usage) × ((name : List ℕ) → IsMessageName l (name_asked wanted) name → ⊥))) c.lines-2.ensures.value c.in_err-name.ensures.err))
