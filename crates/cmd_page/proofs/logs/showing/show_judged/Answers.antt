use Rattle.std.proofs.Common.{List, inl, inr, refl, All, sym, subst}
use Rattle.cmd_page.specs.Logs.Showing.{ShowsRaces}
use Rattle.cmd_page.specs.Marks.Pairing.{HasRange}
use Rattle.cmd_page.specs.declared.marks.pairs.RaceRange.{RaceRange}
use Rattle.cmd_page.proofs.logs.showing.show_judged.Goals as goal

pub returns-in-Err : goal.returns-in-Err
returns-in-Err g c = inl (refl, refl)

pub show_races-requires-clause-have : goal.show_races-requires-clause-have
show_races-requires-clause-have g c = subst (All HasRange) (sym c.as_slice-list.ensures.value) c.in-Ok.ensures.have

pub returns : goal.returns
returns g c =
    let d = c.args.recording.now.imported in
    inr (
      c.in-Ok.races.items,
      c.in-Ok.ensures.judged,
      subst (λ (races : List RaceRange). ShowsRaces g.W.Out.sink c.args.out.now c.show_races.new.out c.args.title.now (d.diagnostics.names, d.chart) races c.show_races.result) c.as_slice-list.ensures.value
          c.show_races.ensures,
    )
