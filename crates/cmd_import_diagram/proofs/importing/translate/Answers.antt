use Rattle.std.proofs.Common.{ℕ, List, subst₂}
use Rattle.chart.specs.Charts.{LineView}
use Rattle.msc_text.specs.ChartText.{chart_text}
use Rattle.texts.specs.Writing.{Puts, Breaks}
use Rattle.cmd_import_diagram.proofs.importing.translate.Goals as goal

pub returns-in-Ok-write : goal.returns-in-Ok-write
returns-in-Ok-write g c =
    let r = c.in-Ok.ensures.reads in
    (r.0, r.1, r.2, subst₂ (λ (ns : List (List ℕ)) (ls : List LineView). Puts g.W.Out.sink c.args.out.now c.write.new.out (chart_text ns ls)) r.3 r.4 c.in-Ok-write.ensures)

pub returns-in-Err-write : goal.returns-in-Err-write
returns-in-Err-write g c =
    let r = c.in-Ok.ensures.reads in
    (r.0, r.1, subst₂ (λ (ns : List (List ℕ)) (ls : List LineView). Breaks g.W.Out.sink c.args.out.now c.write.new.out (chart_text ns ls)) r.3 r.4 c.in-Err-write.ensures)
