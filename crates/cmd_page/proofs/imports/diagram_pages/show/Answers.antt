use Rattle.std.proofs.Common.{ℕ, List, Ok, Err, None, Some, ◌∙◌, subst, subst₂}
use Rattle.chart.specs.Charts.{LineView}
use Rattle.diagram_import.specs.Importing.{options_view}
use Rattle.cmd_draw.specs.Imports.Turns.{turns_of_text}
use Rattle.msc_text.specs.ChartText.{chart_text}
use Rattle.cmd_page.specs.Showing.{HeadingView, ShowsText}
use Rattle.cmd_page.specs.Imports.DiagramPages.{ShowsDiagram}
use Rattle.cmd_page.proofs.imports.diagram_pages.show.Goals as goal

pub show_chart_text-requires-clause-ranges : goal.show_chart_text-requires-clause-ranges
show_chart_text-requires-clause-ranges g c = rw c.heading_of-heading.ensures.none (tt {0})

pub returns-in-Ok-show_chart_text : goal.returns-in-Ok-show_chart_text
unfolding ShowsDiagram
returns-in-Ok-show_chart_text g c =
    let r = c.in-Ok.ensures.reads in
    let headed = λ (heading : HeadingView) (ns : List (List ℕ)) (ls : List LineView). ShowsText g.W.Out.sink c.args.out.now c.show_chart_text.new.out heading (chart_text ns ls) (Ok tt) in
    let shows = λ (turns : List ℕ). headed (record { title = c.args.title.now; turns = Some turns; races = None }) in
    let titled = subst (λ (heading : HeadingView). headed heading c.in-Ok.diagram.names c.in-Ok.diagram.chart) c.heading_of-heading.ensures.view c.in-Ok-show_chart_text.ensures in
    let by_turns = subst (λ (turns : List ℕ). shows turns c.in-Ok.diagram.names c.in-Ok.diagram.chart) (c.as_slice.ensures.value ∙ c.in-Ok-turns_of_text.ensures) titled in
    (r.0, r.1, r.2, subst₂ (shows (turns_of_text c.args.tool c.args.text.now (options_view c.args.options))) r.3 r.4 by_turns)

pub returns-in-Err-show_chart_text : goal.returns-in-Err-show_chart_text
unfolding ShowsDiagram
returns-in-Err-show_chart_text g c =
    let r = c.in-Ok.ensures.reads in
    let headed = λ (heading : HeadingView) (ns : List (List ℕ)) (ls : List LineView). ShowsText g.W.Out.sink c.args.out.now c.show_chart_text.new.out heading (chart_text ns ls) (Err c.in-Err-show_chart_text.error) in
    let shows = λ (turns : List ℕ). headed (record { title = c.args.title.now; turns = Some turns; races = None }) in
    let titled = subst (λ (heading : HeadingView). headed heading c.in-Ok.diagram.names c.in-Ok.diagram.chart) c.heading_of-heading.ensures.view c.in-Err-show_chart_text.ensures in
    let by_turns = subst (λ (turns : List ℕ). shows turns c.in-Ok.diagram.names c.in-Ok.diagram.chart) (c.as_slice.ensures.value ∙ c.in-Ok-turns_of_text.ensures) titled in
    (r.0, r.1, subst₂ (shows (turns_of_text c.args.tool c.args.text.now (options_view c.args.options))) r.3 r.4 by_turns)
