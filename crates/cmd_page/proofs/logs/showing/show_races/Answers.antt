use Rattle.std.proofs.Common.{Ok, Err, subst}
use Rattle.msc_text.specs.ChartText.{chart_text}
use Rattle.cmd_page.specs.Showing.{HeadingView, ShowsText}
use Rattle.cmd_page.proofs.logs.showing.show_races.Goals as goal

pub show_chart_text-requires-clause-ranges : goal.show_chart_text-requires-clause-ranges
show_chart_text-requires-clause-ranges g c = c.heading_of-heading.ensures.ranges

pub returns-in-Ok : goal.returns-in-Ok
returns-in-Ok g c =
    let d = c.args.imported.now in (
      subst (λ (heading : HeadingView). ShowsText g.W.Out.sink c.args.out.now c.show_chart_text.new.out heading (chart_text d.diagnostics.names d.chart) (Ok tt)) c.heading_of-heading.ensures.view
          c.in-Ok.ensures,
      c.claims_none.ensures,
    )

pub returns-in-Err : goal.returns-in-Err
returns-in-Err g c =
    let d = c.args.imported.now in
    subst (λ (heading : HeadingView). ShowsText g.W.Out.sink c.args.out.now c.show_chart_text.new.out heading (chart_text d.diagnostics.names d.chart) (Err c.in-Err.error)) c.heading_of-heading.ensures.view
    c.in-Err.ensures
