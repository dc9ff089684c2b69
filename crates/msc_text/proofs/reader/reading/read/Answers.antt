use Rattle.std.proofs.Common.{sym, ap, ◌∙◌}
use Rattle.std.proofs.lemmas.Result.{err_from_is_err_and}
use Rattle.std.proofs.lemmas.Bool.{false≢true}
use Rattle.msc_text.specs.Reader.Reading.{are_read, chart_of}
use Rattle.msc_text.proofs.ReaderLemmas.ChartPaths.{chart-again}
use Rattle.msc_text.proofs.ReaderLemmas.Found.{chart_found}
use Rattle.msc_text.proofs.ReaderLemmas.Looks.{fails_so}
use Rattle.msc_text.proofs.reader.reading.read.Goals as goal

pub unreachable-requires : goal.unreachable-requires
unreachable-requires c =
    let found = chart_found c.args.bytes.now c.in_ok-names.names c.in_ok-names.lines.items c.in_ok-names.ensures.parts in
    let chart = found.has.chart in
    false≢true (c.in-Err.ensures.succeeds.1 (chart.several, chart.limit, chart.partners))

pub returns-clause-found : goal.returns-clause-found
returns-clause-found c =
    let found = chart_found c.args.bytes.now c.in_ok-names.names c.in_ok-names.lines.items c.in_ok-names.ensures.parts in
    rw c.in-Ok.ensures.ok (found.has, found.spelled)

pub returns-in_err-names-clause-only : goal.returns-in_err-names-clause-only
returns-in_err-names-clause-only c = λ names lines h e.
    (let p = err_from_is_err_and c.from_residual.result c.from_residual.ensures.1 in
    rw (p.1, p.2) (fails_so c.in_err-names.field-0.0 (chart_of c.args.bytes.now) (are_read names lines) (ap chart_of e ∙ chart-again names lines h) c.in_err-names.ensures.parts))

pub returns-clause-only : goal.returns-clause-only
returns-clause-only c = λ names lines h e. (rw c.in-Ok.ensures.ok (sym (chart-again names lines h) ∙ ap chart_of (sym e) ∙ c.in_ok-names.ensures.parts))
