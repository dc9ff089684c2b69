use Rattle.std.proofs.Common.{◌≡◌, Result, Ok, Err, length, sym, subst}
use Rattle.std.specs.Prelude.{IfOk}
use Rattle.chart.specs.Charts.{chart_lines, IsPossible}
use Rattle.diagram_join.specs.declared.building.JoinedChart.{JoinedChart}
use Rattle.diagram_import.specs.declared.error.ImportError.{ImportError}
use Rattle.diagram_import.proofs.importing.imported_from.Goals as goal

-- a property of a chart holds for the returned chart
handed_on : (P : JoinedChart → Type 0) (result : Result JoinedChart ImportError) (built : JoinedChart) → IfOk result (λ d. d ≡ built) → P built → IfOk result P
handed_on P (Ok d) built same holds = subst P (sym same) holds
handed_on P (Err error) built same holds = tt

pub returns-in-Ok-clause-named : goal.returns-in-Ok-clause-named
returns-in-Ok-clause-named c = handed_on (λ d. length d.built.names ≡ length d.built.chart) _ _ c.strictly.ensures.same c.in-Ok.ensures.named

pub returns-in-Ok-clause-possible : goal.returns-in-Ok-clause-possible
returns-in-Ok-clause-possible c = handed_on (λ d. IsPossible (length d.built.chart) (chart_lines d.built.chart)) _ _ c.strictly.ensures.same c.in-Ok.ensures.possible
