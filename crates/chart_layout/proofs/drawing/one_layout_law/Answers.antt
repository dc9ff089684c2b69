use Rattle.chart_layout.proofs.OneLayout.{one_layout}
use Rattle.chart_layout.proofs.drawing.one_layout_law.Goals as goal

pub returns : goal.returns
returns c = one_layout
