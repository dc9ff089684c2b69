-- The text of a chart that an import writes into memory.
use Rattle.std.proofs.Common.{◌≡◌, ℕ, List, refl, subst₂}
use Rattle.chart.specs.Charts.{LineView}
use Rattle.cmd_page.specs.Answers.Leaving.{memory, none}
use Rattle.msc_text.specs.ChartText.{chart_text}
use Rattle.texts.specs.Writing.{Puts}

-- a chart's text was put into empty memory
pub puts_into_memory : (text : List ℕ) (names called : List (List ℕ)) (lines chart : List LineView) → text ≡ chart_text names lines → names ≡ called → lines ≡ chart
    → Puts memory none (record { bytes = text; failures = 0 }) (chart_text called chart)
puts_into_memory text names called lines chart is named charted = record { appends = subst₂ (λ ns ls. text ≡ chart_text ns ls) named charted is; none_failed = refl }
