use Rattle.std.proofs.Common.{inl, refl}
use Rattle.cmd_page.specs.Showing.{ShowsText}
use Rattle.cmd_page.proofs.text_page.show_chart_text.Goals as goal

pub returns-in-Err : goal.returns-in-Err
unfolding ShowsText
returns-in-Err g c = inl (refl, refl)
