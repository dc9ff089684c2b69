use Rattle.std.proofs.Common.{◌≡◌, drop, map}
use Rattle.log_lines.specs.Reading.{read_view, nothing_read}
use Rattle.log_lines.specs.ShiViz.{shiviz_step}
use Rattle.log_lines.specs.Windows.{with_window_texts}
use Rattle.log_lines.proofs.shiviz.read_shiviz.Given as goal

abbrev pub invariant-loop-number : goal.invariant-loop-number
invariant-loop-number l =
    with_window_texts shiviz_step l.range l.number (map (λ text. text.now) (drop l.number l.texts)) (read_view l.read)
    ≡ with_window_texts shiviz_step l.range 0 (map (λ text. text.now) l.texts) nothing_read
