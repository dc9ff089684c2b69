use Rattle.std.proofs.Common.{◌≡◌, drop, map}
use Rattle.log_lines.specs.PlainReading.{plain_line}
use Rattle.log_lines.specs.Reading.{read_view, nothing_read, with_texts}
use Rattle.log_lines.proofs.plain_reading.read_plain.Given as goal

abbrev pub invariant-loop-number : goal.invariant-loop-number
invariant-loop-number l =
    with_texts plain_line l.range l.number (map (λ text. text.now) (drop l.number l.texts)) (read_view l.read)
    ≡ with_texts plain_line l.range 0 (map (λ text. text.now) l.texts) nothing_read
