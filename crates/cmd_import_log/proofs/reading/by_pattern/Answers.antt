use Rattle.std.proofs.Common.{◌≡◌, ℕ, Bool, None, map, refl, ap, ◌∙◌}
use Rattle.log_formats.specs.Clocks.Saying.{by_clocks, is_timed}
use Rattle.log_lines.specs.Reading.{ReadView, read_view}
use Rattle.log_lines.specs.Events.{logged_event_view}
use Rattle.cmd_import_log.specs.Reading.{LogView, is_captured}
use Rattle.cmd_import_log.proofs.reading.by_pattern.Goals as goal

abbrev log_of : ReadView → ℕ → Bool → Bool → LogView
log_of read lines captured timed = record { read = read; lines = lines; is_captured = captured; is_timed = timed }

log_as : (r found read : ReadView) (lines all : ℕ) (captured timed : Bool) → r ≡ found → read ≡ by_clocks r → lines ≡ all → captured ≡ is_captured None r.logged → timed ≡ is_timed r
    → log_of read lines captured timed ≡ log_of (by_clocks found) all (is_captured None found.logged) (is_timed found)
log_as r found read lines all captured timed same clocked count one two = rw (clocked, count, one, two, same) refl

pub returns-clause-ok : goal.returns-clause-ok
returns-clause-ok c = (
  c.in_ok-expression.expression,
  c.in_ok-expression.ensures.ok,
  log_as (read_view c.in_ok-read.read) _ (read_view c.in_ok-read-2.field-0.read) c.in_ok-lines.lines _ c.is_captured-is_captured.result c.in_ok-read-2.field-0.is_timed c.in_ok-read.ensures
      c.in_ok-read-2.ensures.read c.in_ok-lines.ensures (c.is_captured-is_captured.ensures ∙ ap (λ l. is_captured None (map logged_event_view l)) c.deref.ensures.value) c.in_ok-read-2.ensures.timed,
)
