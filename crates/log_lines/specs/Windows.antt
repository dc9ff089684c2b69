-- The meaning of lines that may include lines after them.
use Rattle.std.specs.Prelude.{ℕ, zero, suc, ◌+◌, ◌-◌, ◌==◌, List, [], ◌∷◌, length, take, slice_index, if◌then◌else◌}
use Rattle.log_lines.specs.Events.{LineView, line_view, Nothing}
use Rattle.log_lines.specs.Reading.{ReadView, is_within, with_line, all_lines}
use Rattle.log_lines.specs.declared.range.LineRange.{LineRange}
use Rattle.log_lines.specs.declared.step.Step.{Step}

-- the meaning of a line, and how many of the lines after it belong to it
pub record StepView : Type 0 where
  pub says : LineView
  pub takes : ℕ

abbrev pub step_view : Step → StepView
step_view s = record { says = line_view s.says; takes = s.takes }

-- bytes without a carriage return at their end
unfoldable pub without_return : List ℕ → List ℕ
without_return bytes = if slice_index bytes (length bytes - 1) == 13 then take (length bytes - 1) bytes else bytes

-- the meaning of the first of these lines, which has number n; `says` is the meaning of a list of lines, and `taken` is
-- how many of them belong to an earlier event
abbrev pub step_at : (List (List ℕ) → StepView) → LineRange → ℕ → ℕ → List (List ℕ) → StepView
step_at says range n (suc taken) lines = record { says = Nothing; takes = taken }
step_at says range n zero lines = if is_within range n then says lines else record { says = Nothing; takes = 0 }

-- the result, with these lines of a text added; the first line has number n
abbrev pub with_windows : (List (List ℕ) → StepView) → LineRange → ℕ → ℕ → ℕ → List (List ℕ) → ReadView → ReadView
with_windows says range text n taken [] r = r
with_windows says range text n taken (line ∷ lines) r =
    with_windows says range text (n + 1) (step_at says range n taken (line ∷ lines)).takes lines
    (with_line (record { text = text; line = n }) (step_at says range n taken (line ∷ lines)).says r)

-- the same for these texts, the first of which has number n
abbrev pub with_window_texts : (List (List ℕ) → StepView) → LineRange → ℕ → List (List ℕ) → ReadView → ReadView
with_window_texts says range n [] r = r
with_window_texts says range n (text ∷ texts) r =
    with_window_texts says range (n + 1) texts (with_windows says range n 1 0 (all_lines text) r)
