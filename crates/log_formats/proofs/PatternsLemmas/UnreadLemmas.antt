-- The first line that an expression matches, though it isn't read, is found line by line.
use Rattle.std.proofs.Common.{◌≡◌, ℕ, List, [], ◌∷◌, ◌++◌, Option, Some, refl}
use Rattle.log_lines.specs.Windows.{StepView}
use Rattle.log_lines.specs.declared.range.LineRange.{LineRange}
use Rattle.log_formats.specs.Patterns.Unread.{UnreadView, unread_at, unread_line, first_unread_from}

-- it is the first of these lines
pub found_here : (says : List (List ℕ) → StepView) (unreads : List (List ℕ) → Option UnreadView) (range : LineRange) (text n taken : ℕ) (lines : List (List ℕ)) (end : List ℕ) (why : UnreadView)
    → unread_at unreads range n taken (lines ++ end ∷ []) ≡ Some why → Some (unread_line (record { text = text; line = n }) why) ≡ first_unread_from says unreads range text n taken (lines ++ end ∷ [])
found_here says unreads range text n taken [] end why e = rw e refl
found_here says unreads range text n taken (line ∷ lines) end why e = rw e refl
