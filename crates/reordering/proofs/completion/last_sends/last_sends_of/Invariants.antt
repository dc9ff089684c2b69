use Rattle.std.proofs.Common.{◌≡◌, ℕ, length, Some}
use Rattle.std.specs.Prelude.{slice_get}
use Rattle.reordering.specs.declared.completion.last_sends.LastSends.{LastSends}
use Rattle.reordering.specs.Completion.Tables.{HasPassed, AreLastSends}
use Rattle.reordering.proofs.completion.last_sends.last_sends_of.Given as goal

-- the passed events, and what is kept for them
abbrev pub invariant-loop-place : goal.invariant-loop-place
invariant-loop-place l =
    HasPassed l.line.line.events l.place l.passed.all l.passed.by_sender × (length l.passed.by_sender ≡ l.fn.instances) × (length l.row ≡ l.place)
    × ((k : ℕ) (x : LastSends) → slice_get l.row k ≡ Some x → AreLastSends l.line.line.events k x)
