use Rattle.std.proofs.Common.{◌≡◌, ℕ, ◌<◌, true}
use Rattle.shown_races.specs.Kept.{is_kept_after}
use Rattle.races_text.specs.Named.Stretches.{event_in}
use Rattle.races_text.proofs.named.stretches.shown_first.Given as goal

abbrev pub invariant-loop-number : goal.invariant-loop-number
invariant-loop-number l = (k : ℕ) → k < l.number → is_kept_after l.events l.only l.passed (event_in l.range k) ≡ true
