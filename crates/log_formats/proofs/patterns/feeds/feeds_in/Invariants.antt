use Rattle.std.proofs.Common.{◌≡◌, ◌+◌, ◌≤◌, drop}
use Rattle.log_formats.specs.Patterns.Feeds.{feeds_from}
use Rattle.log_formats.specs.declared.patterns.feeds.Behind.TheVariants.{Other}
use Rattle.log_formats.proofs.patterns.feeds.feeds_in.Given as goal

abbrev pub invariant-loop-byte : goal.invariant-loop-byte
invariant-loop-byte l = (l.count + feeds_from l.behind l.depth (drop l.byte-index l.expression) ≡ feeds_from Other 0 l.expression) × (l.count ≤ l.byte-index) × (l.depth ≤ l.byte-index)
