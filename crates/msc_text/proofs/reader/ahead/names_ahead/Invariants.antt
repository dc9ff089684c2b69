use Rattle.std.proofs.Common.{◌≡◌, length}
use Rattle.texts.specs.Lines.{lines_of}
use Rattle.msc_text.specs.Reader.Ahead.{with_heads, names_ahead}
use Rattle.msc_text.proofs.reader.ahead.names_ahead.Given as goal

abbrev pub invariant-lines : goal.invariant-lines
invariant-lines l = with_heads l.names (lines_of l.rest) ≡ names_ahead l.bytes

abbrev pub decreases-lines : goal.decreases-lines
decreases-lines l = length l.rest
