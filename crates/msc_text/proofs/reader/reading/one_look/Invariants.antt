use Rattle.std.proofs.Common.{◌+◌, ◌≤◌, length}
use Rattle.texts.specs.Lines.{lines_of, end_of}
use Rattle.msc_text.proofs.ReaderLemmas.OneLook.{Goes}
use Rattle.msc_text.proofs.reader.reading.one_look.Given as goal

abbrev pub invariant-lines : goal.invariant-lines
invariant-lines l = record {
  goes : Goes l.known l.names l.state l.builder l.number (lines_of l.rest) (end_of l.rest) l.bytes;
  number : l.number + length l.rest ≤ 1 + length l.bytes;
}

abbrev pub decreases-lines : goal.decreases-lines
decreases-lines l = length l.rest
