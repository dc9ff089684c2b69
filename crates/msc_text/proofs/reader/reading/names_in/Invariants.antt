use Rattle.std.proofs.Common.{◌≡◌, ◌+◌, ◌≤◌, length}
use Rattle.texts.specs.Lines.{lines_of, end_of}
use Rattle.msc_text.specs.Reader.Reading.{look_from, names_in}
use Rattle.msc_text.proofs.reader.reading.names_in.Given as goal

abbrev pub invariant-lines : goal.invariant-lines
invariant-lines l = record {
  so_far : look_from l.names l.state l.number (lines_of l.rest) (end_of l.rest) ≡ names_in l.bytes;
  number : l.number + length l.rest ≤ 1 + length l.bytes;
}

abbrev pub decreases-lines : goal.decreases-lines
decreases-lines l = length l.rest
