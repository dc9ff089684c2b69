use Rattle.std.proofs.Common.{◌≡◌, ◌+◌, ◌≤◌, ◌++◌, length}
use Rattle.std.specs.List.{flat_map}
use Rattle.cmd_tidy.specs.Typing.{exact_line, typed_lines, staying_from, commented_from}
use Rattle.cmd_tidy.proofs.exact.exact_text.Given as goal

abbrev pub invariant-lines : goal.invariant-lines
invariant-lines l = record {
  bytes : l.text.bytes.items ++ flat_map exact_line (typed_lines l.rest) ≡ flat_map exact_line (typed_lines l.typed);
  lines : l.text.lines.items ++ staying_from l.number (typed_lines l.rest) ≡ staying_from 1 (typed_lines l.typed);
  comments : l.text.comments.items ++ commented_from l.number (typed_lines l.rest) ≡ commented_from 1 (typed_lines l.typed);
  number : l.number + length l.rest ≤ 1 + length l.typed;
}

abbrev pub decreases-lines : goal.decreases-lines
decreases-lines l = length l.rest
