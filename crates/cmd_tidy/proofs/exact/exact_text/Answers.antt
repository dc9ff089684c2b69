use Rattle.std.proofs.Common.{arith}
use Rattle.cmd_tidy.specs.Typing.{exact_line, has_word, has_comment, counted}
use Rattle.cmd_tidy.proofs.Steps.{one_line_more, split}
use Rattle.cmd_tidy.proofs.exact.exact_text.Goals as goal

pub lines-preserved : goal.lines-preserved
lines-preserved c =
    let lines = one_line_more _ _ _ c.in-Some.ensures.line c.in-Some.ensures.end in
    record {
      bytes = split c.lines.text.bytes.items (exact_line c.in-Some.line.now) _ _ _ c.in_ok-add_typed-in-Some.ensures.bytes (rw lines at c.lines.invariant.bytes);
      lines = split c.lines.text.lines.items (counted (has_word c.in-Some.line.now) c.lines.number) _ _ _ c.in_ok-add_typed-in-Some.ensures.lines (rw lines at c.lines.invariant.lines);
      comments = split c.lines.text.comments.items (counted (has_comment c.in-Some.line.now) c.lines.number) _ _ _ c.in_ok-add_typed-in-Some.ensures.comments (rw lines at c.lines.invariant.comments);
      number = omega (arith, c.in-Some.ensures.shorter);
    }
