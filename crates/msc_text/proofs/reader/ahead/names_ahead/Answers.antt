use Rattle.std.proofs.Common.{ap, ◌∙◌, refl}
use Rattle.texts.specs.Lines.{lines_of}
use Rattle.msc_text.specs.Reader.Ahead.{with_heads, names_ahead}
use Rattle.msc_text.proofs.reader.ahead.names_ahead.Goals as goal

pub lines-init : goal.lines-init
unfolding names_ahead
lines-init c = rw c.new-names.ensures refl

pub returns-in-None : goal.returns-in-None
returns-in-None c = rw c.in-None.ensures.no_line at c.lines.invariant

pub lines-preserved : goal.lines-preserved
lines-preserved c =
    let so_far = rw c.in-Some.ensures.line at c.lines.invariant in
    ap (λ l. with_heads l (lines_of c.in-Some.after.now)) c.in_ok-add_head-in-Some.ensures ∙ so_far
