use Rattle.std.proofs.Common.{◌∙◌, sym, ap, option_map}
use Rattle.regex.specs.Bytes.{matcher_pattern}
use Rattle.texts.specs.Lines.{lines_of, end_of}
use Rattle.log_formats.specs.Patterns.PatternReading.{pattern_step}
use Rattle.log_formats.specs.Patterns.Unread.{unread_view, pattern_unread}
use Rattle.log_formats.proofs.PatternsLemmas.UnreadLemmas.{found_here}
use Rattle.log_formats.proofs.patterns.unread_lines.first_of_text.Goals as goal

pub returns-in-Some-clause-first : goal.returns-in-Some-clause-first
returns-in-Some-clause-first c =
    let s = c.args.search.now in
    let l = c.lines in
    let says = pattern_step s.groups s.more (matcher_pattern s.matcher) in
    let unreads = pattern_unread s.groups s.more (matcher_pattern s.matcher) in
    found_here says unreads c.args.range c.args.text l.number l.taken (lines_of l.rest.now) (end_of l.rest.now) (unread_view c.in-Some.why)
    (rw (sym l.invariant.groups, sym l.invariant.more, sym l.invariant.pattern) (sym c.found_at-found.ensures.unread ∙ ap (option_map unread_view) c.in-Some.is))
    ∙ l.invariant.first
