use Rattle.std.proofs.Common.{◌∙◌, sym, ap}
use Rattle.regex.specs.Locations.{location, location_count}
use Rattle.regex.specs.Writes.{group_of}
use Rattle.log_formats.specs.Patterns.PatternReading.{window_of, line_at, match_step, matched, event_matched}
use Rattle.log_formats.specs.Patterns.Unread.{unread_by}
use Rattle.log_lines.specs.Reading.{all_lines}
use Rattle.log_formats.proofs.PatternsLemmas.MatchLemmas.{match_same, matched_same, unreads_same, begins_here, matched_here, unread_here}
use Rattle.log_formats.proofs.patterns.search.line_found.Goals as goal

pub returns-then-line_at-eq0-clause-step : goal.returns-then-line_at-eq0-clause-step
returns-then-line_at-eq0-clause-step c =
    let found = c.in-Some.ensures.found in
    let first = window_of 0 (all_lines c.args.text.now) in
    c.match_step-step.ensures
    ∙ match_same c.args.window.now first (location c.captures_read.new.locations) (group_of found.0) (location_count c.captures_read.new.locations) found.2.1.1 c.args.groups (rw c.captures_read.ensures.count c.requires) c.end.result
    ∙ ap (match_step c.args.groups c.args.window.now first (group_of found.0)) (c.end.ensures ∙ ap (λ s. s.1) found.2.0)
    ∙ sym (begins_here c.args.groups c.args.window.now first found.0 (ap (line_at c.args.window.now) (sym (c.start.ensures ∙ ap (λ s. s.0) found.2.0)) ∙ sym c.line_at.ensures ∙ c.if-line_at-eq0.true))
    ∙ sym (ap (matched c.args.groups c.args.window.now first) found.1)

pub returns-then-line_at-eq0-clause-event : goal.returns-then-line_at-eq0-clause-event
returns-then-line_at-eq0-clause-event c =
    let found = c.in-Some.ensures.found in
    c.event_in.ensures
    ∙ matched_same c.args.window.now (location c.captures_read.new.locations) (group_of found.0) (location_count c.captures_read.new.locations) found.2.1.1 c.args.groups (rw c.captures_read.ensures.count c.requires)
    ∙ sym (matched_here c.args.groups c.args.window.now found.0 (ap (line_at c.args.window.now) (sym (c.start.ensures ∙ ap (λ s. s.0) found.2.0)) ∙ sym c.line_at.ensures ∙ c.if-line_at-eq0.true))
    ∙ sym (ap (event_matched c.args.groups c.args.window.now) found.1)

pub returns-then-line_at-eq0-clause-unread : goal.returns-then-line_at-eq0-clause-unread
returns-then-line_at-eq0-clause-unread c =
    let found = c.in-Some.ensures.found in
    let first = window_of 0 (all_lines c.args.text.now) in
    let step = c.match_step-step.ensures
    ∙ match_same c.args.window.now first (location c.captures_read.new.locations) (group_of found.0) (location_count c.captures_read.new.locations) found.2.1.1 c.args.groups (rw c.captures_read.ensures.count c.requires) c.end.result
    ∙ ap (match_step c.args.groups c.args.window.now first (group_of found.0)) (c.end.ensures ∙ ap (λ s. s.1) found.2.0) in
    c.unread_if_other.ensures
    ∙ unreads_same c.args.window.now (location c.captures_read.new.locations) (group_of found.0) (location_count c.captures_read.new.locations) found.2.1.1 c.args.groups (rw c.captures_read.ensures.count c.requires) _ _ step
    ∙ sym (unread_here c.args.groups c.args.window.now first found.0 (ap (line_at c.args.window.now) (sym (c.start.ensures ∙ ap (λ s. s.0) found.2.0)) ∙ sym c.line_at.ensures ∙ c.if-line_at-eq0.true))
    ∙ sym (ap (unread_by c.args.groups c.args.window.now first) found.1)
