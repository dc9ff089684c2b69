use Rattle.std.proofs.Common.{◌≡◌, ◌∷◌, lit<}
use Rattle.std.proofs.lemmas.Str.Pattern.{split_after, strip_prefix_char}
use Rattle.cmd_draw.proofs.SpanLemmas.{no_dots}
use Rattle.cmd_draw.proofs.events.round_dots.Goals as goal

pub returns-in_err-first-clause-only : goal.returns-in_err-first-clause-only
returns-in_err-first-clause-only c first last word digits =
    let cut = split_after 46 c.args.word.now first (46 ∷ last) c.split_once.result c.split_once.ensures.cases (lit< tt) word (no_dots first digits) in
    absurd (rw c.in_err-first.was at cut)

pub returns-in_err-last-clause-only : goal.returns-in_err-last-clause-only
returns-in_err-last-clause-only c first last word digits =
    let cut = split_after 46 c.args.word.now first (46 ∷ last) c.split_once.result c.split_once.ensures.cases (lit< tt) word (no_dots first digits) in
    let parts = rw c.in_ok-first.was at cut in
    let stripped = strip_prefix_char 46 c.in_ok-first.rest.now c.strip_prefix.result c.strip_prefix.ensures.cases (lit< tt) in
    let none = rw c.in_err-last.was at stripped in
    absurd (none last parts.1)

pub returns-clause-only : goal.returns-clause-only
returns-clause-only c first last word digits =
    let cut = split_after 46 c.args.word.now first (46 ∷ last) c.split_once.result c.split_once.ensures.cases (lit< tt) word (no_dots first digits) in
    let parts = rw c.in_ok-first.was at cut in
    let stripped = strip_prefix_char 46 c.in_ok-first.rest.now c.strip_prefix.result c.strip_prefix.ensures.cases (lit< tt) in
    let some = rw c.in_ok-last.was at stripped in
    let rest = parts.1 in
    let same : c.in_ok-last.last.now ≡ last = cc in
    (parts.0, same)
