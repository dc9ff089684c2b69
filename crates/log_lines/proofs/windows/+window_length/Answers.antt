use Rattle.std.proofs.Common.{◌≡◌, ◌+◌, ◌-◌, ap, subst, arith, length, take, suc, [], ◌∷◌, ◌++◌, length-append}
use Rattle.std.specs.List.{join_with_byte}
use Rattle.log_lines.specs.Reading.{all_lines}
use Rattle.log_lines.proofs.WindowLemmas.{text_cut, lines_cut, window_first, window_more}
use Rattle.log_lines.proofs.windows.+window_length.Goals as goal

pub returns-then-more-eq0-clause-within : goal.returns-then-more-eq0-clause-within
returns-then-more-eq0-clause-within t c =
    let cut = text_cut _ _ _ c.in-Some.ensures.line c.in-Some.ensures.end in
    omega (arith, ap length cut, length-append (c.in-Some.line.now ++ 10 ∷ []) c.in-Some.after.now, length-append c.in-Some.line.now (10 ∷ []))

pub returns-then-more-eq0-clause-value : goal.returns-then-more-eq0-clause-value
returns-then-more-eq0-clause-value t c =
    let cut = text_cut _ _ _ c.in-Some.ensures.line c.in-Some.ensures.end in
    let lines = lines_cut _ _ _ c.in-Some.ensures.line c.in-Some.ensures.end in
    rw c.if-more-eq0.true (window_first c.args.text.now c.in-Some.line.now c.in-Some.after.now cut lines)

pub returns-else-more-eq0-clause-within : goal.returns-else-more-eq0-clause-within
returns-else-more-eq0-clause-within t c =
    let cut = text_cut _ _ _ c.in-Some.ensures.line c.in-Some.ensures.end in
    omega (arith, c.window_length.ensures.within, ap length cut, length-append (c.in-Some.line.now ++ 10 ∷ []) c.in-Some.after.now, length-append c.in-Some.line.now (10 ∷ []))

pub returns-else-more-eq0-clause-value : goal.returns-else-more-eq0-clause-value
returns-else-more-eq0-clause-value t c =
    let cut = text_cut _ _ _ c.in-Some.ensures.line c.in-Some.ensures.end in
    let lines = lines_cut _ _ _ c.in-Some.ensures.line c.in-Some.ensures.end in
    let many : suc (c.args.more - 1) ≡ c.args.more = omega arith in
    subst (λ n. take (length c.in-Some.line.now + 1 + c.window_length.result) c.args.text.now ≡ join_with_byte 10 (take (n + 1) (all_lines c.args.text.now))) many
    (window_more c.args.text.now c.in-Some.line.now c.in-Some.after.now (c.args.more - 1) c.window_length.result cut lines c.window_length.ensures.value)
