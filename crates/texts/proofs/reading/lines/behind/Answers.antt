use Rattle.std.proofs.Common.{sym, ap, ◌∙◌, ◌++◌, drop, length}
use Rattle.std.proofs.lemmas.List.{take-append-drop}
use Rattle.texts.proofs.Lookups.{same_bytes}
use Rattle.texts.proofs.reading.lines.behind.Goals as goal

pub returns-in-Some : goal.returns-in-Some
returns-in-Some c =
    let n = length c.args.front.now in
    let bytes = c.args.bytes.now in
    let cases = c.in-Some.ensures.cases in
    sym (take-append-drop n bytes) ∙ ap (λ l. l ++ drop n bytes) (same_bytes _ _ cases.0) ∙ ap (λ l. c.args.front.now ++ l) (sym cases.1)
