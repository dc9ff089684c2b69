use Rattle.std.proofs.Common.{◌∙◌, ◌+◌, sym}
use Rattle.std.proofs.lemmas.Option.{slice_get_within}
use Rattle.std.proofs.lemmas.Bool.{false≢true}
use Rattle.race_verdicts.proofs.LuckLemmas.RunLemmas.{run_alone, run_longer, run_read}
use Rattle.race_verdicts.proofs.luck.runs.run_at.Goals as goal

pub returns-then-not-is_next_alike : goal.returns-then-not-is_next_alike
returns-then-not-is_next_alike c =
    run_alone c.args.items.now c.args.place c.requires.place (λ its. false≢true (sym c.if-not-is_next_alike.true ∙ c.is_next_alike.ensures.1 its))

pub returns : goal.returns
returns c =
    let items = c.args.items.now in
    let runs = c.args.runs.now in
    let place = c.args.place in
    let next = c.is_next_alike.ensures.0 c.if-not-is_next_alike.false in
    run_longer items place c.in-Some.run' next (run_read items runs (place + 1) c.in-Some.run' c.requires.later (slice_get_within items (place + 1) next.next next.next_is) (sym c.at.ensures ∙ c.in-Some.is))
