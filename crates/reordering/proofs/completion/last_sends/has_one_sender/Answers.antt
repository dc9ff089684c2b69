use Rattle.std.proofs.Common.{◌≡◌, ◌-◌, Some, get_or, sym, ap, ◌∙◌, leb-true, le-leb}
use Rattle.chart.specs.Events.{ith}
use Rattle.chart.specs.Order.{region_of_event}
use Rattle.chart.proofs.Tally.{ith_within}
use Rattle.closure.proofs.ReadLemmas.{ith_read}
use Rattle.reordering.proofs.CompletionLemmas.TableLemmas.{one_sender_is}
use Rattle.reordering.proofs.completion.last_sends.has_one_sender.Goals as goal

pub returns-else-region-eq0 : goal.returns-else-region-eq0
returns-else-region-eq0 c =
    let events = c.args.line.now.line.events in
    let event = c.event.result in
    let i = c.args.index in
    let receive = c.requires.receive in
    let at_i : ith events i ≡ Some event = ith_read events i event (ith_within events i receive.1 receive.2).0 c.requires.within c.event.ensures.value in
    let is = one_sender_is events c.event.ensures.line.regions i c.run_start.result c.region_start.result receive c.run_start.ensures c.region_start.ensures
    (λ none. c.if-region-eq0.false (c.region.ensures ∙ sym (ap region_of_event at_i) ∙ none)) in
    (λ le. is.0 (leb-true c.run_start.result c.region_start.result le), λ one. le-leb c.run_start.result c.region_start.result (is.1 one))
