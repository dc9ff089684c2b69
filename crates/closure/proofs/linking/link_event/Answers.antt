use Rattle.std.proofs.Common.{suc, length, Some, ap, sym, ◌∙◌, arith}
use Rattle.chart.specs.declared.event.Event.TheVariants.{Receive}
use Rattle.std.proofs.lemmas.Bool.{false≢true}
use Rattle.chart.specs.Events.{ith}
use Rattle.chart.specs.Charts.{at, chart_lines}
use Rattle.closure.proofs.ReadLemmas.{ith_read, partner_within}
use Rattle.closure.proofs.LinkLemmas.{HasPassed-send, HasPassed-receive, HasSameName-from_events, belongs_to_next, none_left, no_more, IsNextSend-same}
use Rattle.closure.proofs.linking.link_event.Goals as goal

pub returns-in-Send-clause-next : goal.returns-in-Send-clause-next
returns-in-Send-clause-next c =
    HasPassed-send (chart_lines c.args.lines.now) (length c.args.lines.now) c.args.line c.args.place c.args.passed.now c.requires.passed c.in-Send.to c.in-Send.name (c.event_at.ensures ∙ ap (λ x. Some x) c.in-Send.is)

pub events_at-events-requires : goal.events_at-events-requires
events_at-events-requires c =
    let w = partner_within c.args.lines.now c.args.line c.args.place _ c.requires.chart c.requires.line (c.event_at.ensures ∙ ap (λ x. Some x) c.in-Receive.is) in
    omega (arith, w, c.place-in-Receive.ensures.value)

pub at-requires : goal.at-requires
at-requires c =
    let w = partner_within c.args.lines.now c.args.line c.args.place _ c.requires.chart c.requires.line (c.event_at.ensures ∙ ap (λ x. Some x) c.in-Receive.is) in
    omega (arith, w, c.place-in-Receive.ensures.value, c.requires.passed.same)

pub returns-in_default-clause-fault : goal.returns-in_default-clause-fault
returns-in_default-clause-fault c =
    let at_r = c.event_at.ensures ∙ ap (λ x. Some x) c.in-Receive.is in
    let w = partner_within c.args.lines.now c.args.line c.args.place _ c.requires.chart c.requires.line at_r in
    none_left (chart_lines c.args.lines.now) (length c.args.lines.now) c.args.line c.args.place c.args.passed.now c.requires.passed c.place-in-Receive.result c.in-Receive.from c.in-Receive.name c.in-Receive.region (omega (arith, w, c.place-in-Receive.ensures.value)) c.place-in-Receive.ensures.value at_r
    (no_more _ _ _ _ _ _ c.events_at-events.ensures c.at_place.ensures c.at.ensures c.in_default.ensures)

pub returns-then-not-are_same-clause-fault : goal.returns-then-not-are_same-clause-fault
returns-then-not-are_same-clause-fault c =
    let at_r = c.event_at.ensures ∙ ap (λ x. Some x) c.in-Receive.is in
    let w = partner_within c.args.lines.now c.args.line c.args.place _ c.requires.chart c.requires.line at_r in
    let next = IsNextSend-same _ (chart_lines c.args.lines.now (suc c.place-in-Receive.result)) _ (suc c.args.line) _ _ c.in-Some.index c.events_at-events.ensures c.at_place.ensures c.at.ensures c.in-Some.ensures in
    let belongs = belongs_to_next (chart_lines c.args.lines.now) (length c.args.lines.now) c.args.line c.args.place c.args.passed.now c.requires.passed c.place-in-Receive.result c.in-Receive.from c.in-Receive.name c.in-Receive.region (omega (arith, w, c.place-in-Receive.ensures.value)) c.place-in-Receive.ensures.value at_r c.in-Some.index next in (
      at (suc c.place-in-Receive.result) c.in-Some.index,
      c.index-events-index.result,
      Receive c.in-Receive.from c.in-Receive.name c.in-Receive.region,
      belongs,
      ap (λ xs. ith xs c.in-Some.index) (sym c.events_at-events.ensures) ∙ ith_read c.events_at-events.result.now c.in-Some.index c.index-events-index.result c.in-Some.ensures.begun c.in-Some.ensures.within c.index-events-index.is,
      at_r,
      λ same. false≢true (sym c.if-not-are_same.true ∙ c.are_same.ensures.1 (c.name.ensures ∙ same)),
    )

pub returns-clause-ok : goal.returns-clause-ok
returns-clause-ok c =
    let at_r = c.event_at.ensures ∙ ap (λ x. Some x) c.in-Receive.is in
    let w = partner_within c.args.lines.now c.args.line c.args.place _ c.requires.chart c.requires.line at_r in
    let next = IsNextSend-same _ (chart_lines c.args.lines.now (suc c.place-in-Receive.result)) _ (suc c.args.line) _ _ c.in-Some.index c.events_at-events.ensures c.at_place.ensures c.at.ensures c.in-Some.ensures in
    let belongs = belongs_to_next (chart_lines c.args.lines.now) (length c.args.lines.now) c.args.line c.args.place c.args.passed.now c.requires.passed c.place-in-Receive.result c.in-Receive.from c.in-Receive.name c.in-Receive.region (omega (arith, w, c.place-in-Receive.ensures.value)) c.place-in-Receive.ensures.value at_r c.in-Some.index next in (
      omega (arith, w, c.place-in-Receive.ensures.value),
      belongs,
      HasSameName-from_events (chart_lines c.args.lines.now) (at (suc c.place-in-Receive.result) c.in-Some.index) (at (suc c.args.line) (suc c.args.place)) c.index-events-index.result (Receive c.in-Receive.from c.in-Receive.name c.in-Receive.region)
          (ap (λ xs. ith xs c.in-Some.index) (sym c.events_at-events.ensures) ∙ ith_read c.events_at-events.result.now c.in-Some.index c.index-events-index.result c.in-Some.ensures.begun c.in-Some.ensures.within c.index-events-index.is)
          at_r
          (sym c.name.ensures ∙ c.are_same.ensures.0 c.if-not-are_same.false),
    )

pub returns-clause-next : goal.returns-clause-next
returns-clause-next c =
    let at_r = c.event_at.ensures ∙ ap (λ x. Some x) c.in-Receive.is in
    let w = partner_within c.args.lines.now c.args.line c.args.place _ c.requires.chart c.requires.line at_r in
    let next = IsNextSend-same _ (chart_lines c.args.lines.now (suc c.place-in-Receive.result)) _ (suc c.args.line) _ _ c.in-Some.index c.events_at-events.ensures c.at_place.ensures c.at.ensures c.in-Some.ensures in
    rw c.set.ensures
    (HasPassed-receive (chart_lines c.args.lines.now) (length c.args.lines.now) c.args.line c.args.place c.args.passed.now c.requires.passed c.place-in-Receive.result c.in-Receive.from c.in-Receive.name c.in-Receive.region (omega (arith, w, c.place-in-Receive.ensures.value)) c.place-in-Receive.ensures.value at_r c.in-Some.index next)
