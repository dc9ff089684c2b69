use Rattle.std.proofs.Common.{◌≡◌, suc, ◌-◌, sym, subst, arith, List}
use Rattle.chart.specs.Charts.{Place, LineView, BelongsTo, chart_lines}
use Rattle.closure.specs.Faults.{place_of}
use Rattle.closure.specs.Cycle.Rounds.{IsOnRound}
use Rattle.closure.proofs.CycleLemmas.LeadLemmas.{lead_short, leads_received, round_send, round_event}
use Rattle.closure.proofs.CycleLemmas.CycleLemmas.{on_round-next}
use Rattle.closure.proofs.cycle.shortest.links_of.Goals as goal

pub front_of-requires : goal.front_of-requires
front_of-requires c = round_event (chart_lines c.args.hearing.now) c.args.round.now.messages (place_of c.args.round.now.send) c.requires

pub receive_of-receive-requires-clause-received : goal.receive_of-receive-requires-clause-received
receive_of-receive-requires-clause-received c =
    subst (λ (l : List LineView). (r : Place) × BelongsTo (chart_lines l) (place_of c.loop-left.send) r) (sym c.lines.ensures.lines)
    (leads_received (chart_lines c.args.hearing.now) (place_of c.args.round.now.send) (place_of c.loop-left.send) c.loop-left.left c.loop-left-test.true c.loop-left.invariant.leads)

pub next_send-next-requires-clause-index : goal.next_send-next-requires-clause-index
next_send-next-requires-clause-index c =
    let event = round_event (chart_lines c.args.hearing.now) c.args.round.now.messages (place_of c.args.round.now.send) c.requires in
    lead_short c.args.hearing.now (place_of c.args.round.now.send) (c.loop-left.left - 1) c.receive_of-receive.result.instance c.in_ok-front.front c.lines.ensures.chart event c.in_ok-front.ensures

pub loop-left-preserved : goal.loop-left-preserved
loop-left-preserved c =
    let d = chart_lines c.args.hearing.now in
    let root = place_of c.args.round.now.send in
    let one : c.loop-left.left ≡ suc (c.loop-left.left - 1) = omega (arith, c.loop-left-test.true) in
    let on = subst (λ k. IsOnRound d root c.args.round.now.messages (place_of c.loop-left.send) k c.loop-left.links.items) one c.loop-left.invariant in
    let belongs = subst (λ (l : List LineView). BelongsTo (chart_lines l) (place_of c.loop-left.send) (place_of c.receive_of-receive.result)) c.lines.ensures.lines c.receive_of-receive.ensures in
    on_round-next c.args.hearing.now root c.args.round.now.messages c.loop-left.send c.receive_of-receive.result (c.loop-left.left - 1) c.loop-left.links.items c.link_on.new.links.items c.in_ok-front.front c.next_send-next.result
    (round_send d c.args.round.now.messages root c.requires) on belongs c.in_ok-front.ensures c.next_send-next.ensures c.in_ok-link_on.ensures
