use Rattle.std.proofs.Common.{◌≡◌, ◌-◌, suc, subst, arith}
use Rattle.chart.specs.Events.{is_receive_from}
use Rattle.chart.specs.Charts.{at, BelongsTo, IsSendTo, chart_lines}
use Rattle.chart.proofs.Belongs.{IsEvent-from_passes, not_both}
use Rattle.closure.proofs.ReadLemmas.{line_within}
use Rattle.closure.proofs.past.send_of.Goals as goal

pub returns-then-line-len : goal.returns-then-line-len
returns-then-line-len c = λ q received.
    let event = IsEvent-from_passes (chart_lines c.args.linked.now) (is_receive_from q) (at (suc c.args.line) c.args.index) received in
    let within = line_within c.args.linked.now c.args.line c.args.index event in
    absurd (omega (arith, within, c.if-line-len.true, c.len.ensures.value))

pub returns-then-index-eq0 : goal.returns-then-index-eq0
returns-then-index-eq0 c = λ q received.
    let event = IsEvent-from_passes (chart_lines c.args.linked.now) (is_receive_from q) (at (suc c.args.line) c.args.index) received in
    absurd (omega (arith, event.0, c.if-index-eq0.true))

pub returns-then-index-len_of : goal.returns-then-index-len_of
returns-then-index-len_of c = λ q received.
    let event = IsEvent-from_passes (chart_lines c.args.linked.now) (is_receive_from q) (at (suc c.args.line) c.args.index) received in
    absurd (omega (arith, event.1, c.if-index-len_of.true, c.len_of.ensures.value))

pub returns-in-Receiver : goal.returns-in-Receiver
returns-in-Receiver c = λ q received.
    let e : suc (c.args.index - 1) ≡ c.args.index = omega (arith, c.if-index-eq0.false) in
    not_both (chart_lines c.args.linked.now) (suc c.in-Receiver.line) q (at (suc c.args.line) c.args.index) (subst (λ i. IsSendTo (chart_lines c.args.linked.now) (suc c.in-Receiver.line) (at (suc c.args.line) i)) e c.in-Receiver.ensures.partner.1) received

pub returns-in-Sender : goal.returns-in-Sender
returns-in-Sender c =
    let e : suc (c.args.index - 1) ≡ c.args.index = omega (arith, c.if-index-eq0.false) in
    rw c.at_place.ensures (subst (λ i. BelongsTo (chart_lines c.args.linked.now) (at (suc c.in-Sender.sender) c.in-Sender.index) (at (suc c.args.line) i)) e c.in-Sender.ensures.partner.1)
