use Rattle.std.proofs.Common.{◌≡◌, ◌↔◌, ◌-◌, suc, length, refl, subst, sym, ◌∙◌, inl, inr, arith}
use Rattle.std.specs.Prelude.{IsTrue}
use Rattle.std.proofs.lemmas.Bool.{false≢true}
use Rattle.std.proofs.lemmas.Result.{IfOk-weaker}
use Rattle.chart.specs.Charts.{at, BelongsTo, chart_lines}
use Rattle.chart.specs.Order.{Before}
use Rattle.chart.specs.Knowing.{IsUpTo}
use Rattle.closure.specs.Faults.{place_of}
use Rattle.closure.specs.Searches.{IsEarlierReceive}
use Rattle.closure.proofs.Impossible.{no_cycle}
use Rattle.closure.proofs.BeforeLemmas.{none_before, none_before_index, before_received, before_received_up}
use Rattle.closure.proofs.order.is_before.Goals as goal

pub returns-then-line-len : goal.returns-then-line-len
returns-then-line-len c =
    (λ never. absurd (false≢true never), λ before. absurd (none_before c.args.linked.now (place_of c.args.earlier.now) (at (suc c.args.line) c.args.index) c.args.line refl (omega (arith, c.if-line-len.true, c.len.ensures.value)) before))

pub returns-then-index-eq0 : goal.returns-then-index-eq0
returns-then-index-eq0 c =
    (λ never. absurd (false≢true never), λ before. absurd (none_before_index (chart_lines c.args.linked.now) (place_of c.args.earlier.now) (at (suc c.args.line) c.args.index) (inl (omega (arith, c.if-index-eq0.true))) before))

pub returns-then-index-len_of : goal.returns-then-index-len_of
returns-then-index-len_of c =
    (λ never. absurd (false≢true never), λ before. absurd (none_before_index (chart_lines c.args.linked.now) (place_of c.args.earlier.now) (at (suc c.args.line) c.args.index) (inr (omega (arith, c.if-index-len_of.true, c.len_of.ensures.value))) before))

pub returns-then-is_at : goal.returns-then-is_at
returns-then-is_at c =
    let same = c.is_at.ensures.0 c.if-is_at.true in (
      λ never. absurd (false≢true never),
      λ before. absurd (no_cycle (length c.args.linked.now) (chart_lines c.args.linked.now) c.requires.possible (at (suc c.args.line) c.args.index, subst (λ x. Before (chart_lines c.args.linked.now) x (at (suc c.args.line) c.args.index)) same before)),
    )

pub returns-then-is_earlier_receive : goal.returns-then-is_earlier_receive
returns-then-is_earlier_receive c =
    let e : suc (c.args.index - 1) ≡ c.args.index = omega (arith, c.if-index-eq0.false) in
    let belongs = subst (λ i. BelongsTo (chart_lines c.args.linked.now) (at (suc c.in-Sender.sender) c.in-Sender.sent) (at (suc c.args.line) i)) e c.in-Sender.ensures.partner.1 in
    let received = subst (λ q. IsEarlierReceive (chart_lines c.args.linked.now) q (place_of c.args.earlier.now) (at (suc c.args.line) c.args.index)) c.at_place.ensures (c.is_earlier_receive.ensures.0 c.if-is_earlier_receive.true) in
    (λ always. (before_received (chart_lines c.args.linked.now) (place_of c.args.earlier.now) (at (suc c.in-Sender.sender) c.in-Sender.sent) (at (suc c.args.line) c.args.index) belongs).1 (inl received), λ before. refl)

pub returns-else-is_earlier_receive : goal.returns-else-is_earlier_receive
returns-else-is_earlier_receive c =
    let e : suc (c.args.index - 1) ≡ c.args.index = omega (arith, c.if-index-eq0.false) in
    let belongs = subst (λ i. BelongsTo (chart_lines c.args.linked.now) (at (suc c.in-Sender.sender) c.in-Sender.sent) (at (suc c.args.line) i)) e c.in-Sender.ensures.partner.1 in
    let other = λ (received : IsEarlierReceive (chart_lines c.args.linked.now) (suc c.in-Sender.sender) (place_of c.args.earlier.now) (at (suc c.args.line) c.args.index)).
    false≢true (sym c.if-is_earlier_receive.false ∙ c.is_earlier_receive.ensures.1 (subst (λ q. IsEarlierReceive (chart_lines c.args.linked.now) q (place_of c.args.earlier.now) (at (suc c.args.line) c.args.index)) (sym c.at_place.ensures) received)) in
    let both = before_received_up (chart_lines c.args.linked.now) (place_of c.args.earlier.now) (at (suc c.in-Sender.sender) c.in-Sender.sent) (at (suc c.args.line) c.args.index) belongs other in
    IfOk-weaker c.is_up_to-in-Sender.result (λ b. IsTrue b ↔ IsUpTo (chart_lines c.args.linked.now) (at (suc c.in-Sender.sender) c.in-Sender.sent) (place_of c.args.earlier.now)) (λ b. IsTrue b ↔ Before (chart_lines c.args.linked.now) (place_of c.args.earlier.now) (at (suc c.args.line) c.args.index))
    (λ b h. (λ t. both.0 (h.0 t), λ before. h.1 (both.1 before))) c.is_up_to-in-Sender.ensures
