use Rattle.std.proofs.Common.{◌≡◌, ◌⊎◌, sym, ap, ◌∙◌, subst}
use Rattle.std.proofs.lemmas.Option.{same_Some}
use Rattle.chart.specs.Histories.{chart_of}
use Rattle.reordering.specs.OtherRuns.OtherRuns.{IsRunWithin, IsOvertaken, BeforeWithin}
use Rattle.reordering.specs.OtherRuns.Walks.{Wanted, wanted, parted}
use Rattle.chart.specs.declared.run_steps.step.Step.{Step}
use Rattle.chart.specs.declared.run_steps.step.Step.TheVariants.{Receive}
use Rattle.reordering.specs.Witness.Orders.{IsInOrder}
use Rattle.reordering.specs.Witness.Steps.{with_step, nothing}
use Rattle.chart.specs.RunSteps.Steps.{history_of, place_after}
use Rattle.reordering.proofs.WitnessLemmas.FoundLemmas.{numbered-at, with_step-at, is_within-at, found_none, found_run, in_order}
use Rattle.reordering.proofs.witness.overtaking.overtake.Goals as goal

pub returns-then-has-clause-found : goal.returns-then-has-clause-found
returns-then-has-clause-found c = λ n x y legal is_x is_y.
    let steps = c.args.steps.now in
    let k = c.args.slots in
    let g = history_of steps in
    let r = c.index.result.now in
    let e = c.index-2.result.now in
    let is_receive = c.requires.receive in
    let its_r = numbered-at steps c.in_ok-numbered.numbered.items c.args.receive r (Receive is_receive.0 is_receive.1 is_receive.2) c.in_ok-numbered.ensures c.index.ensures is_receive.3 in
    let its_e = numbered-at steps c.in_ok-numbered.numbered.items c.args.earlier e x c.in_ok-numbered.ensures c.index-2.ensures is_x in
    let w : Wanted = with_step k nothing r.step r.turn in
    let stand = c.complete.ensures w (c.want.ensures nothing c.in_ok-needs.ensures) in
    let wants = ap (wanted k g) (with_step-at k r.step (Receive is_receive.0 is_receive.1 is_receive.2) r.turn _ its_r.0 its_r.1) in
    let within = sym (is_within-at (wanted k g w) _ e.step x e.turn _ wants its_e.0 its_e.1) ∙ sym (c.has.ensures (wanted k g w) stand) ∙ c.if-has.true in
    subst (λ (z : Step). (place_after steps c.args.earlier x ≡ place_after steps c.args.receive z) ⊎ BeforeWithin k (chart_of g) (place_after steps c.args.earlier x) (place_after steps c.args.receive z)) (same_Some (Receive is_receive.0 is_receive.1 is_receive.2) y (sym is_receive.3 ∙ is_y))
    (found_none n k steps legal c.args.receive is_receive.0 is_receive.1 is_receive.2 is_receive.3 c.args.earlier x is_x within)

pub returns-clause-found : goal.returns-clause-found
returns-clause-found c = λ n x y legal is_x is_y.
    let steps = c.args.steps.now in
    let k = c.args.slots in
    let g = history_of steps in
    let r = c.index.result.now in
    let e = c.index-2.result.now in
    let is_receive = c.requires.receive in
    let its_r = numbered-at steps c.in_ok-numbered.numbered.items c.args.receive r (Receive is_receive.0 is_receive.1 is_receive.2) c.in_ok-numbered.ensures c.index.ensures is_receive.3 in
    let its_e = numbered-at steps c.in_ok-numbered.numbered.items c.args.earlier e x c.in_ok-numbered.ensures c.index-2.ensures is_x in
    let w : Wanted = with_step k nothing r.step r.turn in
    let stand = c.complete.ensures w (c.want.ensures nothing c.in_ok-needs.ensures) in
    let wants = ap (wanted k g) (with_step-at k r.step (Receive is_receive.0 is_receive.1 is_receive.2) r.turn _ its_r.0 its_r.1) in
    let outside = sym (is_within-at (wanted k g w) _ e.step x e.turn _ wants its_e.0 its_e.1) ∙ sym (c.has.ensures (wanted k g w) stand) ∙ c.if-has.false in
    let run = c.in_ok-part.field-0.items in
    let made = c.in_ok-part.ensures.history (wanted k g w) stand ∙ ap (λ (v : Wanted). parted v.sends v.receives g g) wants in
    subst (λ (z : Step). IsRunWithin n k (chart_of g) (history_of run) × IsOvertaken (chart_of g) (history_of run) (place_after steps c.args.earlier x) (place_after steps c.args.receive z)) (same_Some (Receive is_receive.0 is_receive.1 is_receive.2) y (sym is_receive.3 ∙ is_y))
    (found_run n k steps legal c.args.receive is_receive.0 is_receive.1 is_receive.2 is_receive.3 c.args.earlier x is_x outside run made)

pub returns-clause-order : goal.returns-clause-order
returns-clause-order c = λ n y legal is_y.
    let steps = c.args.steps.now in
    let k = c.args.slots in
    let g = history_of steps in
    let r = c.index.result.now in
    let is_receive = c.requires.receive in
    let its_r = numbered-at steps c.in_ok-numbered.numbered.items c.args.receive r (Receive is_receive.0 is_receive.1 is_receive.2) c.in_ok-numbered.ensures c.index.ensures is_receive.3 in
    let w : Wanted = with_step k nothing r.step r.turn in
    let stand = c.complete.ensures w (c.want.ensures nothing c.in_ok-needs.ensures) in
    let wants = ap (wanted k g) (with_step-at k r.step (Receive is_receive.0 is_receive.1 is_receive.2) r.turn _ its_r.0 its_r.1) in
    subst (λ (z : Step). IsInOrder k steps (place_after steps c.args.receive z) c.in_ok-part.field-0.items) (same_Some (Receive is_receive.0 is_receive.1 is_receive.2) y (sym is_receive.3 ∙ is_y))
    (in_order n k steps legal c.args.receive is_receive.0 is_receive.1 is_receive.2 is_receive.3 (wanted k g w) wants c.in_ok-part.field-0.items (c.in_ok-part.ensures.order (wanted k g w) stand))
