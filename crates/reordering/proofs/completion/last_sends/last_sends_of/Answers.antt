use Rattle.std.proofs.Common.{◌≤◌, ◌+◌, length, All, sym, ap, ◌∙◌, subst, arith, add-one}
use Rattle.std.proofs.lemmas.Option.{none-some}
use Rattle.std.proofs.lemmas.List.{length_push, length-replicate}
use Rattle.chart.specs.Events.{partner_of}
use Rattle.chart.proofs.Places.{each-push}
use Rattle.reordering.specs.Completion.Tables.{HasPassed, AreLastSends}
use Rattle.reordering.proofs.CompletionLemmas.TableLemmas.{start_passed}
use Rattle.reordering.proofs.completion.last_sends.last_sends_of.Goals as goal

pub loop-place-init : goal.loop-place-init
loop-place-init c = (
  subst (λ xs. HasPassed c.args.line.now.line.events 0 0 xs) (sym c.in_ok-by_sender.ensures) (start_passed c.args.line.now.line.events c.args.instances),
  ap length c.in_ok-by_sender.ensures ∙ length-replicate c.args.instances 0,
  ap length c.new-row.ensures,
  λ k x at_k. absurd (none-some x (rw c.new-row.ensures at at_k)),
)

pub pass-next-requires-clause-senders : goal.pass-next-requires-clause-senders
pass-next-requires-clause-senders c = subst (λ n. All (λ m. partner_of m ≤ n) c.args.line.now.line.events) (sym c.loop-place.invariant.1) c.requires

pub pass-next-requires-clause-passed : goal.pass-next-requires-clause-passed
pass-next-requires-clause-passed c = c.loop-place.invariant.0

pub loop-place-preserved : goal.loop-place-preserved
loop-place-preserved c =
    let events = c.args.line.now.line.events in
    let place = c.loop-place.place in
    let old = c.loop-place.invariant in
    let row = c.loop-place.row in
    let next = c.pass-next.result in (
      subst (λ k. HasPassed events k c.pass-next.new.passed.all c.pass-next.new.passed.by_sender) (sym (add-one place)) c.pass-next.ensures.passed,
      c.pass-next.ensures.senders ∙ old.1,
      rw c.in_ok-push.ensures (length_push row next ∙ ap (λ k. k + 1) old.2),
      rw c.in_ok-push.ensures (each-push (λ k x. AreLastSends events k x) row next old.3 (subst (λ k. AreLastSends events k next) (sym old.2) c.pass-next.ensures.value)),
    )

pub returns : goal.returns
returns c = record { whole = omega (arith, c.loop-place.invariant.2, c.len-place-end.ensures.value); right = c.loop-place.invariant.3 }
