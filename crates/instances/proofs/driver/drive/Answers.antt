use Rattle.std.proofs.Common.{◌≡◌, ◌+◌, [], ◌∷◌, ◌++◌, Some, None, sym, ap, ap₂, ◌∙◌, subst, refl, arith}
use Rattle.behaviour.specs.Bare.{bare_act}
use Rattle.instances.specs.declared.end.End.TheVariants.{Stopped, TurnsSpent, Memory}
use Rattle.instances.specs.Answering.{Allows}
use Rattle.instances.specs.Driving.{meaning, Moment, IsRun}
use Rattle.instances.specs.Traces.{turns_of, turn_of, last_turn}
use Rattle.instances.proofs.Running.{HasRun, first_moment, has-begun, has-run-on, has-stopped, has-spent, has-failed, at-state}
use Rattle.instances.proofs.driver.drive.Goals as goal

pub loop-turn-init : goal.loop-turn-init
loop-turn-init g c =
    let does = goal.Behaviour-dyn g c.args.behaviour.now in
    let m = meaning does.act does.after in
    let first = c.args.behaviour.now.1 in
    let old = c.args.mailbox in
    let run = has-begun m first old in
    let nothing = sym c.new-stretches.ensures.items in
    (first, refl, subst (λ kept. HasRun m first old (turns_of kept) 0 (first_moment first old)) nothing run)

pub returns-in-Err : goal.returns-in-Err
returns-in-Err g c =
    let does = goal.Behaviour-dyn g c.args.behaviour.now in
    let m = meaning does.act does.after in
    let first = c.args.behaviour.now.1 in
    let old = c.args.mailbox in
    let most = c.args.turns in
    let (left, is, run) = c.loop-turn.invariant in
    let trace = c.of.ensures ∙ ap turns_of c.reserve.ensures.items in
    let failed = has-failed m first old most _ c.loop-turn.turn _ run c.loop-turn-test.true in
    (left, is, subst (λ t. IsRun m most first old t Memory (record { state = left; view = c.loop-turn.mailbox })) (sym trace) failed)

pub returns-in-None : goal.returns-in-None
returns-in-None g c =
    let does = goal.Behaviour-dyn g c.args.behaviour.now in
    let m = meaning does.act does.after in
    let first = c.args.behaviour.now.1 in
    let old = c.args.mailbox in
    let most = c.args.turns in
    let (state, is, run) = c.loop-turn.invariant in
    let last = c.loop-turn.last in
    let left = m.after state last in
    let here = at-state c.loop-turn.behaviour.now (c.args.behaviour.now.0, state) is
    (λ p. meaning (goal.Behaviour-dyn g p).act (goal.Behaviour-dyn g p).after)
    c.next-act.result last c.next-act.new.self c.next-act.ensures.0 c.next-act.ensures.1 in
    let done = turns_of c.loop-turn.stretches.items in
    let bare = c.bare-bare.ensures ∙ ap bare_act c.in-None.ensures.0 in
    let trace : c.of-in-None.result ≡ done ++ last_turn ∷ [] =
    c.of-in-None.ensures ∙ c.add_turn-in-None.ensures
    ∙ ap₂ (λ kept a. turns_of kept ++ record { act = a; answer = None } ∷ []) c.reserve.ensures.items bare in
    let stops = sym here.0 ∙ c.in-None.ensures.0 in
    let stopped = has-stopped m first old most done c.loop-turn.turn _ run c.loop-turn-test.true stops in
    let recorded = subst (λ t. IsRun m most first old t Stopped (record { state = left; view = c.loop-turn.mailbox })) (sym trace) stopped in
    let unmoved = sym c.in-None.ensures.1 in
    (left, here.1, subst (λ new. IsRun m most first old c.of-in-None.result Stopped (record { state = left; view = new })) unmoved recorded)

pub loop-turn-preserved : goal.loop-turn-preserved
loop-turn-preserved g c =
    let does = goal.Behaviour-dyn g c.args.behaviour.now in
    let m = meaning does.act does.after in
    let first = c.args.behaviour.now.1 in
    let old = c.args.mailbox in
    let (state, is, run) = c.loop-turn.invariant in
    let last = c.loop-turn.last in
    let left = m.after state last in
    let here = at-state c.loop-turn.behaviour.now (c.args.behaviour.now.0, state) is
    (λ p. meaning (goal.Behaviour-dyn g p).act (goal.Behaviour-dyn g p).after)
    c.next-act.result last c.next-act.new.self c.next-act.ensures.0 c.next-act.ensures.1 in
    let done = turns_of c.loop-turn.stretches.items in
    let answer = c.in-Some.answer in
    let new = c.perform.new.mailbox in
    let now : Moment _ = record { state = state; last = last; view = c.loop-turn.mailbox } in
    let allows = subst (λ a. Allows c.loop-turn.mailbox a answer new) here.0 c.in-Some.ensures in
    let bare = c.bare-bare.ensures ∙ ap bare_act here.0 in
    let reserved = ap turns_of c.reserve.ensures.items in
    let trace : turns_of c.add_turn.new.stretches.items ≡ done ++ turn_of (m.act state last) answer ∷ [] =
    c.add_turn.ensures
    ∙ ap (λ turns. turns ++ record { act = c.bare-bare.result; answer = Some c.bare.result } ∷ []) reserved
    ∙ ap₂ (λ a b. done ++ record { act = a; answer = Some b } ∷ []) bare c.bare.ensures in
    let more = has-run-on m first old done c.loop-turn.turn now answer new run allows in
    let next : Moment _ = record { state = left; last = answer; view = new } in
    (left, here.1, subst (λ turns. HasRun m first old turns (c.loop-turn.turn + 1) next) (sym trace) more)

pub returns : goal.returns
returns g c =
    let does = goal.Behaviour-dyn g c.args.behaviour.now in
    let m = meaning does.act does.after in
    let first = c.args.behaviour.now.1 in
    let old = c.args.mailbox in
    let most = c.args.turns in
    let (left, is, run) = c.loop-turn.invariant in
    let all : c.loop-turn.turn ≡ most = omega (arith, c.loop-turn-test.false, c.loop-turn.auto.turn-end) in
    let spent = has-spent m first old most _ c.loop-turn.turn _ run all in
    (left, is, subst (λ t. IsRun m most first old t TurnsSpent (record { state = left; view = c.loop-turn.mailbox })) (sym c.of-2.ensures) spent)
