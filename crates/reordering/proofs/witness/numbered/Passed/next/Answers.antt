use Rattle.std.proofs.Common.{◌≡◌, ◌+◌, [], ◌∷◌, sym, subst, arith}
use Rattle.chart.specs.Histories.{received}
use Rattle.reordering.specs.OtherRuns.Walks.{sends_in, raise}
use Rattle.chart.specs.declared.run_steps.step.Step.{Step}
use Rattle.chart.specs.declared.run_steps.step.Step.TheVariants as steps
use Rattle.reordering.specs.Witness.Steps.{HavePassed}
use Rattle.chart.specs.RunSteps.Steps.{occurrence_of, turn_of}
use Rattle.reordering.proofs.WitnessLemmas.TableLemmas.{counts-same}
use Rattle.reordering.proofs.WitnessLemmas.StepLemmas.{sends-raised, receives-raised}
use Rattle.reordering.proofs.witness.numbered.Passed.next.Goals as goal

pub overflow_add-turn : goal.overflow_add-turn
overflow_add-turn c =
    let h = c.requires.0 in
    omega (arith, c.at-turn.ensures (sends_in h) c.requires.1.sent, (c.requires.2 c.in-Send.from c.in-Send.to).0)

pub overflow_add-turn-in-Receive : goal.overflow_add-turn-in-Receive
overflow_add-turn-in-Receive c =
    let h = c.requires.0 in
    omega (arith, c.at-turn-in-Receive.ensures (received h) c.requires.1.received, (c.requires.2 c.in-Receive.from c.in-Receive.at).1)

pub returns-in-Send : goal.returns-in-Send
returns-in-Send c = λ h passed.
    let at_lane = c.at-turn.ensures (sends_in h) passed.sent in
    let turn : c.at-turn.result + 1 ≡ sends_in h c.in-Send.from c.in-Send.to + 1 = omega (arith, at_lane) in
    subst (λ (x : Step). (c.at-turn.result + 1 ≡ turn_of h x) × HavePassed c.raise.new.self c.args.self.now.receives (occurrence_of x ∷ h)) (sym c.in-Send.is) (
      turn,
      record {
        sent = counts-same c.raise.new.self (raise (sends_in h) c.in-Send.from c.in-Send.to (sends_in h c.in-Send.from c.in-Send.to + 1)) (sends_in (occurrence_of (steps.Send c.in-Send.from c.in-Send.to c.in-Send.name) ∷ h)) (sends-raised h c.in-Send.from c.in-Send.to (record { name = c.in-Send.name; body = [] })) (rw turn at (c.raise.ensures (sends_in h) passed.sent));
        received = passed.received;
      },
    )

pub returns-in-Receive : goal.returns-in-Receive
returns-in-Receive c = λ h passed.
    let at_lane = c.at-turn-in-Receive.ensures (received h) passed.received in
    let turn : c.at-turn-in-Receive.result + 1 ≡ received h c.in-Receive.from c.in-Receive.at + 1 = omega (arith, at_lane) in
    subst (λ (x : Step). (c.at-turn-in-Receive.result + 1 ≡ turn_of h x) × HavePassed c.args.self.now.sends c.raise-in-Receive.new.self (occurrence_of x ∷ h)) (sym c.in-Receive.is) (
      turn,
      record {
        sent = passed.sent;
        received = counts-same c.raise-in-Receive.new.self (raise (received h) c.in-Receive.from c.in-Receive.at (received h c.in-Receive.from c.in-Receive.at + 1)) (received (occurrence_of (steps.Receive c.in-Receive.at c.in-Receive.from c.in-Receive.region) ∷ h)) (receives-raised h c.in-Receive.at c.in-Receive.from c.in-Receive.region) (rw turn at (c.raise-in-Receive.ensures (received h) passed.received));
      },
    )
