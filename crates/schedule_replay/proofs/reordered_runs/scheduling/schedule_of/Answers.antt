use Rattle.std.proofs.Common.{◌≡◌, ℕ, List, [], length, refl, sym, ap, ap₂, ◌∙◌, subst, arith}
use Rattle.std.specs.Prelude.{All}
use Rattle.chart.specs.NameSets.{AreNames}
use Rattle.schedule.specs.declared.command.Command.{Command}
use Rattle.schedule.specs.Plans.{Plan, IsAmong}
use Rattle.schedule.specs.Meaning.{meaning}
use Rattle.chart.specs.RunSteps.Steps.{history_of}
use Rattle.schedule_replay.specs.declared.reordered_runs.scheduling.TheConstants.{FIRST_LINE}
use Rattle.schedule_replay.specs.ReorderedRuns.Schedules.{commands_of}
use Rattle.schedule_replay.proofs.ReorderedRunsLemmas.Commands.{are-among, played}
use Rattle.schedule_replay.proofs.reordered_runs.scheduling.schedule_of.Goals as goal

pub new-requires : goal.new-requires
new-requires c =
    let n = length c.args.names.now in
    let same = sym c.in_ok-copied.ensures in
    record {
      several = omega (arith, ap length same, c.requires.several);
      names = subst AreNames same c.len.ensures.names;
      commands = subst (λ names. All (IsAmong (length names)) c.in_ok-commands.commands.items) same (subst (All (IsAmong n)) (sym c.in_ok-commands.ensures) (are-among n c.args.slots FIRST_LINE [] c.args.steps.now c.requires.legal));
    }

pub returns-clause-meaning : goal.returns-clause-meaning
returns-clause-meaning c = λ outside.
    let steps = c.args.steps.now in
    let n = length c.args.names.now in
    let whole : c.new.result ≡ record { names = c.args.names.now; capacity = c.args.slots; commands = commands_of FIRST_LINE steps } = c.new.ensures ∙ ap₂ (λ (names : List (List ℕ)) (commands : List Command). record { names = names; capacity = c.args.slots; commands = commands }) c.in_ok-copied.ensures c.in_ok-commands.ensures in
    subst (λ (plan : Plan). ((meaning plan).run.history ≡ history_of steps) × ((meaning plan).notes ≡ [])) (sym whole) (played n c.args.slots FIRST_LINE [] (λ p. 0) (λ p. 0) (λ p. refl) steps c.requires.legal outside)
