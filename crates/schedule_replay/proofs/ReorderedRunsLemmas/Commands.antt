-- What the commands of a run's steps mean.
use Rattle.std.proofs.Common.{◌≡◌, ℕ, zero, suc, ◌+◌, true, false, List, [], ◌∷◌, ◌++◌, length, take, Some, Result, Ok, refl, sym, ap, ap₂, ◌∙◌, subst, arith}
use Rattle.std.specs.Prelude.{fold, nat_lt, nat_le, slice_get, All}
use Rattle.std.proofs.lemmas.Bool.{lt-ltb, lt-leb}
use Rattle.std.proofs.lemmas.Option.{same_Some, slice_get_within}
use Rattle.std.proofs.lemmas.List.Elements.{All-nil, All-cons, All-head, All-tail}
use Rattle.chart.specs.declared.history.Occurrence.{Occurrence}
use Rattle.chart.specs.declared.line.TheConstants.{MAX_EVENTS}
use Rattle.chart.specs.Histories.{waiting, is_closed, chart_of, MayFollow, IsLegal}
use Rattle.chart.proofs.Begun.{legal_begun}
use Rattle.schedule.specs.declared.command.Word.{Word}
use Rattle.schedule.specs.Plans.{IsAmong}
use Rattle.schedule.specs.Meaning.{Run, State, changed, acts, noted, step}
use Rattle.chart.specs.declared.run_steps.step.Step.{Step}
use Rattle.chart.specs.declared.run_steps.step.Step.TheVariants.{Send, Receive}
use Rattle.chart.specs.RunSteps.Steps.{occurrence_of, after, IsOutside}
use Rattle.reordering.proofs.WitnessLemmas.FoundLemmas.{begins-after}
use Rattle.schedule_replay.specs.ReorderedRuns.Schedules.{command_of, commands_of}

-- a step of a legal run may follow what came before it
may-follow : (n k : ℕ) (h : List Occurrence) (x : Step) (steps : List Step) → IsLegal n k (after h (x ∷ steps)) → MayFollow n k h (occurrence_of x)
may-follow n k h x steps legal = (legal_begun n k (occurrence_of x ∷ h) (after (occurrence_of x ∷ h) steps) (begins-after (occurrence_of x ∷ h) steps) legal).0

-- its commands are of the instances
pub are-among : (n k line : ℕ) (h : List Occurrence) (steps : List Step) → IsLegal n k (after h steps) → All (IsAmong n) (commands_of line steps)
are-among n k line h [] legal = All-nil (IsAmong n)
are-among n k line h (x ∷ steps) legal = All-cons (IsAmong n) (command_of line x) (commands_of (line + 1) steps) (one x (may-follow n k h x steps legal)) (are-among n k (line + 1) (occurrence_of x ∷ h) steps legal)
  where
    one : (y : Step) → MayFollow n k h (occurrence_of y) → IsAmong n (command_of line y)
    one (Send a b name) may = (may.0.1, (may.0.3, may.0.4))
    one (Receive a b region) may = (may.0.1, (may.0.3, may.0.4))

-- if no coregion is open, the command of a step does what the step does
acted : (n k line : ℕ) (h : List Occurrence) (last region : ℕ → ℕ) → ((p : ℕ) → region p ≡ 0) → (x : Step) → IsOutside x → MayFollow n k h (occurrence_of x)
    → (f : ℕ → ℕ) × (acts n k (record { history = h; last = last; region = region }) (command_of line x).actor (command_of line x).action ≡ Ok (record { history = occurrence_of x ∷ h; last = f; region = region }))
acted n k line h last region none (Send a b name) outside may =
    let shut : nat_lt 0 (region a) ≡ false = ap (nat_lt 0) (none a) in
    let opened : is_closed h a b ≡ false = may.1 in
    let short : nat_le MAX_EVENTS (length (chart_of h a)) ≡ false = lt-leb MAX_EVENTS (length (chart_of h a)) may.3 in
    let free : nat_le k (length (waiting h a b)) ≡ false = lt-leb k (length (waiting h a b)) may.2 in
    (last, rw (shut, opened, short, free) refl)
acted n k line h last region none (Receive a b c) outside may =
    let waits : nat_lt 0 (length (waiting h b a)) ≡ true = lt-ltb 0 (length (waiting h b a)) may.1 in
    let short : nat_le MAX_EVENTS (length (chart_of h a)) ≡ false = lt-leb MAX_EVENTS (length (chart_of h a)) may.2 in
    let zero : 0 ≡ c = cc in
    let same : region a ≡ c = none a ∙ zero in
    (changed last a b, rw (waits, short, same) refl)

-- so the commands do what the steps do, with no note
pub played : (n k line : ℕ) (h : List Occurrence) (last region : ℕ → ℕ) → ((p : ℕ) → region p ≡ 0) → (steps : List Step) → IsLegal n k (after h steps) → All IsOutside steps
    → ((fold (step n k) (record { run = record { history = h; last = last; region = region }; notes = [] }) (commands_of line steps)).run.history ≡ after h steps) × ((fold (step n k) (record { run = record { history = h; last = last; region = region }; notes = [] }) (commands_of line steps)).notes ≡ [])
played n k line h last region none [] legal outside = (refl, refl)
played n k line h last region none (x ∷ steps) legal outside =
    let w = acted n k line h last region none x (All-head IsOutside x steps outside) (may-follow n k h x steps legal) in
    let s : State = record { run = record { history = h; last = last; region = region }; notes = [] } in
    subst (λ (did : Result Run Word). ((fold (step n k) (noted s (command_of line x).line did) (commands_of (line + 1) steps)).run.history ≡ after (occurrence_of x ∷ h) steps) × ((fold (step n k) (noted s (command_of line x).line did) (commands_of (line + 1) steps)).notes ≡ []))
    (sym w.1)
    (played n k (line + 1) (occurrence_of x ∷ h) w.0 region none steps legal (All-tail IsOutside x steps outside))

-- the commands of a list's first steps, and one more
pub commands-more : (line : ℕ) (steps : List Step) (i : ℕ) (x : Step) → slice_get steps i ≡ Some x → commands_of line (take (i + 1) steps) ≡ commands_of line (take i steps) ++ command_of (line + i) x ∷ []
commands-more line [] i x is = absurd (omega (arith, slice_get_within [] i x is))
commands-more line (y ∷ steps) zero x is =
    let first : line ≡ line + 0 = omega arith in
    ap₂ (λ z l. command_of l z ∷ []) (same_Some y x is) first
commands-more line (y ∷ steps) (suc i) x is =
    let next : suc i + 1 ≡ suc (i + 1) = omega arith in
    let number : line + 1 + i ≡ line + suc i = omega arith in
    ap (λ j. commands_of line (take j (y ∷ steps))) next ∙ ap (λ commands. command_of line y ∷ commands) (commands-more (line + 1) steps i x is ∙ ap (λ j. commands_of (line + 1) (take i steps) ++ command_of j x ∷ []) number)
