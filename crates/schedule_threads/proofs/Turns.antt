-- The command to which each turn of a script's run belongs.
use Rattle.std.proofs.Common.{◌≡◌, ℕ, List, [], ◌∷◌, ◌++◌, length, filter, refl, sym, ap, ◌∙◌, subst, append-nil}
use Rattle.std.specs.Prelude.{slice_index_or, ◌==◌}
use Rattle.std.proofs.lemmas.List.{length-map}
use Rattle.behaviour.specs.Bare.{bare_act, with_empty_body, bare_answer}
use Rattle.behaviour.specs.Scripts.{ScriptView, script_next, script_after}
use Rattle.behaviour.specs.declared.bare_act.BareAct.{BareAct}
use Rattle.behaviour.specs.declared.bare_act.BareAct.TheVariants.{Send, Receive, Any, Close, Open, Shut, Stop}
use Rattle.instances.specs.Driving.{Moment, Leads, Ended, Ends}
use Rattle.instances.specs.Traces.{last_turn}
use Rattle.instances.specs.declared.end.End.{End}
use Rattle.instances.specs.declared.end.End.TheVariants.{Stopped, TurnsSpent, Memory}
use Rattle.instances.specs.declared.turn.Turn.{Turn}
use Rattle.schedule.specs.declared.command.Command.{Command}
use Rattle.schedule_threads.specs.Scripts.InstanceScripts.{acts_of, act_of}
use Rattle.schedule_threads.specs.Laws.{script_meaning, AreOf, TurnsLaw}
use Rattle.schedule_threads.specs.RunNotes.{lines_of, next_place}

bare-empty : (a : BareAct) → bare_act (with_empty_body a) ≡ a
bare-empty (Send to name) = refl
bare-empty (Receive from) = refl
bare-empty Any = refl
bare-empty (Close to) = refl
bare-empty Open = refl
bare-empty Shut = refl
bare-empty Stop = refl

-- the place of the script when it gets the last answer
abbrev place-of : Moment ScriptView → ℕ
place-of now = script_next (length now.state.acts) now.state.place (bare_answer now.last)

-- from there on the turns belong to the script's acts
abbrev AreOfNow : Moment ScriptView → List Turn → Type 0
AreOfNow now turns = AreOf now.state.acts (length now.state.acts) (place-of now) turns

of-turns : (rest turns : List Turn) (now end : Moment ScriptView) → Leads script_meaning now turns end → AreOfNow end rest
    → AreOfNow now (turns ++ rest)
of-turns rest [] now end is then = subst (λ (m : Moment ScriptView). AreOfNow m rest) is then
of-turns rest (turn ∷ turns) now end (answer, view, is, allowed, next) then =
    let after : Moment ScriptView = record { state = script_after now.state now.last; last = answer; view = view } in
    let acts = now.state.acts in
    let rests : AreOfNow after (turns ++ rest) = of-turns rest turns after end next then in (
      ap (λ (t : Turn). t.act) is ∙ bare-empty (slice_index_or acts (place-of now) Stop),
      subst (λ (t : Turn). AreOf acts (length acts) (next_place (length acts) (place-of now) t.answer) (turns ++ rest)) (sym is) rests,
    )

ends-of : (most : ℕ) (start : Moment ScriptView) (trace : List Turn) (end : End) (left : Ended ScriptView)
    → Ends script_meaning most start trace end left → AreOfNow start trace
ends-of most start trace Stopped left (turns, now, is, within, leads, stops, left-is, new-is) =
    let stop : Stop ≡ slice_index_or now.state.acts (place-of now) Stop =
    sym (ap bare_act stops) ∙ bare-empty (slice_index_or now.state.acts (place-of now) Stop) in
    subst (AreOfNow start) (sym is) (of-turns (last_turn ∷ []) turns start now leads (stop, tt))
ends-of most start trace TurnsSpent left (now, all, leads, left-is, new-is) =
    subst (AreOfNow start) (append-nil trace) (of-turns [] trace start now leads tt)
ends-of most start trace Memory left (now, fewer, leads, left-is, new-is) =
    subst (AreOfNow start) (append-nil trace) (of-turns [] trace start now leads tt)

as-many : (commands : List Command) (p : ℕ) → length (acts_of commands p) ≡ length (lines_of commands p)
as-many commands p =
    let own = filter (λ (c : Command). c.actor == p) commands in
    length-map own (λ (c : Command). act_of c.action) ∙ sym (length-map own (λ (c : Command). c.line))

pub turns-law : TurnsLaw
turns-law commands p most old new trace end left run =
    subst (λ many. AreOf (acts_of commands p) many 0 trace) (as-many commands p) (ends-of most _ trace end (record { state = left; view = new }) run.ends)
