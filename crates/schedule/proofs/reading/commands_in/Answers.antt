use Rattle.std.proofs.Common.{◌≡◌, Ok, sym, ◌∙◌, ap, subst, arith}
use Rattle.std.proofs.lemmas.Bool.{eqb-true, eqb-false}
use Rattle.std.proofs.lemmas.Result.{err_from_is_err_and}
use Rattle.texts.specs.Faults.{in_line, Fails}
use Rattle.schedule.specs.ActionLines.{action_of}
use Rattle.schedule.proofs.Commands.{goes_on, ends, is_done, all_read, not_ended, line_fails}
use Rattle.schedule.proofs.reading.commands_in.Goals as goal

pub returns-in_err-actor-in-Some : goal.returns-in_err-actor-in-Some
returns-in_err-actor-in-Some c =
    let p = err_from_is_err_and c.from_residual.result c.from_residual.ensures.1 in
    let so_far = rw c.in-Some.ensures.line at c.lines.invariant.so_far in
    let error = c.in_err-actor-in-Some.field-0.0 in
    let failed = subst (λ r. Fails error (in_line c.lines.number r)) c.read_action.ensures c.in_err-actor-in-Some.ensures in
    rw (p.1, p.2) (line_fails error _ _ _ (ends error c.lines.commands.items c.args.names.now c.lines.number c.in-Some.line.now _ _ failed so_far))

pub lines-preserved : goal.lines-preserved
lines-preserved c =
    let so_far = rw c.in-Some.ensures.line at c.lines.invariant.so_far in
    let acting : in_line c.lines.number (action_of c.args.names.now c.in-Some.line.now) ≡ Ok (c.in_ok-actor-in-Some.actor, c.in_ok-actor-in-Some.action) = sym (ap (in_line c.lines.number) c.read_action.ensures) ∙ c.in_ok-actor-in-Some.ensures in
    record {
      so_far = rw c.in_ok-push-in-Some.ensures.items (goes_on c.lines.commands.items c.args.names.now c.lines.number c.in-Some.line.now _ _ _ acting so_far);
      end = sym c.in-Some.ensures.end ∙ c.lines.invariant.end;
      number = omega (arith, c.in-Some.ensures.shorter);
    }

pub returns-then-not-is_empty : goal.returns-then-not-is_empty
returns-then-not-is_empty c =
    let read = is_done c.lines.commands.items c.args.names.now c.lines.number _ (rw c.in-None.ensures.no_line at c.lines.invariant.so_far) in
    let rest = sym c.in-None.ensures.all_end ∙ c.lines.invariant.end in
    not_ended _ c.args.names.now _ _ read (rw (← rest) (eqb-false _ _ (sym c.if-not-is_empty.ensures)))

pub returns : goal.returns
returns c =
    let read = is_done c.lines.commands.items c.args.names.now c.lines.number _ (rw c.in-None.ensures.no_line at c.lines.invariant.so_far) in
    let rest = sym c.in-None.ensures.all_end ∙ c.lines.invariant.end in
    all_read _ c.args.names.now _ _ read (rw (← rest) (eqb-true _ _ (sym c.if-not-is_empty.ensures)))
