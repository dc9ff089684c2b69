use Rattle.std.proofs.Common.{◌≡◌, Ok, sym, ◌∙◌, ap, arith, refl}
use Rattle.std.proofs.lemmas.Result.{err_from_is_err_and}
use Rattle.texts.specs.Faults.{in_line}
use Rattle.msc_text.specs.Reader.Reading.{names_in}
use Rattle.msc_text.specs.Reader.Steps.{step_of}
use Rattle.msc_text.proofs.ReaderLemmas.Looks.{fails_so, gives_so, look_stops, look_stops_at, look_goes_on, look_ends}
use Rattle.msc_text.proofs.reader.reading.names_in.Goals as goal

pub lines-init : goal.lines-init
unfolding names_in
lines-init c = record { so_far = rw c.new-names.ensures refl; number = omega arith }

pub returns-in-None : goal.returns-in-None
returns-in-None c =
    let so_far = rw c.in-None.ensures.no_line at c.lines.invariant.so_far in
    let rest = rw c.in-None.ensures.all_end at so_far in
    gives_so c.finish.result _ _ (sym (look_ends _ _ _ _) ∙ rest) c.finish.ensures

pub returns-in_err-saying-in-Some : goal.returns-in_err-saying-in-Some
returns-in_err-saying-in-Some c =
    let p = err_from_is_err_and c.from_residual.result c.from_residual.ensures.1 in
    let so_far = rw c.in-Some.ensures.line at c.lines.invariant.so_far in
    let failed = rw c.step_in.ensures at c.in_err-saying-in-Some.ensures in
    rw (p.1, p.2) (fails_so _ _ _ so_far (look_stops _ _ _ _ _ _ _ failed))

pub returns-in_err-add_names-in-Some : goal.returns-in_err-add_names-in-Some
returns-in_err-add_names-in-Some c =
    let p = err_from_is_err_and c.from_residual-in_err-add_names-in-Some.result c.from_residual-in_err-add_names-in-Some.ensures.1 in
    let so_far = rw c.in-Some.ensures.line at c.lines.invariant.so_far in
    let step : in_line c.lines.number (step_of c.lines.state c.in-Some.line.now) ≡ Ok (c.in_ok-saying-in-Some.saying, c.in_ok-saying-in-Some.next) = sym (ap (in_line c.lines.number) c.step_in.ensures) ∙ c.in_ok-saying-in-Some.ensures in
    rw (p.1, p.2) (fails_so _ _ _ so_far (look_stops_at _ _ _ _ _ _ _ _ step c.in_err-add_names-in-Some.ensures))

pub lines-preserved : goal.lines-preserved
lines-preserved c =
    let so_far = rw c.in-Some.ensures.line at c.lines.invariant.so_far in
    let step : in_line c.lines.number (step_of c.lines.state c.in-Some.line.now) ≡ Ok (c.in_ok-saying-in-Some.saying, c.in_ok-saying-in-Some.next) = sym (ap (in_line c.lines.number) c.step_in.ensures) ∙ c.in_ok-saying-in-Some.ensures in
    record {
      so_far = rw (← c.in-Some.ensures.end) (sym (look_goes_on _ _ _ _ _ _ _ _ step c.in_ok-add_names-in-Some.ensures) ∙ so_far);
      number = omega (arith, c.in-Some.ensures.shorter);
    }
