use Rattle.std.proofs.Common.{◌≡◌, Ok, sym, ◌∙◌, ap}
use Rattle.std.proofs.lemmas.Result.{err_from_is_err_and}
use Rattle.texts.specs.Faults.{in_line}
use Rattle.texts.proofs.Results.{in_line_ok}
use Rattle.msc_text.specs.Reader.Steps.{step_of}
use Rattle.msc_text.proofs.ReaderLemmas.OneLook.{read_stops, read_stops_at, build_fails, reads_line}
use Rattle.msc_text.proofs.reader.reading.with_line.Goals as goal

pub returns-in_err-saying : goal.returns-in_err-saying
returns-in_err-saying c =
    let p = err_from_is_err_and c.from_residual.result c.from_residual.ensures.1 in
    let failed = rw c.step_in.ensures at c.in_err-saying.ensures in
    rw (p.1, p.2) (read_stops _ _ _ _ _ _ _ failed)

pub returns-in_err-add_names : goal.returns-in_err-add_names
returns-in_err-add_names c =
    let p = err_from_is_err_and c.from_residual-in_err-add_names.result c.from_residual-in_err-add_names.ensures.1 in
    let step : in_line c.args.number (step_of c.args.state c.args.line.now) ≡ Ok (c.in_ok-saying.saying, c.in_ok-saying.next) = sym (ap (in_line c.args.number) c.step_in.ensures) ∙ c.in_ok-saying.ensures in
    rw (p.1, p.2) (read_stops_at _ _ _ _ _ _ _ _ step c.in_err-add_names.ensures)

pub returns-in_err-builder : goal.returns-in_err-builder
returns-in_err-builder c =
    let p = err_from_is_err_and c.from_residual-in_err-builder.result c.from_residual-in_err-builder.ensures.1 in
    let step : in_line c.args.number (step_of c.args.state c.args.line.now) ≡ Ok (c.in_ok-saying.saying, c.in_ok-saying.next) = sym (ap (in_line c.args.number) c.step_in.ensures) ∙ c.in_ok-saying.ensures in
    rw (p.1, p.2) (build_fails _ _ _ _ _ _ _ _ _ step c.in_ok-add_names.ensures c.in_err-builder.ensures)

pub returns : goal.returns
returns c =
    let step : in_line c.args.number (step_of c.args.state c.args.line.now) ≡ Ok (c.in_ok-saying.saying, c.in_ok-saying.next) = sym (ap (in_line c.args.number) c.step_in.ensures) ∙ c.in_ok-saying.ensures in
    reads_line _ _ _ _ _ _ _ _ _ step c.in_ok-add_names.ensures c.in_ok-builder.ensures

pub with-requires : goal.with-requires
with-requires c =
    let says : in_line c.args.number (step_of c.args.state c.args.line.now) ≡ Ok (c.in_ok-saying.saying, c.in_ok-saying.next) = sym (ap (in_line c.args.number) c.step_in.ensures) ∙ c.in_ok-saying.ensures in
    c.requires _ _ (in_line_ok c.args.number _ _ says) (in_line_ok c.args.number _ _ c.in_ok-add_names.ensures)
