use Rattle.std.proofs.Common.{sym, subst, inl, inr, refl}
use Rattle.std.proofs.lemmas.Result.{err_from_is_err_and}
use Rattle.diagram_import.specs.Importing.{options_view}
use Rattle.cmd_base.specs.declared.error.ProgramError.{ProgramError}
use Rattle.mscview_requests.specs.Words.Words.{AreNotRead}
use Rattle.cli.specs.declared.view.request.Draw.{Draw}
use Rattle.cli.specs.declared.view.request.Reading.{Reading}
use Rattle.mscview_requests.specs.Readings.{read_view}
use Rattle.mscview_requests.specs.Wanted.{IsReading, IsPictureOf}
use Rattle.mscview_requests.proofs.GivenLemmas.{given_as}
use Rattle.mscview_requests.proofs.importing.view_picture_of.Goals as goal

-- if the words don't give the options for reading a text, they don't give those of its picture
nor_both : (draw : Draw) (reading : Reading) (error : ProgramError) → AreNotRead (IsReading reading) error → AreNotRead (IsPictureOf draw reading) error
nor_both draw reading error (inl memory) = inl memory
nor_both draw reading error (inr nothing) = inr (nothing.0, λ asked its. nothing.1 asked.1 its.1)

pub returns-in_err-wanted : goal.returns-in_err-wanted
returns-in_err-wanted g c =
    let p = err_from_is_err_and c.from_residual.result c.from_residual.ensures.1 in
    rw (p.1, p.2) ((refl, refl), inl (inr (c.in_err-wanted.ensures.0, λ asked its. c.in_err-wanted.ensures.1 asked.0 its.0)))

pub returns-in_err-read : goal.returns-in_err-read
returns-in_err-read g c =
    let p = err_from_is_err_and c.from_residual-in_err-read.result c.from_residual-in_err-read.ensures.1 in
    rw (p.1, p.2) ((refl, refl), inl (nor_both c.args.picture.now c.args.reading.now _ c.in_err-read.ensures))

pub returns-in_err-bytes : goal.returns-in_err-bytes
returns-in_err-bytes g c =
    let p = err_from_is_err_and c.from_residual-in_err-bytes.result c.from_residual-in_err-bytes.ensures.1 in
    rw (p.1, p.2) ((refl, refl), inr ((c.in_ok-wanted.wanted, read_view c.in_ok-read.read), (c.in_ok-wanted.ensures, c.in_ok-read.ensures), c.in_err-bytes.ensures))

pub returns : goal.returns
returns g c = (
  (c.in_ok-wanted.wanted, (c.in_ok-read.read.tool, options_view c.options_of-options.result)),
  c.as_slice.result.now,
  (c.in_ok-wanted.ensures, subst (λ o. IsReading c.args.reading.now (c.in_ok-read.read.tool, o)) (sym c.options_of-options.ensures) c.in_ok-read.ensures),
  given_as (g.G.Giver.gives c.args.giver.now) 0 _ _ _ c.as_slice.ensures c.in_ok-bytes.ensures,
  c.draw_of.ensures,
)
