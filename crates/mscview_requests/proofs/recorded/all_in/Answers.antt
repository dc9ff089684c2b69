use Rattle.std.proofs.Common.{[], ◌∷◌, map, ap, ◌∙◌}
use Rattle.std.proofs.lemmas.List.{map-append}
use Rattle.std.proofs.lemmas.Option.{slice_get-get_or}
use Rattle.std.specs.Prelude.{Some}
use Rattle.mscview_requests.specs.FileBytes.{bytes_of}
use Rattle.mscview_requests.proofs.GivenLemmas.{given_next, not_given, answered_so}
use Rattle.mscview_requests.proofs.recorded.all_in.Goals as goal

pub loop-place-preserved : goal.loop-place-preserved
loop-place-preserved g c = given_next (g.G.Giver.gives c.args.giver.now) (λ w. Some w.now) c.args.files.now (map bytes_of c.loop-place.texts.items) (map bytes_of c.push.new.self.items) c.loop-place.place _ (bytes_of c.in_ok-text.text) c.loop-place.invariant
    (slice_get-get_or c.args.files.now c.loop-place.place _ c.loop-place-test.true) c.in_ok-text.ensures
    (ap (map bytes_of) c.in-Ok.ensures.items ∙ map-append bytes_of c.loop-place.texts.items (c.in_ok-text.text ∷ []))

pub returns-in_err-text : goal.returns-in_err-text
returns-in_err-text g c = answered_so (g.G.Giver.gives c.args.giver.now) (map (λ w. Some w.now) c.args.files.now) c.from_residual.result _ c.from_residual.ensures.1
    (not_given (g.G.Giver.gives c.args.giver.now) (λ w. Some w.now) c.args.files.now (map bytes_of c.loop-place.texts.items) c.loop-place.place _ _ c.loop-place.invariant
    (slice_get-get_or c.args.files.now c.loop-place.place _ c.loop-place-test.true) c.in_err-text.ensures)
