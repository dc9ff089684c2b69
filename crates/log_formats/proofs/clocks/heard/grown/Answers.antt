use Rattle.std.proofs.Common.{◌≡◌, ◌∙◌, ap, List, [], map, take}
use Rattle.std.proofs.lemmas.Result.{IfOk-weaker}
use Rattle.log_formats.specs.Clocks.Hearing.{heard_view, with_grown, grown}
use Rattle.log_formats.specs.Clocks.Moments.{MomentView, moment_view, last_stamps}
use Rattle.log_formats.specs.Clocks.Tables.{ArePlaces, stamps_at}
use Rattle.log_formats.proofs.clocks.heard.grown.Goals as goal

pub returns : goal.returns
returns c =
    let moments = map moment_view c.args.moments.now in
    let m = moment_view c.args.moment.now in
    let before : stamps_at moments c.last_in-before.result ≡ last_stamps [] m.clocked.host (take c.args.at moments) =
    ap (stamps_at moments) c.last_in-before.ensures ∙ c.requires.lasts.last (record { name = c.args.moment.now.clocked.host }) in
    IfOk-weaker c.grown_since.result
    (λ found. (all : List MomentView) → ArePlaces all c.args.places.now.entries → map heard_view found.items ≡ with_grown all c.args.at m (stamps_at moments c.last_in-before.result) [] m.stamps)
    (λ found. map heard_view found.items ≡ grown moments c.args.at m)
    (λ found each. each moments c.requires.places ∙ ap (λ stamps. with_grown moments c.args.at m stamps [] m.stamps) before) c.grown_since.ensures
