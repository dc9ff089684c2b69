use Rattle.std.proofs.Common.{◌≡◌, sym, ◌∙◌, subst}
use Rattle.texts.specs.Writing.{Wrote}
use Rattle.races_text.specs.Named.Listing.{manner_of, races_text, shows_races}
use Rattle.races_text.proofs.NamedLemmas.FoundRaces.{wrote_less, vacuous}
use Rattle.races_text.proofs.named.listing.write_races.Goals as goal

pub returns-in_err-finish : goal.returns-in_err-finish
returns-in_err-finish g c =
    let selected = c.args.selected.now in
    let added = c.in_ok-has_races.ensures in
    let failed = c.from_residual-in_err-finish.ensures.0 in
    let same = sym (c.finish.ensures.same_out ∙ added.2.same_out ∙ c.new-text.ensures.out.0) in (
      added.0,
      added.1,
      subst (λ end. Wrote g.W.Out.sink c.args.out.now end c.from_residual-in_err-finish.result (races_text (manner_of selected) selected.names.now selected.lines.now added.0)) (sym (c.out-2-1.given.1 same))
          (wrote_less _ _ c.from_residual-in_err-finish.result failed c.new-text.ensures.out.1 c.new-text.ensures.empty added.2 c.in_err-finish.ensures.wrote),
      vacuous (λ has. has ≡ shows_races (manner_of selected) selected.lines.now added.0) c.from_residual-in_err-finish.result failed,
    )
