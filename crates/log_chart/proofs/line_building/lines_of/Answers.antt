use Rattle.std.proofs.Common.{◌≡◌, ◌++◌, ◌∷◌, [], suc, length, ap, sym, ◌∙◌}
use Rattle.log_chart.specs.Items.{items_of}
use Rattle.log_chart.proofs.HostLemmas.{lines_more, lines_end}
use Rattle.log_chart.proofs.line_building.lines_of.Goals as goal

pub loop-place-preserved : goal.loop-place-preserved
loop-place-preserved c =
    let line : c.in_ok-items_of.field-0.items ≡ items_of c.args.hosts.now c.args.lines.now c.args.given.now (suc c.loop-place.place) =
    c.in_ok-items_of.ensures ∙ ap (items_of c.args.hosts.now c.args.lines.now c.args.given.now) c.at_place-host.ensures in
    lines_more c.args.hosts.now (length c.args.hosts.now) c.args.lines.now c.args.given.now c.loop-place.made.items c.push.new.self.items c.loop-place.place c.loop-place-test.true
    (c.in_ok-push.ensures.items ∙ ap (λ l. c.loop-place.made.items ++ l ∷ []) line) ∙ c.loop-place.invariant

pub returns : goal.returns
returns c = sym (lines_end _ _ _ _ _ _ _ c.loop-place-test.false) ∙ c.loop-place.invariant
