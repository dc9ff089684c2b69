use Rattle.std.proofs.Common.{◌≡◌, length, sym, ap, ◌∙◌, subst, arith}
use Rattle.std.proofs.lemmas.Bool.{false≢true}
use Rattle.std.proofs.lemmas.List.{length-map}
use Rattle.chart.specs.Charts.{IsNumbered, HasPartners}
use Rattle.repair.specs.Growing.{message_of, line_with}
use Rattle.repair.proofs.GrowLemmas.{numbered_with, partners_with}
use Rattle.repair.proofs.growing.chart_with.Goals as goal

pub new-requires : goal.new-requires
new-requires c = subst IsNumbered (sym c.in-Ok.ensures.ok) (numbered_with (message_of c.args.message.now) c.args.lines.now c.requires.chart.numbered)

pub unreachable-requires : goal.unreachable-requires
unreachable-requires c =
    let m = message_of c.args.message.now in
    let same : length c.in-Ok.lines.items ≡ length c.args.lines.now = ap (λ l. length l) c.in-Ok.ensures.ok ∙ length-map c.args.lines.now (line_with m) in
    let several = c.requires.chart.several in
    let limit = c.requires.chart.limit in
    let partners = subst (HasPartners (length c.args.lines.now)) (sym c.in-Ok.ensures.ok) (partners_with (length c.args.lines.now) m c.args.lines.now c.requires.sender c.requires.receiver c.requires.chart.partners) in
    false≢true (c.in-Err-new.ensures.succeeds.1 (omega (arith, same, several), omega (arith, same, limit), subst (λ n. HasPartners n c.in-Ok.lines.items) (sym same) partners))
