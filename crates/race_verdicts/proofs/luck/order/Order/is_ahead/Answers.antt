use Rattle.std.proofs.Common.{◌↔◌, ◌∙◌, sym, subst, false, arith, List}
use Rattle.std.specs.Prelude.{IsTrue}
use Rattle.std.proofs.lemmas.Option.{slice_get_within}
use Rattle.std.proofs.Math.Dec.{leb}
use Rattle.log_chart.specs.declared.matching.LogLine.{LogLine}
use Rattle.race_verdicts.specs.Luck.Recorded.{IsSendLine}
use Rattle.race_verdicts.specs.Luck.WholeOrder.{IsAhead}
use Rattle.race_verdicts.proofs.LuckLemmas.OrderLemmas.{host_within, known_some, known_none}
use Rattle.race_verdicts.proofs.luck.order.Order.is_ahead.Goals as goal

pub bounds-lines-send : goal.bounds-lines-send
bounds-lines-send c =
    let send = subst (λ (l : List LogLine). IsSendLine l c.args.send) (sym c.self.view_is) c.requires in
    slice_get_within c.self.inside.lines.now c.args.send send.line send.is

pub index-requires : goal.index-requires
index-requires c =
    let send = subst (λ (l : List LogLine). IsSendLine l c.args.send) (sym c.self.view_is) c.requires in
    let within = host_within c.self.inside.lines.now c.self.inside.firsts.items c.self.invariant c.args.send send _ c.place.result c.place.ensures.value in
    omega (arith, within)

pub returns-in-Some : goal.returns-in-Some
returns-in-Some c =
    let send = subst (λ (l : List LogLine). IsSendLine l c.args.send) (sym c.self.view_is) c.requires in
    subst (λ (l : List LogLine). IsTrue (leb c.in-Some.first c.args.send) ↔ IsAhead l c.args.line c.args.send) c.self.view_is
    (known_some c.self.inside.lines.now c.self.inside.firsts.items c.self.invariant c.args.send send _ c.place.result c.place.ensures.value c.args.line c.index.result.now c.index.ensures c.in-Some.first
    (sym c.at.ensures ∙ c.in-Some.is))

pub returns-in-None : goal.returns-in-None
returns-in-None c =
    let send = subst (λ (l : List LogLine). IsSendLine l c.args.send) (sym c.self.view_is) c.requires in
    subst (λ (l : List LogLine). IsTrue false ↔ IsAhead l c.args.line c.args.send) c.self.view_is
    (known_none c.self.inside.lines.now c.self.inside.firsts.items c.self.invariant c.args.send send _ c.place.result c.place.ensures.value c.args.line c.index.result.now c.index.ensures
    (sym c.at.ensures ∙ c.in-None.is))
