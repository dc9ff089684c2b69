use Rattle.std.proofs.Common.{rules, ◌≡◌, ◌<◌, true, length, get_or, refl, sym, ap, ◌∙◌, arith}
use Rattle.std.proofs.lemmas.List.{get_or_default}
use Rattle.log_chart.specs.Entries.{takes}
use Rattle.log_chart.specs.Cycles.Turns.HasAsked.{asked}
use Rattle.log_chart.specs.declared.cycles.past.Past.{Past}
use Rattle.log_chart.proofs.cycles.searches.is_on_cycle.Goals as goal

pub pass-requires-clause-within : goal.pass-requires-clause-within
pass-requires-clause-within c =
    let pasts = c.args.pasts.now in
    let i = c.place.result in
    let x = get_or pasts i c.index-pasts-place.result in
    let i_in : i < length pasts = omega (arith, c.place.ensures.last, c.requires.pasts) in
    let own : c.args.entry.now.host ≡ c.args.host = search rules in
    let one : takes c.args.entry.now.kind ≡ true = search rules in
    (c.requires.ready i c.in-Some.send x i_in own one c.place.ensures.value (sym c.first_of.ensures ∙ c.in-Some.is) (get_or_default pasts i c.index-pasts-place.result x i_in)).within

pub pass-requires-clause-closed : goal.pass-requires-clause-closed
pass-requires-clause-closed c =
    let pasts = c.args.pasts.now in
    let i = c.place.result in
    let x = get_or pasts i c.index-pasts-place.result in
    let i_in : i < length pasts = omega (arith, c.place.ensures.last, c.requires.pasts) in
    let own : c.args.entry.now.host ≡ c.args.host = search rules in
    let one : takes c.args.entry.now.kind ≡ true = search rules in
    (c.requires.ready i c.in-Some.send x i_in own one c.place.ensures.value (sym c.first_of.ensures ∙ c.in-Some.is) (get_or_default pasts i c.index-pasts-place.result x i_in)).closed

pub returns : goal.returns
returns c =
    let pasts = c.args.pasts.now in
    let i = c.place.result in
    let i_in : i < length pasts = omega (arith, c.place.ensures.last, c.requires.pasts) in
    let own : c.args.entry.now.host ≡ c.args.host = search rules in
    let one : takes c.args.entry.now.kind ≡ true = search rules in
    asked i c.in-Some.send own one c.place.ensures.value (sym c.first_of.ensures ∙ c.in-Some.is) (record {
      past = c.pass.new.self;
      pasts_are = refl;
      whole = λ x x_is. c.in_ok-pass.ensures.whole ∙ ap (λ (p : Past). length p.seen.items) (get_or_default pasts i c.index-pasts-place.result x i_in ∙ sym x_is);
      empty = c.in_ok-pass.ensures.stack;
      found = c.in_ok-pass.ensures.past;
      answer = c.has.ensures;
    })
