use Rattle.std.proofs.Common.{◌≡◌, ◌-◌, [], ◌∷◌, ◌++◌, length, take, drop, sym, ap, ◌∙◌, arith}
use Rattle.std.specs.Prelude.{slice_get}
use Rattle.std.proofs.lemmas.Grind.{common_steps}
use Rattle.repair.proofs.GrowLemmas.{may_back_of, partner_back, rest_whole}
use Rattle.repair.proofs.growing.inserted.Goals as goal

pub add_all-requires-2-clause-may : goal.add_all-requires-2-clause-may
add_all-requires-2-clause-may c =
    let xs = c.events-events.result.now in
    let longer : c.add.new.line.events ≡ ([] ++ take c.args.behind xs) ++ c.args.event ∷ [] = grind (arith, common_steps) in
    may_back_of c.args.line.now c.args.behind c.args.event xs (take (length xs - c.args.behind) (drop c.args.behind xs)) c.add.new.line.events c.events-events.ensures.value (rest_whole xs c.args.behind) longer c.events-events.ensures.line.regions c.requires

pub add_all-requires-2-clause-partners : goal.add_all-requires-2-clause-partners
add_all-requires-2-clause-partners c = λ i m here same.
    let xs = c.events-events.result.now in
    let there = sym (ap (λ l. slice_get l i) (rest_whole xs c.args.behind ∙ ap (drop c.args.behind) c.events-events.ensures.value)) ∙ here in
    let number : c.add.new.line.instance ≡ c.args.line.now.instance = grind (arith, common_steps) in
    partner_back c.args.line.now.events c.args.line.now.instance c.args.behind c.events-events.ensures.line.partners i m there (same ∙ number)
