use Rattle.std.proofs.Common.{◌≡◌, ◌-◌, ◌+◌, ◌∷◌, length, drop, sym, ap, ◌∙◌, subst, arith}
use Rattle.std.proofs.lemmas.List.{drop_all}
use Rattle.diagram_join.specs.Tables.{AreCoregions, AreLines}
use Rattle.diagram_join.proofs.CoregionLemmas.{from_place}
use Rattle.diagram_join.proofs.coregions.Coregions.new_of.Goals as goal

pub messages-init : goal.messages-init
messages-init c =
    let none = sym (drop_all (length c.args.messages.now) c.args.messages.now (omega arith)) in
    record {
      within = omega arith;
      coregions = subst (AreCoregions c.new-coregions.result.coregions.entries (length c.args.messages.now)) none (c.new-coregions.ensures.coregions (length c.args.messages.now));
      lines = subst (AreLines c.new-coregions.result.lines.entries) none c.new-coregions.ensures.lines;
    }

pub messages-preserved : goal.messages-preserved
messages-preserved c =
    let messages = c.args.messages.now in
    let m = c.index-messages-count.result in
    let later = drop c.messages.count messages in
    let one : c.messages.count - 1 + 1 ≡ c.messages.count = omega (arith, c.messages-test.true) in
    let here : drop (c.messages.count - 1) messages ≡ m ∷ later = from_place messages c.messages.count (c.messages.count - 1) m c.messages.invariant.within one c.index-messages-count.is in
    let coregions = subst (λ n. AreCoregions c.messages.coregions.coregions.entries n later) (sym one) c.messages.invariant.coregions in
    record {
      within = omega (arith, c.messages.invariant.within);
      coregions = subst (AreCoregions c.add.new.self.coregions.entries (c.messages.count - 1)) (sym here) (c.in_ok-add.ensures.coregions later coregions c.messages.invariant.lines);
      lines = subst (AreLines c.add.new.self.lines.entries) (sym here) (c.in_ok-add.ensures.lines later c.messages.invariant.lines);
    }
