use Rattle.std.proofs.Common.{sym, ap, ◌∙◌}
use Rattle.diagram_join.proofs.CoregionLemmas.{lost_coregions, lost_lines, coregions_next, lines_next}
use Rattle.diagram_join.specs.declared.coregions.Coregion.{Coregion}
use Rattle.diagram_join.proofs.coregions.Coregions.add.Goals as goal

pub returns-then-message-clause-coregions : goal.returns-then-message-clause-coregions
returns-then-message-clause-coregions c = λ later are lines. lost_coregions _ _ c.args.message.now later c.if-message.true are

pub returns-then-message-clause-lines : goal.returns-then-message-clause-lines
returns-then-message-clause-lines c = λ later lines. lost_lines _ c.args.message.now later c.if-message.true lines

pub returns-clause-coregions : goal.returns-clause-coregions
returns-clause-coregions c = λ later are lines.
    let m = c.args.message.now in
    coregions_next c.args.self.now.coregions.entries c.put_coregion.new.map.entries c.args.place m later _ c.if-message.false are
    (ap (λ b. record { first = c.args.place; is_parted = b }) (rw (c.of.ensures, c.next_line.ensures, are m.ends m.receiver m.line, lines m.ends m.receiver) at c.parted_with.ensures))
    (rw c.spot_of.ensures at c.in_ok-put_coregion.ensures)

pub returns-clause-lines : goal.returns-clause-lines
returns-clause-lines c = λ later lines.
    lines_next c.args.self.now.lines.entries c.put_line.new.map.entries c.args.message.now later c.if-message.false lines (rw c.row_of.ensures at c.in_ok-put_line.ensures)
