use Rattle.std.proofs.Common.{◌≡◌, ◌≤◌, ℕ, List, length, ap, sym, ◌∙◌, subst, arith}
use Rattle.std.proofs.lemmas.Bool.{false≢true}
use Rattle.chart.specs.Charts.{LineView, HasPartners, chart_lines, IsPossible}
use Rattle.diagrams.specs.Messages.Lines.{lines_from}
use Rattle.diagrams.specs.Messages.Turns.{all_ends}
use Rattle.diagrams.proofs.MessagesLemmas.LinesLemmas.{numbered, length-lines}
use Rattle.diagrams.proofs.MessagesLemmas.PossibleLemmas.{possible_lines, partnered_lines}
use Rattle.diagrams.proofs.MessagesLemmas.RoomLemmas.{room_for}
use Rattle.diagrams.proofs.messages.lines.chart_of.Goals as goal

pub lines_of-requires-clause-room : goal.lines_of-requires-clause-room
lines_of-requires-clause-room c = λ p. rw (c.deref.ensures.value, c.in_ok-ends.ensures) (room_for c.args.count p c.args.messages.now c.requires.built)

pub new-requires : goal.new-requires
new-requires c = numbered _ _ c.in_ok-lines.lines.items c.in_ok-lines.ensures

pub unreachable-requires : goal.unreachable-requires
unreachable-requires c =
    let lines : c.in_ok-lines.lines.items ≡ lines_from (all_ends c.args.messages.now) 1 c.args.count = rw (c.deref.ensures.value, c.in_ok-ends.ensures) at c.in_ok-lines.ensures in
    let count : length c.in_ok-lines.lines.items ≡ c.args.count = ap (λ (ls : List LineView). length ls) lines ∙ length-lines (all_ends c.args.messages.now) 1 c.args.count in
    let partners : HasPartners (length c.in_ok-lines.lines.items) c.in_ok-lines.lines.items =
    subst (λ n. HasPartners n c.in_ok-lines.lines.items) (sym count) (subst (HasPartners c.args.count) (sym lines) (partnered_lines c.args.count c.args.messages.now c.requires.built)) in
    false≢true (c.in-Err.ensures.succeeds.1 (omega (arith, count, c.requires.several), omega (arith, count, c.requires.few), partners))

pub returns-clause-possible : goal.returns-clause-possible
returns-clause-possible c =
    let lines : c.in-Ok.chart ≡ lines_from (all_ends c.args.messages.now) 1 c.args.count = c.in-Ok.ensures.ok ∙ rw (c.deref.ensures.value, c.in_ok-ends.ensures) at c.in_ok-lines.ensures in
    subst (λ ls. IsPossible c.args.count (chart_lines ls)) (sym lines) (possible_lines c.args.count c.args.messages.now c.requires.built)
