use Rattle.std.proofs.Common.{All, sym, ◌∙◌, subst}
use Rattle.races_text.specs.Judged.Parts.{events_in}
use Rattle.races_text.proofs.JudgedLemmas.NextParts.{all_back, piece_events}
use Rattle.races_text.proofs.judged.parts.next_piece.Goals as goal

pub returns-clause-races : goal.returns-clause-races
returns-clause-races g c =
    let race = g.V.Verdicts.is_race c.args.verdicts.now c.args.receive.now in
    let is = g.V.Verdicts.is_verdict c.args.verdicts.now c.args.receive.now in
    let mid = c.has_later.new.left in
    let piece = c.verdict_of_first-piece.result in
    let pieces = piece_events is mid.rest c.behind-left.result piece mid.kept c.verdict_of_first-piece.ensures c.behind-left.ensures in
    all_back race (events_in piece) _ (subst (All race) pieces (subst (All race) (sym c.has_later.ensures.same) c.requires.races))

pub returns-clause-events : goal.returns-clause-events
returns-clause-events g c =
    let is = g.V.Verdicts.is_verdict c.args.verdicts.now c.args.receive.now in
    let mid = c.has_later.new.left in
    let piece = c.verdict_of_first-piece.result in
    sym c.has_later.ensures.same ∙ piece_events is mid.rest c.behind-left.result piece mid.kept c.verdict_of_first-piece.ensures c.behind-left.ensures
