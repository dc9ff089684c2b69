use Rattle.std.proofs.Common.{List, ◌++◌, sym, ap, ◌∙◌, subst, append_assoc}
use Rattle.chart.specs.declared.instance.EventNo.{EventNo}
use Rattle.races_text.specs.declared.judged.part.Part.{Part}
use Rattle.races_text.specs.Judged.Parts.{IsPart, events_in}
use Rattle.races_text.specs.Judged.PartsLeft.{later_events}
use Rattle.races_text.proofs.JudgedLemmas.NextParts.{events_joined, part_joined}
use Rattle.races_text.proofs.judged.parts.next_part.Goals as goal

pub pieces-preserved : goal.pieces-preserved
pieces-preserved g c =
    let is = g.V.Verdicts.is_verdict c.args.verdicts.now c.args.receive.now in
    let so_far = c.pieces.invariant in
    let found = c.in-Some.ensures in
    let part = c.pieces.part in
    let piece = c.in-Some.piece in
    let joins = c.goes_on.ensures.joins c.if-not-goes_on.false in
    let same = c.with-part.ensures in
    let later = later_events c.next_piece.new.left in
    record {
      short = found.short;
      races = found.races;
      is = subst (IsPart is) (sym same) (part_joined is part piece so_far.is found.piece joins.0 joins.1);
      events = so_far.events ∙ ap (λ (es : List EventNo). events_in part ++ es) found.events ∙ sym (append_assoc (events_in part) (events_in piece) later)
          ∙ ap (λ (es : List EventNo). es ++ later) (sym (events_joined is part piece joins.1)) ∙ ap (λ (p : Part). events_in p ++ later) (sym same);
      begun = (so_far.begun.0, so_far.begun.1, ap (λ (p : Part). p.range.first) same ∙ so_far.begun.2, ap (λ (p : Part). p.verdict) same ∙ so_far.begun.3);
    }
