use Rattle.std.proofs.Common.{◌≡◌, List, [], ◌++◌, All, sym, ap, ◌∙◌, subst, append-nil}
use Rattle.chart.specs.declared.instance.EventNo.{EventNo}
use Rattle.chart.specs.Ranges.{events_in}
use Rattle.races_text.specs.declared.judged.part.Part.{Part}
use Rattle.races_text.specs.Judged.Parts.{AreLongest, AreParts, events_in as part_events}
use Rattle.races_text.specs.Judged.PartsLeft.{listed, events_left}
use Rattle.races_text.proofs.NamedLemmas.LaterRaces.{kept_whole}
use Rattle.races_text.proofs.JudgedLemmas.PartLemmas.{no_parts}
use Rattle.races_text.proofs.JudgedLemmas.NextParts.{fewer_left, longest_begun, longest_next, parts_next, taken_part}
use Rattle.races_text.proofs.judged.range_parts.all_parts.Goals as goal

pub parts_of-left-requires : goal.parts_of-left-requires
parts_of-left-requires g c =
    let race = g.V.Verdicts.is_race c.args.verdicts.now c.args.receive.now in
    subst (All race) (sym (c.of-kept.ensures ∙ kept_whole [] (events_in c.args.earlier.now) c.requires.begun)) c.requires.races

pub loop-part-init : goal.loop-part-init
loop-part-init g c =
    let is = g.V.Verdicts.is_verdict c.args.verdicts.now c.args.receive.now in
    let left = c.parts_of-left.result in
    let earlier = events_in c.args.earlier.now in
    let all : earlier ≡ events_left left = sym (c.parts_of-left.ensures.events ∙ c.of-kept.ensures ∙ kept_whole [] earlier c.requires.begun) in
    let none = subst (λ (ps : List Part). AreParts is [] ps × AreLongest (ps ++ listed left.next)) (sym c.new-parts.ensures.items) (no_parts is, longest_begun is left.next) in
    ([], all, c.parts_of-left.ensures.left, none.0, none.1)

pub next_part-requires : goal.next_part-requires
next_part-requires g c = c.loop-part.invariant.2

pub loop-part-preserved : goal.loop-part-preserved
loop-part-preserved g c =
    let is = g.V.Verdicts.is_verdict c.args.verdicts.now c.args.receive.now in
    let so_far = c.loop-part.invariant in
    let old = c.loop-part.left in
    let new = c.next_part.new.left in
    let parts = c.loop-part.parts.items in
    let part = c.in-Some.part in
    let its = c.in-Some.ensures.part in
    let more = subst (λ (ps : List Part). AreParts is (so_far.0 ++ part_events part) ps × AreLongest (ps ++ listed new.next)) (sym c.in_ok-push.ensures.items)
    (parts_next is old new parts part its so_far.4 so_far.0 so_far.3, longest_next is old new parts part its so_far.4) in (
      so_far.0 ++ part_events part,
      taken_part (events_in c.args.earlier.now) so_far.0 (events_left old) (part_events part) (events_left new) so_far.1 its.events,
      c.in-Some.ensures.left,
      more.0,
      more.1,
    )

pub loop-part-smaller : goal.loop-part-smaller
loop-part-smaller g c =
    let its = c.in-Some.ensures.part in
    fewer_left c.in-Some.part (events_left c.loop-part.left) (events_left c.next_part.new.left) its.holds.range.some its.events

pub returns : goal.returns
returns g c =
    let is = g.V.Verdicts.is_verdict c.args.verdicts.now c.args.receive.now in
    let so_far = c.loop-part.invariant in
    let all = so_far.1 ∙ ap (λ (es : List EventNo). so_far.0 ++ es) c.in_default.ensures.part ∙ append-nil so_far.0 in
    subst (λ (es : List EventNo). AreParts is es c.loop-part.parts.items) (sym all) so_far.3
