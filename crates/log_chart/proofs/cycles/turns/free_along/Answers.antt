use Rattle.std.proofs.Common.{◌≡◌, ◌<◌, List, length, take, drop, get_or, ◌++◌, map, sym, ap, ◌∙◌, subst, arith}
use Rattle.log_chart.specs.HostLines.{kept}
use Rattle.log_chart.specs.Cycles.Sources.{AreLines, AreSources}
use Rattle.log_chart.specs.Cycles.Turns.{apart, left_before, HasAsked}
use Rattle.log_chart.specs.declared.cycles.past.Past.{Past}
use Rattle.log_chart.proofs.CyclesLemmas.SettleLemmas.{kept_are, freed_length}
use Rattle.log_chart.proofs.CyclesLemmas.WalkLemmas.{ready, walk_begins, walk_freed, walk_passed, apart_lines}
use Rattle.log_chart.proofs.CyclesLemmas.AskedLemmas.{put_back, asked_length}
use Rattle.log_chart.proofs.cycles.turns.free_along.Goals.{then-branch, else-branch}
use Rattle.log_chart.proofs.cycles.turns.free_along.Goals as goal

pub sources_of-requires : goal.sources_of-requires
sources_of-requires c =
    let log = c.args.log.now in
    let own = c.args.first.now.host in
    let others_are : c.in_ok-others.others.items ≡ map (apart own) (kept log) = c.in_ok-others.ensures ∙ ap (map (apart own)) (c.deref.ensures.value ∙ c.in_ok-lines.ensures) in
    subst (AreLines (length log)) (sym (c.deref-2.ensures.value ∙ others_are)) (apart_lines (length log) own (kept log) (kept_are log))

pub loop-place-init : goal.loop-place-init
loop-place-init c =
    let own = c.args.first.now.host in
    let others_are : c.in_ok-others.others.items ≡ map (apart own) (kept c.args.log.now) = c.in_ok-others.ensures ∙ ap (map (apart own)) (c.deref.ensures.value ∙ c.in_ok-lines.ensures) in
    rw c.free.ensures
    (walk_begins c.args.log.now c.args.first.now c.in_ok-others.others.items c.in_ok-sources.sources.above.items c.in_ok-sources.sources.sends.items c.in_ok-left.left.first.items c.in_ok-left.left.next.items
    c.in_ok-pasts.pasts.items c.args.number c.requires.streams c.requires.number c.requires.first c.requires.plain c.requires.on others_are c.in_ok-left.ensures.lists c.in_ok-left.ensures.left
    c.in_ok-pasts.ensures.whole c.in_ok-pasts.ensures.none)

pub is_on_cycle-requires-clause-pasts : goal.is_on_cycle-requires-clause-pasts
is_on_cycle-requires-clause-pasts c = ap length c.deref_mut.ensures.value ∙ c.loop-place.invariant.pasts_whole

pub is_on_cycle-requires-clause-ready : goal.is_on_cycle-requires-clause-ready
is_on_cycle-requires-clause-ready c =
    let log = c.args.log.now in
    let own = c.args.first.now.host in
    let others = c.in_ok-others.others.items in
    let tops = c.in_ok-sources.sources.above.items in
    let sends = c.in_ok-sources.sources.sends.items in
    let whole : length c.loop-place.log ≡ length log = c.loop-place.invariant.turned.whole in
    let others_are : others ≡ map (apart own) (kept log) = c.in_ok-others.ensures ∙ ap (map (apart own)) (c.deref.ensures.value ∙ c.in_ok-lines.ensures) in
    let numbered : AreLines (length c.loop-place.log) others = subst (λ m. AreLines m others) (sym whole) (subst (AreLines (length log)) (sym others_are) (apart_lines (length log) own (kept log) (kept_are log))) in
    let sources : AreSources others (length c.loop-place.log) tops sends =
    subst (λ m. AreSources others m tops sends) (sym whole) (subst (λ l. AreSources l (length log) tops sends) c.deref-2.ensures.value c.in_ok-sources.ensures) in
    let within : c.loop-place.place < length c.loop-place.log = omega (arith, c.loop-place-test.true, ap length c.free.ensures, freed_length c.args.number log, whole) in
    λ i s x i_in is_own one at head x_is.
    ready log c.loop-place.log c.args.first.now others tops sends c.loop-place.left.first.items c.loop-place.left.next.items c.loop-place.pasts.items c.loop-place.place c.loop-place.invariant numbered sources
    c.index-log-place.result within (sym c.index-log-place.is) i s x (omega (arith, i_in, ap length c.deref_mut.ensures.value)) is_own one at head (x_is ∙ ap (λ (l : List Past). get_or l i x) c.deref_mut.ensures.value)

pub loop-place-preserved : goal.loop-place-preserved
loop-place-preserved c =
    let log = c.args.log.now in
    let own = c.args.first.now.host in
    let others = c.in_ok-others.others.items in
    let tops = c.in_ok-sources.sources.above.items in
    let sends = c.in_ok-sources.sources.sends.items in
    let whole : length c.loop-place.log ≡ length log = c.loop-place.invariant.turned.whole in
    let others_are : others ≡ map (apart own) (kept log) = c.in_ok-others.ensures ∙ ap (map (apart own)) (c.deref.ensures.value ∙ c.in_ok-lines.ensures) in
    let numbered : AreLines (length c.loop-place.log) others = subst (λ m. AreLines m others) (sym whole) (subst (AreLines (length log)) (sym others_are) (apart_lines (length log) own (kept log) (kept_are log))) in
    let sources : AreSources others (length c.loop-place.log) tops sends =
    subst (λ m. AreSources others m tops sends) (sym whole) (subst (λ l. AreSources l (length log) tops sends) c.deref-2.ensures.value c.in_ok-sources.ensures) in
    let within : c.loop-place.place < length c.loop-place.log = omega (arith, c.loop-place-test.true, ap length c.free.ensures, freed_length c.args.number log, whole) in
    let e = c.index-log-place.result in
    let after = c.is_on_cycle.new.pasts in
    let has_asked : HasAsked tops sends c.loop-place.left.first.items own e c.loop-place.place c.loop-place.pasts.items after c.in_ok-is_on_cycle.field-0 =
    subst (λ (l : List Past). HasAsked tops sends c.loop-place.left.first.items own e c.loop-place.place l after c.in_ok-is_on_cycle.field-0) c.deref_mut.ensures.value c.in_ok-is_on_cycle.ensures in
    let back : take c.loop-place.pasts.len (after ++ drop (length after) c.loop-place.pasts.items) ≡ after =
    put_back c.loop-place.pasts.len after c.loop-place.pasts.items (asked_length tops sends c.loop-place.left.first.items own e c.loop-place.place c.loop-place.pasts.items after c.in_ok-is_on_cycle.field-0 has_asked)
    (omega (arith, c.deref_mut.ensures.len, ap length c.deref_mut.ensures.value)) in
    elim c.if-branch.branch [
      | then-branch w ↦
          rw (back, w.log-is, w.left-is, w.free-then-branch.ensures)
          (walk_freed log c.loop-place.log c.args.first.now others tops sends c.loop-place.left.first.items c.loop-place.left.next.items c.loop-place.pasts.items c.loop-place.place c.loop-place.invariant numbered sources e
          within (sym c.index-log-place.is) after c.in_ok-is_on_cycle.field-0 w.if-branch.true has_asked)
      | else-branch w ↦
          rw (back, w.log-is, w.left-is)
          (walk_passed log c.loop-place.log c.args.first.now others tops sends c.loop-place.left.first.items c.loop-place.left.next.items c.loop-place.pasts.items c.loop-place.place c.loop-place.invariant numbered sources e
          within (sym c.index-log-place.is) after c.in_ok-is_on_cycle.field-0 w.send_for.new.left.first.items w.send_for.new.left.next.items w.if-branch.false has_asked w.send_for.ensures.lists
          (w.send_for.ensures.left (left_before c.loop-place.log c.loop-place.place) c.loop-place.invariant.left))
    ]

pub returns : goal.returns
returns c = record {
  streams = c.loop-place.invariant.turned.have;
  among = c.loop-place.invariant.turned.among;
  fewer = c.loop-place.invariant.fewer;
  turns = c.loop-place.invariant.turned.so_far;
}
