use Rattle.std.proofs.Common.{◌≡◌, ◌∙◌, ◌+◌, ◌&&◌, sym, length, ap, get_or, None}
use Rattle.std.specs.Prelude.{is_some}
use Rattle.log_chart.specs.Entries.{is_send}
use Rattle.race_verdicts.specs.Luck.LaneTables.{AreLastSends}
use Rattle.race_verdicts.proofs.LuckLemmas.LaneLemmas.{AreMore, above_none, more_other, more_send, last_other, last_taken, above_next, above_all}
use Rattle.race_verdicts.proofs.LuckLemmas.LineLemmas.{there}
use Rattle.race_verdicts.proofs.LuckLemmas.TableLemmas.{none_whole}
use Rattle.race_verdicts.proofs.luck.lanes.above_of.Goals as goal
use Rattle.race_verdicts.proofs.luck.lanes.above_of.Goals.{then-is_send, else-is_send, then-is_taken, else-is_taken}

pub loop-number-init : goal.loop-number-init
loop-number-init c = above_none c.args.lines.now _ _ (none_whole (length c.args.lines.now) _ c.in_ok-above.ensures) c.in_ok-last.ensures

pub loop-number-preserved : goal.loop-number-preserved
loop-number-preserved c =
    let lines = c.args.lines.now in
    let i = c.loop-number.number in
    let x = c.index-lines-number.result in
    let above = c.loop-number.above in
    let last = c.loop-number.last in
    let takers = c.args.takers.now in
    let here = there lines i x c.loop-number-test.true c.index-lines-number.is in
    let so_far = c.loop-number.invariant in
    let more : AreMore lines i x here above last so_far c.if-is_send.above =
    elim c.if-is_send.branch [
      | then-is_send w ↦
          rw w.above-is
          (more_send lines i x here above last so_far w.at.result w.set.new.self (w.at.ensures so_far.lasts.sends so_far.lasts.are) w.set.ensures)
      | else-is_send w ↦ rw w.above-is (more_other lines i x here above last so_far (sym c.is_send.ensures ∙ w.if-is_send.false))
    ] in
    let stated : c.is_taken.result ≡ (is_send x.entry.kind && is_some (get_or takers i None)) = c.is_taken.ensures ∙ ap (λ t. is_send x.entry.kind && is_some t) c.at-in-loop-number.ensures in
    let lasts : AreLastSends lines (i + 1) c.if-is_taken.last =
    elim c.if-is_taken.branch [
      | then-is_taken w ↦
          rw w.last-is (last_taken lines i x here above last so_far takers c.requires w.set-then-is_taken.new.self (sym stated ∙ w.if-is_taken.true) (w.set-then-is_taken.ensures so_far.lasts.sends so_far.lasts.are))
      | else-is_taken w ↦ rw w.last-is (last_other lines i x here above last so_far takers c.requires (sym stated ∙ w.if-is_taken.false))
    ] in
    above_next lines i x here above last so_far c.if-is_send.above c.if-is_taken.last more lasts

pub returns : goal.returns
returns c = above_all c.args.lines.now c.loop-number.number c.loop-number.above _ c.loop-number-test.false c.loop-number.invariant
