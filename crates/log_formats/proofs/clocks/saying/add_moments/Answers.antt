use Rattle.std.proofs.Common.{map, ap, ◌∙◌, arith}
use Rattle.log_lines.specs.Reading.{read_view}
use Rattle.log_formats.specs.Clocks.Hearing.{heard_view}
use Rattle.log_formats.specs.Clocks.Moments.{moment_view}
use Rattle.log_formats.proofs.ClocksLemmas.EndLemmas.{list_is, moments_next}
use Rattle.log_formats.proofs.clocks.saying.add_moments.Goals as goal

pub loop-at-preserved : goal.loop-at-preserved
loop-at-preserved c = λ all receives sends.
    let received = c.args.received.now in
    let sent = c.args.sent.now in
    moments_next moment_view c.args.moments.now c.loop-at.at c.index-moments-at.result c.loop-at-test.true c.index-moments-at.is all (map (λ list. map heard_view list.items) received)
    (map (λ list. map heard_view list.items) sent) (map heard_view c.as_slice-got.result.now) (map heard_view c.as_slice-given.result.now) (read_view c.loop-at.read) (read_view c.add_moment.new.read) receives sends
    (list_is (λ list. map heard_view list.items) received c.loop-at.at c.index-received-at.result (map heard_view c.as_slice-got.result.now) (omega (arith, c.requires.received)) c.index-received-at.is (ap (map heard_view) c.as_slice-got.ensures.value))
    (list_is (λ list. map heard_view list.items) sent c.loop-at.at c.index-sent-at.result (map heard_view c.as_slice-given.result.now) (omega (arith, c.requires.sent)) c.index-sent-at.is (ap (map heard_view) c.as_slice-given.ensures.value))
    c.in_ok-add_moment.ensures
    ∙ c.loop-at.invariant all receives sends
