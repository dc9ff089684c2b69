use Rattle.std.proofs.Common.{map, ◌∙◌}
use Rattle.log_formats.specs.Clocks.Hearing.{heard_view}
use Rattle.log_formats.specs.Clocks.Moments.{moment_view}
use Rattle.log_formats.proofs.ClocksLemmas.TableLemmas.{lasts_next, heard_next}
use Rattle.log_formats.proofs.clocks.heard.all_heard.Goals as goal

pub loop-at-preserved : goal.loop-at-preserved
loop-at-preserved c = record {
  heard =
      heard_next moment_view c.args.moments.now c.loop-at.at c.index-moments-at.result c.loop-at-test.true c.index-moments-at.is (map heard_view c.loop-at.all.items) (map heard_view c.add_heard.new.all.items) c.in_ok-add_heard.ensures
      ∙ c.loop-at.invariant.heard;
  lasts =
      lasts_next moment_view c.args.moments.now c.loop-at.at c.index-moments-at.result c.loop-at-test.true c.index-moments-at.is c.loop-at.lasts.entries c.note_last.new.lasts.entries c.loop-at.invariant.lasts
      c.in_ok-note_last.ensures;
}
