use Rattle.std.proofs.Common.{◌≡◌, [], drop, map}
use Rattle.log_formats.specs.Clocks.Hearing.{heard_view, with_all_heard}
use Rattle.log_formats.specs.Clocks.Moments.{moment_view}
use Rattle.log_formats.specs.Clocks.Tables.{AreLasts}
use Rattle.log_formats.proofs.clocks.heard.all_heard.Given as goal

abbrev pub invariant-loop-at : goal.invariant-loop-at
invariant-loop-at l = record {
  heard : with_all_heard (map moment_view l.moments) l.at (map heard_view l.all.items) (map moment_view (drop l.at l.moments))
      ≡ with_all_heard (map moment_view l.moments) 0 [] (map moment_view l.moments);
  lasts : AreLasts (map moment_view l.moments) l.at l.lasts.entries;
}
