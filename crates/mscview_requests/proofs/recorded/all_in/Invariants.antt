use Rattle.std.proofs.Common.{map, take}
use Rattle.std.specs.Prelude.{Some}
use Rattle.mscview_requests.specs.FileBytes.{bytes_of}
use Rattle.mscview_requests.specs.Given.{AreGiven}
use Rattle.mscview_requests.proofs.recorded.all_in.Given as goal

abbrev pub invariant-loop-place : goal.invariant-loop-place
invariant-loop-place g l = AreGiven (g.G.Giver.gives l.giver) 0 (map (λ w. Some w.now) (take l.place l.files)) (map bytes_of l.texts.items)
