use Rattle.std.proofs.Common.{◌≡◌, ◌≤◌, length, map, vec_capacity}
use Rattle.std.specs.List.{range_with_len}
use Rattle.board.specs.Gathering.{left_view}
use Rattle.board.specs.LongRuns.CarriedHistories.{sent_again_by}
use Rattle.board.proofs.long_runs.carrying.count_all_sends.Given as goal

abbrev pub invariant-loop-place : goal.invariant-loop-place
invariant-loop-place l = record {
  counted : l.sends.items ≡ map (λ p. sent_again_by p (map left_view l.left)) (range_with_len 1 l.place);
  many : length l.sends.items ≡ l.place;
  reserved : l.instances ≤ vec_capacity l.sends;
}
