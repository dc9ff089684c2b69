use Rattle.std.proofs.Common.{◌≡◌, ◌+◌, ◌-◌, ◌≤◌, suc}
use Rattle.board_table.specs.Layout.{put_word}
use Rattle.board.proofs.Scanning.{HasPassed}
use Rattle.board.proofs.parked.Parked.pass_open.Given as goal

abbrev pub invariant-loop-place : goal.invariant-loop-place
invariant-loop-place l = record {
  passed : HasPassed l.fn.self l.fn.self.number l.from l.place l.self;
  within : l.place ≤ l.to;
  word : l.word ≡ put_word l.fn.self.board.size (suc l.place) l.fn.self.number;
}

abbrev pub decreases-loop-place : goal.decreases-loop-place
decreases-loop-place l = l.to - l.place

abbrev pub invariant-loop : goal.invariant-loop
invariant-loop l = record {
  passed : HasPassed l.fn.self l.fn.self.number l.from l.place l.self;
  so_far : l.place ≡ l.initial.place + l.counter;
  word : l.word ≡ put_word l.fn.self.board.size (suc l.place) l.fn.self.number;
}

abbrev pub invariant-loop-place-2 : goal.invariant-loop-place-2
invariant-loop-place-2 l = record {
  passed : HasPassed l.fn.self l.fn.self.number l.from l.place l.self;
  within : l.place ≤ l.to;
}

abbrev pub decreases-loop-place-2 : goal.decreases-loop-place-2
decreases-loop-place-2 l = l.to - l.place
