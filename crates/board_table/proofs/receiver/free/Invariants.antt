use Rattle.board_table.proofs.receiver.free.Given as goal

abbrev pub ghosts-free_at : goal.ghosts-free_at
ghosts-free_at a = record { lane = a.lane.now; region = a.region }
