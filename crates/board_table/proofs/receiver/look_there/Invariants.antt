use Rattle.board_table.proofs.receiver.look_there.Given as goal

abbrev pub ghosts-look_at : goal.ghosts-look_at
ghosts-look_at a = record { lane = a.lane.now; region = 0 }
