use Rattle.board_table.proofs.receiver.find_anew.Given as goal

abbrev pub ghosts-find_anew_at : goal.ghosts-find_anew_at
ghosts-find_anew_at a = record { lane = a.lane.now; region = 0 }
