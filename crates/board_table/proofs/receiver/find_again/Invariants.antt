use Rattle.board_table.proofs.receiver.find_again.Given as goal

abbrev pub ghosts-find_again_at : goal.ghosts-find_again_at
ghosts-find_again_at a = record { lane = a.lane.now; region = 0 }
