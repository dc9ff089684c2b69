use Rattle.board_table.proofs.sender.close.Given as goal

abbrev pub ghosts-close_at : goal.ghosts-close_at
ghosts-close_at a = record { lane = a.lane.now; region = 0 }
