use Rattle.board_table.proofs.receiver.give_back_full.Given as goal

abbrev pub ghosts-give_back_full_at : goal.ghosts-give_back_full_at
ghosts-give_back_full_at a = record { lane = a.lane.now; region = 0 }
