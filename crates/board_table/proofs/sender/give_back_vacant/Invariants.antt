use Rattle.board_table.proofs.sender.give_back_vacant.Given as goal

abbrev pub ghosts-give_back_vacant_at : goal.ghosts-give_back_vacant_at
ghosts-give_back_vacant_at a = record { lane = a.lane.now; region = 0 }
