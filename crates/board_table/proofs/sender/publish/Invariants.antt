use Rattle.board_table.proofs.sender.publish.Given as goal

abbrev pub ghosts-publish_at : goal.ghosts-publish_at
ghosts-publish_at a = record { lane = a.lane.now; region = 0 }
