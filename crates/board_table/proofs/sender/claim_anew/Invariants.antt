use Rattle.board_table.proofs.sender.claim_anew.Given as goal

abbrev pub ghosts-claim_anew_at : goal.ghosts-claim_anew_at
ghosts-claim_anew_at a = record { lane = a.lane.now; region = 0 }
