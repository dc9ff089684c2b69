use Rattle.board_table.proofs.sender.claim_again.Given as goal

abbrev pub ghosts-claim_again_at : goal.ghosts-claim_again_at
ghosts-claim_again_at a = record { lane = a.lane.now; region = 0 }
