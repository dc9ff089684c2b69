use Rattle.log_lines.proofs.windows.+window_length.Given as goal

abbrev pub decreases-window_length : goal.decreases-window_length
decreases-window_length l = l.more
