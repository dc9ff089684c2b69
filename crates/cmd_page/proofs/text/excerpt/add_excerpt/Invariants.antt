use Rattle.std.proofs.Common.{length}
use Rattle.texts.specs.Lines.{lines_of}
use Rattle.texts.proofs.PiecesLemmas.Coming.{HasCome}
use Rattle.cmd_page.specs.Text.Excerpts.{lines_text, excerpt_text}
use Rattle.cmd_page.proofs.text.excerpt.add_excerpt.Given as goal

-- the lines so far were added, and the others are the rest
abbrev pub invariant-lines : goal.invariant-lines
invariant-lines g l = HasCome g.W.Out.sink l.initial.text l.text (lines_text l.excerpt l.number l.follows_gap (lines_of l.rest)) (excerpt_text l.excerpt)

abbrev pub decreases-lines : goal.decreases-lines
decreases-lines g l = length l.rest
