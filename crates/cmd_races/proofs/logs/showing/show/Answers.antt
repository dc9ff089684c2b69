use Rattle.cmd_races.proofs.logs.showing.show.Goals as goal

pub show_recording-requires-clause-keeps : goal.show_recording-requires-clause-keeps
show_recording-requires-clause-keeps g c = c.in-Ok.ensures.keeps

pub show_recording-requires-clause-numbered : goal.show_recording-requires-clause-numbered
show_recording-requires-clause-numbered g c = c.in-Ok.ensures.numbered
