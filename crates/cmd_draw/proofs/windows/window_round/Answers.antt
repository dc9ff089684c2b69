use Rattle.std.proofs.Common.{◌∙◌, sym}
use Rattle.cmd_draw.proofs.WindowLemmas.{has_row}
use Rattle.cmd_draw.proofs.windows.window_round.Goals as goal

pub unreachable-requires : goal.unreachable-requires
unreachable-requires c = has_row (c.args.names.now, c.args.lines.now) c.args.layout.now c.args.around.now c.in_ok-event.event c.requires (sym c.event_named.ensures ∙ c.in_ok-event.was) (sym c.row_of.ensures ∙ c.in-None.is)
