use Rattle.msc_text.proofs.ReaderLemmas.EventLines.{receive_line}
use Rattle.msc_text.proofs.reader.event_line.receive_in.Goals as goal

pub returns : goal.returns
returns c = rw (c.inside.ensures, c.after_receive.ensures) (receive_line c.args.region c.args.open_region c.in_ok-message.ensures c.in_ok-from.ensures c.requires)
