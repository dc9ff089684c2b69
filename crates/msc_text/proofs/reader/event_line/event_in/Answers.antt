use Rattle.msc_text.proofs.ReaderLemmas.EventLines.{in_any}
use Rattle.msc_text.proofs.reader.event_line.event_in.Goals as goal

pub returns-in-111 : goal.returns-in-111
returns-in-111 c = rw c.in-Inside.is (in_any _ _ _ c.args.open_region c.send_in.result c.send_in.ensures)
