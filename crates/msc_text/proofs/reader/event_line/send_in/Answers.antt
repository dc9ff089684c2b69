use Rattle.std.proofs.Common.{sym, ◌∙◌}
use Rattle.msc_text.proofs.ReaderLemmas.EventLines.{send_line}
use Rattle.msc_text.proofs.reader.event_line.send_in.Goals as goal

pub returns : goal.returns
returns c = λ open_region.
    rw c.inside.ensures (send_line c.args.region open_region (sym c.is_closed.ensures ∙ c.if-not-is_closed.false) c.in_ok-message.ensures c.in_ok-to.ensures c.requires)
