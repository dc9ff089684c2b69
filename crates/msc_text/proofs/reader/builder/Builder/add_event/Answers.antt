use Rattle.msc_text.proofs.ReaderLemmas.Builders.{IsBuilder-event}
use Rattle.msc_text.proofs.reader.builder.Builder.add_event.Goals as goal

pub invariant_of-self-2 : goal.invariant_of-self-2
invariant_of-self-2 c =
    let region = rw (← c.self.view_is) at c.requires.region in
    rw c.region-self-inside.ensures (IsBuilder-event _ c.in-Some.line c.push.new.line c.args.event c.self.invariant c.in-Some.is region c.in_ok-push.ensures.ok)
