use Rattle.std.proofs.Common.{Ok, sym, ap, ◌∙◌}
use Rattle.msc_text.proofs.ReaderLemmas.EventLines.{are_found}
use Rattle.msc_text.proofs.ReaderLemmas.Sayings.{differs}
use Rattle.msc_text.proofs.reader.event_line.found_in.Goals as goal

pub returns : goal.returns
returns c =
    let other = differs _ _ (sym c.if-eq.ensures) in
    are_found _ _ _ _ c.instance.result c.in-Ok-Ok.instance c.in-Ok.name c.instance.ensures (c.in-Ok-Ok.is ∙ ap Ok c.in-Ok-Ok.field-0-is) (sym c.name.ensures ∙ c.in-Ok.is) (λ same. other (c.as_bytes.ensures.value ∙ same))
