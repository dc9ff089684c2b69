use Rattle.msc_text.proofs.ReaderLemmas.EventLines.{in_line_is}
use Rattle.msc_text.proofs.reader.event_line.receive_words.Goals as goal

pub returns : goal.returns
returns c =
    let words = rw c.in-Some.is at c.next_word.ensures.words in
    in_line_is _ _ _ _ _ _ c.in_ok-rest.ensures words c.in_ok-word.ensures c.in_ok-partner.ensures
