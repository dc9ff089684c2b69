use Rattle.texts.proofs.ReadingLemmas.FirstBytes.{first_byte}
use Rattle.texts.proofs.reading.lines.place_of_line_feed.Goals as goal

pub returns : goal.returns
returns c = first_byte 10 c.args.bytes.now c.memchr.result c.memchr.ensures
