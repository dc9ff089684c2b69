use Rattle.c_board.proofs.WordLemmas.{word_is_at}
use Rattle.c_board.proofs.words.word_at.Goals as goal

pub returns : goal.returns
returns c = word_is_at c.args.bytes.now c.args.start c.args.many c.min.result c.requires c.min.ensures
