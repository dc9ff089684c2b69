use Rattle.std.proofs.Common.{map}
use Rattle.std.proofs.lemmas.Bool.Decides.{same_from_decides}
use Rattle.std.proofs.lemmas.Slice.Eq.{bytes_eq-Decides}
use Rattle.std.specs.Char.{to_ascii_lowercase}
use Rattle.texts.specs.Bytes.Words.{is_spelled}
use Rattle.texts.proofs.bytes.words.is_spelled.Goals as goal

pub returns : goal.returns
unfolding is_spelled
returns c =
    same_from_decides _ _ c.eq_ignore_ascii_case.ensures.test
    (bytes_eq-Decides (map to_ascii_lowercase c.args.word.now) (map to_ascii_lowercase c.args.known.now))
