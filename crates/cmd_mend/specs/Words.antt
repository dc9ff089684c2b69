-- The words of the reports of messages that mend races (this project's profile).
use Rattle.std.specs.Prelude.{ℕ, List, codes}
use Rattle.cmd_mend.specs.declared.word.Word.{Word}
use Rattle.cmd_mend.specs.declared.word.Word.TheVariants as words

-- what stands between names and numbers
unfoldable pub word_text : Word → List ℕ
word_text words.From = codes " from "
word_text words.To = codes " to "
word_text words.Sent = codes ": sent behind event "
word_text words.Received = codes ", received behind event "
word_text words.Goes = codes "goes: "
word_text words.Stays = codes "stays: "
word_text words.Comes = codes "comes: "
word_text words.NoMessage = codes "no message from "
word_text words.Does = codes " does: "
word_text words.Crossed = codes " comes behind the receive's send\n"
word_text words.OnItsWay = codes " is on its way\n"
word_text words.Race = codes "race "
word_text words.Space = codes " "
word_text words.Colon = codes ": "
word_text words.LineFull = codes "refused: F7 LineFull "
word_text words.Pairs = codes "race pairs: "
word_text words.Go = codes " go, "
word_text words.Stay = codes " stay, "
word_text words.Come = codes " come\n"
word_text words.StoppedAfter = codes "stopped after "
word_text words.AreLeft = codes " races are left\n"
word_text words.End = codes "\n"
