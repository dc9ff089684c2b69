-- The words of the text (this project's own; JSON is that of RFC 8259).
use Rattle.std.specs.Prelude.{ℕ, List, [], None, Some, codes, decimal}
use Rattle.cmd_compare.specs.declared.verdict.Verdict.{Verdict}
use Rattle.cmd_compare.specs.declared.verdict.Verdict.TheVariants as verdicts
use Rattle.cmd_compare.specs.declared.word.Word.{Word}
use Rattle.cmd_compare.specs.declared.word.Word.TheVariants as words
use Rattle.cmd_compare.specs.declared.part.Part.{Part}
use Rattle.cmd_compare.specs.declared.part.Part.TheVariants as parts

-- the fixed parts between names and numbers
unfoldable pub word_text : Word → List ℕ
word_text words.Colon = codes ": "
word_text words.Open = codes " ("
word_text words.To = codes ", to "
word_text words.From = codes ", from "
word_text words.There = codes "; "
word_text words.CloseThere = codes " in B)"
word_text words.Close = codes ")\n"
word_text words.Before = codes " comes before "
word_text words.InSecond = codes " in B: "
word_text words.InFirst = codes " in A, "
word_text words.InSecondEnd = codes " in B\n"
word_text words.OnlyFirst = codes ": only A has "
word_text words.OnlySecond = codes ": only B has "
word_text words.Race = codes "race"
word_text words.Enforced = codes "enforced"
word_text words.Unclaimed = codes "unclaimed"
word_text words.Instance = codes "{\"instance\":\""
word_text words.Earlier = codes "\",\"earlier\":"
word_text words.EarlierThere = codes ",\"earlier_in_b\":"
word_text words.EarlierMessage = codes ",\"earlier_message\":\""
word_text words.Later = codes "\",\"later\":"
word_text words.LaterThere = codes ",\"later_in_b\":"
word_text words.LaterMessage = codes ",\"later_message\":\""
word_text words.First = codes "\",\"a\":\""
word_text words.Second = codes "\",\"b\":\""
word_text words.EndObject = codes "\"}\n"
word_text words.FirstAlone = codes "{\"only\":\"a\",\"instance\":\""
word_text words.SecondAlone = codes "{\"only\":\"b\",\"instance\":\""
word_text words.Event = codes "\",\"event\":"
word_text words.Message = codes ",\"message\":\""

-- the word for a verdict
abbrev pub verdict_word : Verdict → Word
verdict_word verdicts.Enforced = words.Enforced
verdict_word verdicts.Race = words.Race
verdict_word verdicts.Unclaimed = words.Unclaimed

-- the text of a part
abbrev pub part_text : Part → List ℕ
part_text (parts.Word word) = word_text word
part_text (parts.Number n) = decimal n
part_text (parts.Name None) = []
part_text (parts.Name (Some name)) = name
