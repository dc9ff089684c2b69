-- What C gets from a command line whose files are in memory (this project's profile): the exit status, and the lengths
-- of its texts.
use Rattle.std.specs.Prelude.{◌≡◌, List, Result}
use Rattle.c_board.specs.declared.misuse.Misuse.{Misuse}
use Rattle.c_commands.specs.declared.performing.Performed.{Performed}
use Rattle.c_commands.specs.declared.given.Bytes.{Bytes}
use Rattle.c_commands.specs.CommandLines.{ViewsSome}
use Rattle.msc.specs.declared.performing.MscLengths.{MscLengths}
use Rattle.msc.specs.Answers.{Got}
use Rattle.msc.specs.Performing.{performed_code, lengths_after, Streams}

-- the request of some words was done with the texts, or the words are no request
abbrev pub ViewsTexts : List Bytes → Streams → Got MscLengths → Streams → Type 0
ViewsTexts texts room got written = (answer : Result Performed Misuse)
    × ViewsSome texts room.out room.err answer written.out written.err
    × (got.code ≡ performed_code answer) × (got.output ≡ lengths_after got.before answer)
