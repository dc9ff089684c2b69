-- The words for the kinds of skipped constructs of a diagram (this project's words).
use Rattle.std.specs.Prelude.{ℕ, List, codes}
use Rattle.diagrams.specs.declared.left_out.Kind.{Kind}
use Rattle.diagrams.specs.declared.left_out.Kind.TheVariants as kinds

-- the words for one construct of a kind
unfoldable pub kind_word : Kind → List ℕ
kind_word kinds.ArrowBothWays = codes "arrow both ways"
kind_word kinds.ArrowAtTheEdge = codes "arrow from or to the edge"
kind_word kinds.Box = codes "box"
kind_word kinds.Branch = codes "branch"
kind_word kinds.Delay = codes "delay"
kind_word kinds.Diagram = codes "diagram"
kind_word kinds.Divider = codes "divider"
kind_word kinds.Frame = codes "frame"
kind_word kinds.HiddenArrow = codes "hidden arrow"
kind_word kinds.Line = codes "line without a head"
kind_word kinds.LostMessage = codes "lost message"
kind_word kinds.MessageWithin = codes "message between joined lines"
kind_word kinds.MessageToItself = codes "message to oneself"
kind_word kinds.Note = codes "note"
kind_word kinds.Participant = codes "participant"
kind_word kinds.Preprocessor = codes "pre-processor line"
kind_word kinds.Reference = codes "reference"
kind_word kinds.Return = codes "return"

-- the words for several constructs of a kind
unfoldable pub kind_words : Kind → List ℕ
kind_words kinds.ArrowBothWays = codes "arrows both ways"
kind_words kinds.ArrowAtTheEdge = codes "arrows from or to the edge"
kind_words kinds.Box = codes "boxes"
kind_words kinds.Branch = codes "branches"
kind_words kinds.Delay = codes "delays"
kind_words kinds.Diagram = codes "diagrams"
kind_words kinds.Divider = codes "dividers"
kind_words kinds.Frame = codes "frames"
kind_words kinds.HiddenArrow = codes "hidden arrows"
kind_words kinds.Line = codes "lines without a head"
kind_words kinds.LostMessage = codes "lost messages"
kind_words kinds.MessageWithin = codes "messages between joined lines"
kind_words kinds.MessageToItself = codes "messages to oneself"
kind_words kinds.Note = codes "notes"
kind_words kinds.Participant = codes "participants"
kind_words kinds.Preprocessor = codes "pre-processor lines"
kind_words kinds.Reference = codes "references"
kind_words kinds.Return = codes "returns"

-- the way in which constructs with more than one run are read: one run of a frame
unfoldable pub kind_reading : Kind → List ℕ
kind_reading kinds.Frame = codes ": one run is read, of par each branch in turn, of others the first branch, once"
kind_reading _ = codes ""
