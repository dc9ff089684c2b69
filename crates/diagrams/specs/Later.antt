-- The lanes on which later messages are received: for the crate's own functions.
use Rattle.std.specs.Prelude.{ℕ, Bool, true, false, List}
use Rattle.diagrams.specs.Lanes.{AreNumbers}
use Rattle.diagrams.specs.Losing.{is_received_later}
use Rattle.diagrams.specs.declared.message.Message.{Message}

abbrev pub mark : Bool → ℕ
mark true = 1
mark false = 0

-- the table has 1 for each lane on which one of these messages is received, and otherwise 0
abbrev pub AreMarked : List ℕ → List Message → Type 0
AreMarked table messages = AreNumbers table (λ q p. mark (is_received_later messages q p))
