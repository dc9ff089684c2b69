-- Messages that have a chart: each lane is first in, first out (Alur, Holzmann and Peled 1996), and no line has too
-- many events.
use Rattle.std.specs.Prelude.{◌≡◌, ℕ, ◌≤◌, true, false, List, length}
use Rattle.chart.specs.declared.line.TheConstants.{MAX_EVENTS}
use Rattle.chart.specs.Histories.{AreTwo}
use Rattle.diagrams.specs.Messages.Each.{Each, Pairs}
use Rattle.diagrams.specs.Messages.Turns.{all_ends, own_ends}
use Rattle.diagrams.specs.declared.messages.message.Named.{Named}

-- n follows m: it isn't sent earlier; on m's lane it isn't received earlier, and it is lost if m is lost
pub record Follows (m n : Named) : Type 0 where
  pub order : m.begins ≤ n.begins
  pub taken : m.sender ≡ n.sender → m.receiver ≡ n.receiver → m.is_lost ≡ false → n.is_lost ≡ false → m.ends ≤ n.ends
  pub lost : m.sender ≡ n.sender → m.receiver ≡ n.receiver → m.is_lost ≡ true → n.is_lost ≡ true

-- a message is between two of n instances, and isn't received above its send
pub record IsMessage (n : ℕ) (m : Named) : Type 0 where
  pub two : AreTwo n m.sender m.receiver
  pub down : m.is_lost ≡ false → m.begins ≤ m.ends

-- messages that have a chart of n instances
pub record AreBuildable (n : ℕ) (messages : List Named) : Type 0 where
  pub each : Each (IsMessage n) messages
  pub follow : Pairs Follows messages
  pub room : (p : ℕ) → length (own_ends p (all_ends messages)) ≤ MAX_EVENTS
