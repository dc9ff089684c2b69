-- Two recorders that pass messages to each other.
use Rattle.std.specs.Prelude.{◌≡◌, ◌≢◌, ◌≤◌, length}
use Rattle.line_recorder.specs.Recorders.{RecorderView}

-- they are of two different instances; both clocks have an entry for each of the same instances, and these two are
-- among them
pub record ArePartners (a b : RecorderView) : Type 0 where
  pub different : a.line.instance ≢ b.line.instance
  pub entries : length a.knowledge ≡ length b.knowledge
  pub has_first : a.line.instance ≤ length a.knowledge
  pub has_second : b.line.instance ≤ length b.knowledge
