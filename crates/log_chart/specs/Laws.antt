-- A law of the lines of hosts: lanes are first in, first out (Alur, Holzmann and Peled 1996).
use Rattle.std.specs.Prelude.{◌≡◌, ℕ, ◌≤◌, ◌==◌, ◌&&◌, not, List, [], ◌∷◌, ◌++◌, map, All, if◌then◌else◌}
use Rattle.log_chart.specs.Begun.{begun}
use Rattle.log_chart.specs.Fates.{sender_of, receiver_of}
use Rattle.log_chart.specs.HostLines.{kept}
use Rattle.log_chart.specs.Items.{items_of}
use Rattle.log_chart.specs.NameOrder.{by_name}
use Rattle.log_chart.specs.declared.entry.Entry.{Entry}
use Rattle.log_chart.specs.declared.item.Item.{Item}
use Rattle.log_chart.specs.declared.item.MessageNo.{MessageNo}
use Rattle.log_chart.specs.declared.item.MessageNo.TheVariants as messages

-- each stream is on one lane
abbrev pub AreOfLanes : (ℕ → ℕ) → (ℕ → ℕ) → List Entry → Type 0
AreOfLanes from to log = All (λ e. (sender_of e ≡ from e.stream) × (receiver_of e ≡ to e.stream)) log

-- the messages that a line sends to p, in their order
abbrev pub sent_to : ℕ → List Item → List MessageNo
sent_to p [] = []
sent_to p (i ∷ items) = if i.sends && i.partner == p then i.message ∷ sent_to p items else sent_to p items

-- the messages that a line receives from q, in their order
abbrev pub received_from : ℕ → List Item → List MessageNo
received_from q [] = []
received_from q (i ∷ items) = if not i.sends && i.partner == q then i.message ∷ received_from q items else received_from q items

-- a host's line
abbrev pub line_of : ℕ → List Entry → ℕ → List Item
line_of n log p = items_of (by_name n log) (kept log) (begun (kept log)) p

-- on each lane the n-th message that is received is the n-th one that is sent; the other messages were sent last, and
-- nobody received them
abbrev pub LaneLaw : Type 0
LaneLaw = (n : ℕ) (from to : ℕ → ℕ) (log : List Entry) → AreOfLanes from to log → (q p : ℕ) → 1 ≤ p → p ≤ n
    → (rest : List ℕ) × (sent_to p (line_of n log q) ≡ received_from q (line_of n log p) ++ map messages.Sent rest)
