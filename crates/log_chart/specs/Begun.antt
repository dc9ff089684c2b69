-- Logs that begin in the middle: for a receive without a send its peer gets an invented one. It is directly after the
-- send of the last message before it on its lane, or at the head of the peer's line if there is none.
use Rattle.std.specs.Prelude.{ℕ, ◌==◌, ◌&&◌, Bool, not, List, [], ◌∷◌, ◌++◌, filter, Option, None, Some, is_none, if◌then◌else◌}
use Rattle.log_chart.specs.Entries.{is_send}
use Rattle.log_chart.specs.LaneTables.{LaneSends}
use Rattle.log_chart.specs.Fates.{is_on, is_sent_at}
use Rattle.log_chart.specs.declared.begun.Begun.{Begun}
use Rattle.log_chart.specs.declared.matching.LogLine.{LogLine}

-- the newer of two sends
abbrev pub newer : Option ℕ → Option ℕ → Option ℕ
newer None last = last
newer (Some s) last = Some s

-- the send of each lane's last message so far, after one more line
abbrev pub lasts_after : LaneSends → LogLine → LaneSends
lasts_after lasts x q p = if is_on q p x then newer x.send (lasts q p) else lasts q p

-- the line is a receive without a send
abbrev pub is_begun : LogLine → Bool
is_begun x = not (is_send x.entry.kind) && is_none x.send

-- the send that is invented for it
abbrev pub begun_of : LaneSends → LogLine → Begun
begun_of lasts x = record {
  receive = x.number;
  sender = x.entry.peer;
  receiver = x.entry.host;
  behind = lasts x.entry.peer x.entry.host;
}

-- the sends that are invented for these lines
unfoldable pub begun_from : LaneSends → List LogLine → List Begun
begun_from lasts [] = []
begun_from lasts (x ∷ lines) =
    (if is_begun x then begun_of lasts x ∷ [] else []) ++ begun_from (lasts_after lasts x) lines

abbrev pub begun : List LogLine → List Begun
begun lines = begun_from (λ q p. None) lines

-- the numbers of the receives whose invented sends directly follow this send
unfoldable pub behind : List Begun → ℕ → List ℕ
behind [] s = []
behind (b ∷ given) s = if is_sent_at s b.behind then b.receive ∷ behind given s else behind given s

-- the invented sends at the head of q's line
abbrev pub heads : List Begun → ℕ → List Begun
heads given q = filter (λ b. is_none b.behind && b.sender == q) given

-- those of them to p, by the numbers of their receives
unfoldable pub heads_to : List Begun → ℕ → List ℕ
heads_to [] p = []
heads_to (b ∷ given) p = if b.receiver == p then b.receive ∷ heads_to given p else heads_to given p
