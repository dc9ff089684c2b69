-- What a post keeps for the lanes to and from another instance (differences between clocks: after Singhal and
-- Kshemkalyani 1992; kept numbers: this project's profile).
use Rattle.std.specs.Prelude.{◌≡◌, ◌≢◌, ℕ, suc, ◌≤◌, List, ◌++◌, length, slice_get, Some}
use Rattle.chart.specs.declared.history.Occurrence.{Occurrence}
use Rattle.chart.specs.Histories.{own, sent, received, is_closed, IsLegal, Begins}
use Rattle.chart.specs.declared.instance.TheConstants.{MAX_INSTANCES}
use Rattle.line_recorder.specs.Recorders.{RecorderView}
use Rattle.board_core.specs.Instances.{IsInstance}
use Rattle.atomic_table.specs.Seated.{TableId}
use Rattle.chart.specs.declared.history.TheConstants.{MAX_CAPACITY}
use Rattle.board_table.specs.declared.held.Held.{Held}
use Rattle.board_table.specs.Carrying.{sent_base, received_base}
use Rattle.board_table.specs.Knowing.{Mine, held, Rests}
use Rattle.board.specs.Views.{PostView}
use Rattle.board.specs.declared.ends.Outgoing.{Outgoing}
use Rattle.board.specs.declared.ends.Incoming.{Incoming}

-- the sender's end of the lane from p to q, as the history has it
pub record IsOutgoing (n : ℕ) (h : List Occurrence) (p q : ℕ) (o : Outgoing) : Type 0 where
  pub put : o.put ≡ length (sent h p q)
  pub known : o.known_taken ≤ received h p q
  pub unsent : o.closed ≡ is_closed h p q
  pub base : o.base ≡ sent_base n h p q
  pub long : length o.base ≡ n

-- the receiver's end of the lane from q to p, as the history has it
pub record IsIncoming (n : ℕ) (h : List Occurrence) (p q : ℕ) (i : Incoming) : Type 0 where
  pub taken : i.taken ≡ received h q p
  pub known : i.known_put ≤ length (sent h q p)
  pub base : i.base ≡ received_base n h q p
  pub long : length i.base ≡ n

-- p's ends of its lanes, each at the other instance's place, except the end to one instance and the end from one, 0 for
-- none
pub record AreEndsBut (n : ℕ) (h : List Occurrence) (p to_one from_one : ℕ) (outgoing : List Outgoing)
    (incoming : List Incoming) : Type 0 where
  pub as_many : length outgoing ≡ n
  pub of_each : length incoming ≡ n
  pub sends : (j : ℕ) (o : Outgoing) → suc j ≢ p → suc j ≢ to_one → slice_get outgoing j ≡ Some o
      → IsOutgoing n h p (suc j) o
  pub takes : (j : ℕ) (i : Incoming) → suc j ≢ p → suc j ≢ from_one → slice_get incoming j ≡ Some i
      → IsIncoming n h p (suc j) i

-- all of p's ends
abbrev pub AreEnds : ℕ → List Occurrence → ℕ → List Outgoing → List Incoming → Type 0
AreEnds n h p outgoing incoming = AreEndsBut n h p 0 0 outgoing incoming

-- a board may have n instances, and lanes of k slots
pub record IsSized (n k : ℕ) : Type 0 where
  pub several : 2 ≤ n
  pub within_limit : n ≤ MAX_INSTANCES
  pub some : 1 ≤ k
  pub slots : k ≤ MAX_CAPACITY

-- what a post knows besides its seat: its recorder, its open coregion, 0 for none, and its ends of its lanes, each at
-- the other instance's place
pub record Knowledge : Type 0 where
  pub recorder : RecorderView
  pub region : ℕ
  pub outgoing : List Outgoing
  pub incoming : List Incoming

-- what p knows holds in the history that it has seen, which is legal
pub record Knows (n k : ℕ) (h : List Occurrence) (p : ℕ) (knowledge : Knowledge) : Type 0 where
  pub legal : IsLegal n k h
  pub own : IsInstance n h p knowledge.recorder knowledge.region
  pub ends : AreEnds n h p knowledge.outgoing knowledge.incoming

-- a post between two calls: its seat, its number, and what it knows
pub record IsPost (me : Mine) (n k p : ℕ) (knowledge : Knowledge) : Type 0 where
  pub sized : IsSized n k
  pub least : 1 ≤ p
  pub most : p ≤ n
  pub rests : Rests n k p me
  pub knows : Knows n k (held me).seen p knowledge
  pub made : own (held me).seen p ≡ (held me).made

-- what a call of p adds to what its seat knows: these events, the newest first, one directly after another, and after
-- all that it saw; none if it made none
pub record Did (n k p : ℕ) (e f : Held) (before events : List Occurrence) : Type 0 where
  pub later : Begins e.seen before
  pub legal_before : IsLegal n k before
  pub own_before : own before p ≡ e.made
  pub seen : f.seen ≡ events ++ before
  pub made : f.made ≡ events ++ e.made
  pub legal : IsLegal n k f.seen
  pub own : own f.seen p ≡ f.made
  pub looks : e.looks ≤ f.looks

-- what a contract sees of a post with this seat, this open coregion and this room
abbrev pub view_of : TableId → Mine → ℕ → ℕ → ℕ → ℕ → ℕ → PostView
view_of table me n k p region room = record {
  board = record { table = table; size = n; capacity = k };
  number = p;
  seen = (held me).seen;
  made = (held me).made;
  looks = (held me).looks;
  region = region;
  room = room;
}
