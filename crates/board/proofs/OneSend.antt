-- What a sender has after a call that only saw something.
use Rattle.std.proofs.Common.{◌≡◌, ℕ, ◌<◌, List, [], length, sym, ap, ◌∙◌, arith}
use Rattle.chart.specs.declared.history.Occurrence.{Occurrence}
use Rattle.chart.specs.declared.line.TheConstants.{MAX_EVENTS}
use Rattle.chart.specs.Histories.{own, is_closed, chart_of, IsLegal}
use Rattle.chart.proofs.Histories.{same_closed}
use Rattle.line_recorder.specs.Recorders.{RecorderView}
use Rattle.line_recorder.specs.Recording.{IsRecorder}
use Rattle.line_recorder.proofs.Carrying.{carried_right}
use Rattle.board_core.proofs.OwnEvents.{same_line, same_recorder}
use Rattle.board_table.specs.declared.held.Held.{Held}
use Rattle.board.specs.declared.ends.Outgoing.{Outgoing}
use Rattle.board.specs.Known.{IsOutgoing, Did}
use Rattle.board.proofs.Claiming.{sent_within}

-- the recorder's knowledge has an entry for each instance
pub known_many : (n k : ℕ) (h : List Occurrence) (p : ℕ) (r : RecorderView) → IsLegal n k h → IsRecorder n h p r → length r.knowledge ≡ n
known_many n k h p r legal its = ap length its.knowledge ∙ (carried_right n k h legal).known_long p

-- the call only saw something
module _ (n k p : ℕ) (e f : Held) (legal : IsLegal n k e.seen) (its : own e.seen p ≡ e.made) (did : Did n k p e f f.seen []) where
  pub saw_same : own f.seen p ≡ own e.seen p
  saw_same = did.own ∙ did.made ∙ sym its

  pub recorder_saw : (r : RecorderView) → IsRecorder n e.seen p r → IsRecorder n f.seen p r
  recorder_saw r recorder = same_recorder n e.seen f.seen did.later k p r legal saw_same recorder

  pub line_saw : chart_of f.seen p ≡ chart_of e.seen p
  line_saw = same_line n e.seen f.seen did.later p saw_same

  pub closed_saw : (q : ℕ) → is_closed f.seen p q ≡ is_closed e.seen p q
  closed_saw q = same_closed e.seen f.seen p q saw_same

-- fewer messages were put on a lane than a line may have events
pub put_less : (n : ℕ) (h : List Occurrence) (p q : ℕ) (o : Outgoing) → IsOutgoing n h p q o → length (chart_of h p) < MAX_EVENTS → o.put < MAX_EVENTS
put_less n h p q o end short = let within = sent_within h p q in omega (arith, end.put)
