-- A receiver that looks at its lane before it takes slots of it.
use Rattle.std.proofs.Common.{◌≡◌, ◌≢◌, ◌<◌, ℕ, ◌*◌, ◌/◌, ◌%◌, ◌≤◌, Bool, true, false, List, [], length, sym, ◌∙◌, subst, arith}
use Rattle.chart.specs.declared.history.Occurrence.{Occurrence}
use Rattle.chart.specs.Histories.{own, sent, waiting, is_closed, IsLegal}
use Rattle.chart.proofs.Histories.{none_begins}
use Rattle.board_table.specs.Layout.{LaneView}
use Rattle.board_table.specs.Rule.{closed_bit}
use Rattle.board_table.specs.Knowing.{Mine, held}
use Rattle.board_table.specs.Plays.{LooksAt}
use Rattle.board.specs.declared.ends.Incoming.{Incoming}
use Rattle.board.specs.declared.receiving.Found.{Found}
use Rattle.board.specs.declared.receiving.Found.TheVariants.{Messages, Nothing, Ended}
use Rattle.board.specs.Known.{IsIncoming, Did}
use Rattle.board.specs.Found.{HasNone, IsFound}
use Rattle.board.proofs.EndLemmas.{incoming_later}
use Rattle.board.proofs.DidLemmas.{did_see, waiting_many}
use Rattle.board.proofs.Finding.{nil_of, bit_small, is_set, is_clear}
use Rattle.board.proofs.ReceiveAnswers.{did_onward}

-- a known message waits
pub known_waits : (n k : ℕ) (h : List Occurrence) (p q : ℕ) (o : Incoming) → IsLegal n k h → IsIncoming n h p q o → o.taken < o.known_put → 0 < length (waiting h q p)
known_waits n k h p q o legal end more = let now = waiting_many n k h q p legal in omega (arith, more, now, end.taken, end.known)

module _ (l : LaneView) (m w : Mine) (o : Incoming) (legal : IsLegal l.instances l.capacity (held m).seen) (its : own (held m).seen l.receiver ≡ (held m).made) (end : IsIncoming l.instances (held m).seen l.receiver l.sender o) (word : ℕ) (looks : LooksAt l m word w) where
  pub look_own : own (held w).seen l.receiver ≡ (held w).made
  look_own = subst (λ x. own (held w).seen x ≡ (held w).made) looks.rests.post.number looks.sees.own

  same : own (held w).seen l.receiver ≡ own (held m).seen l.receiver
  same = look_own ∙ looks.sees.made ∙ sym its

  pub look_did : Did l.instances l.capacity l.receiver (held m) (held w) (held w).seen []
  look_did = did_see l.instances l.capacity l.receiver (held m) (held w) looks.rests.post.number (omega (arith, looks.looks)) looks.sees

  pub look_end : IsIncoming l.instances (held w).seen l.receiver l.sender o
  look_end = incoming_later l.instances l.capacity (held m).seen (held w).seen l.receiver l.sender o legal looks.sees.later same end

  put_is : word / 2 ≡ length (sent (held w).seen l.sender l.receiver)
  put_is = let small = bit_small (is_closed (held w).seen l.sender l.receiver) in omega (arith, looks.found)

  bit_is : word % 2 ≡ closed_bit (is_closed (held w).seen l.sender l.receiver)
  bit_is = let small = bit_small (is_closed (held w).seen l.sender l.receiver) in omega (arith, looks.found)

  -- the end that keeps what it found
  pub look_fresh : IsIncoming l.instances (held w).seen l.receiver l.sender (record o { known_put = word / 2 })
  look_fresh = let kept = look_end in record { taken = kept.taken; known = omega (arith, put_is); base = kept.base; long = kept.long }

  -- the word is at least twice the number of received messages
  pub look_twice : 2 * o.taken ≤ word
  look_twice =
      let now = waiting_many l.instances l.capacity (held w).seen l.sender l.receiver looks.sees.legal in
      omega (arith, now, looks.found, look_end.taken)

  pub look_waits : o.taken < word / 2 → 0 < length (waiting (held w).seen l.sender l.receiver)
  look_waits more =
      let now = waiting_many l.instances l.capacity (held w).seen l.sender l.receiver looks.sees.legal in
      omega (arith, more, now, put_is, look_end.taken)

  none : (b : Bool) → word / 2 ≤ o.taken → is_closed (held w).seen l.sender l.receiver ≡ b → HasNone l b m w
  none b less closed =
      let now = waiting_many l.instances l.capacity (held w).seen l.sender l.receiver looks.sees.legal in
      let empty : waiting (held w).seen l.sender l.receiver ≡ [] = nil_of (waiting (held w).seen l.sender l.receiver) (omega (arith, now, put_is, look_end.taken, less)) in
      record {
        rests = looks.rests;
        waits = empty;
        closed = closed;
        before = none_begins (held m).seen (held w).seen looks.sees.later l.sender l.receiver same empty;
        looked = omega (arith, looks.looks);
      }

  pub look_ended : word / 2 ≤ o.taken → word % 2 ≡ 1 → HasNone l true m w
  look_ended less odd = none true less (is_set (is_closed (held w).seen l.sender l.receiver) (omega (arith, odd, bit_is)))

  pub look_nothing : word / 2 ≤ o.taken → word % 2 ≢ 1 → HasNone l false m w
  look_nothing less even = none false less (is_clear (is_closed (held w).seen l.sender l.receiver) (λ e. even (omega (arith, e, bit_is))))

  -- what the look finds
  module _ (v : Mine) (did : Did l.instances l.capacity l.receiver (held w) (held v) (held v).seen []) where
    pub then_did : Did l.instances l.capacity l.receiver (held m) (held v) (held v).seen []
    then_did = did_onward l.instances l.capacity l.receiver (held m) (held w) (held v) (held v).seen [] look_did did

    none_then : (b : Bool) → HasNone l b w v → HasNone l b m v
    none_then b found = record {
      rests = found.rests;
      waits = found.waits;
      closed = found.closed;
      before = none_begins (held m).seen (held w).seen looks.sees.later l.sender l.receiver same found.before;
      looked = omega (arith, looks.looks, found.looked);
    }

    pub then_found : (found : Found) → IsFound l w v found → IsFound l m v found
    then_found Messages is = is
    then_found Nothing is = none_then false is
    then_found Ended is = none_then true is
