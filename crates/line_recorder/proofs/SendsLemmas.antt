-- Several sends at once are the same as these sends one after another.
use Rattle.std.proofs.Common.{◌≡◌, ℕ, zero, suc, ◌+◌, ◌-◌, max, List, [], ◌∷◌, ◌++◌, length, map, refl, sym, ap, ap₂, ◌∙◌, arith, append_assoc, append-nil}
use Rattle.std.proofs.lemmas.List.{length-append}
use Rattle.chart.specs.Charts.{LineView}
use Rattle.chart.specs.Events.{send_event}
use Rattle.clock.proofs.EntryLemmas.{with_entry-with_entry}
use Rattle.line_recorder.specs.Recorders.{RecorderView, send_clock, after_send, begun_send, after_begun, after_sends, send_clocks}
use Rattle.line_recorder.specs.Sends.{clock_at, next_clocks, known_after}

-- after a send the clocks of the later ones are what they were
clock_at-after_send : (r : RecorderView) (to : ℕ) (name : List ℕ) (index : ℕ) → clock_at (after_send r to name) index ≡ clock_at r index
clock_at-after_send r to name index = with_entry-with_entry r.knowledge r.line.instance (length r.line.events + 1) index

-- the line is one longer
length-after_send : (r : RecorderView) (to : ℕ) (name : List ℕ) (n : ℕ) → length (after_send r to name).line.events + n ≡ length r.line.events + suc n
length-after_send r to name n = omega (arith, length-append r.line.events (send_event to name ∷ []))

-- the clock of a send, and those of the next ones
next_clocks-suc : (r : RecorderView) (to : ℕ) (name : List ℕ) (n : ℕ) → send_clock r ∷ next_clocks (after_send r to name) n ≡ next_clocks r (suc n)
next_clocks-suc r to name zero = refl
next_clocks-suc r to name (suc n) =
    let e : clock_at (after_send r to name) (length (after_send r to name).line.events + suc n) ≡ clock_at r (length r.line.events + suc (suc n)) = clock_at-after_send r to name (length (after_send r to name).line.events + suc n) ∙ ap (clock_at r) (length-after_send r to name (suc n)) in
    rw e (ap (λ clocks. clocks ++ clock_at r (length r.line.events + suc (suc n)) ∷ []) (next_clocks-suc r to name n))

-- the knowledge after a send and the next ones
known_after-suc : (r : RecorderView) (to : ℕ) (name : List ℕ) (n : ℕ) → known_after (after_send r to name) n ≡ known_after r (suc n)
known_after-suc r to name zero = refl
known_after-suc r to name (suc n) = clock_at-after_send r to name (length (after_send r to name).line.events + suc n) ∙ ap (clock_at r) (length-after_send r to name (suc n))

-- the clocks of several sends
pub send_clocks_are : (r : RecorderView) (to : ℕ) (names : List (List ℕ)) → send_clocks r to names ≡ next_clocks r (length names)
send_clocks_are r to [] = refl
send_clocks_are r to (name ∷ names) = ap (λ clocks. send_clock r ∷ clocks) (send_clocks_are (after_send r to name) to names) ∙ next_clocks-suc r to name (length names)

-- a recorder after several sends
pub after_sends_is : (r : RecorderView) (to : ℕ) (names : List (List ℕ)) → after_sends r to names ≡ record { line = record { instance = r.line.instance; events = r.line.events ++ map (send_event to) names }; knowledge = known_after r (length names); reports = r.reports; room = r.room - length names }
after_sends_is r to [] = ap₂ (λ events room. record { line = record { instance = r.line.instance; events = events }; knowledge = r.knowledge; reports = r.reports; room = room }) (sym (append-nil r.line.events)) (omega arith)
after_sends_is r to (name ∷ names) =
    rw (after_sends_is (after_send r to name) to names, known_after-suc r to name (length names), append_assoc r.line.events (send_event to name ∷ []) (map (send_event to) names), one_less) refl
  where
    one_less : r.room - 1 - length names ≡ r.room - suc (length names)
    one_less = omega arith

-- a recorder with that line, that knowledge and that room is the one after the sends
pub is_after_sends : (r : RecorderView) (to : ℕ) (names : List (List ℕ)) (line : LineView) (known : List ℕ) (room : ℕ) → line ≡ record { instance = r.line.instance; events = r.line.events ++ map (send_event to) names } → known ≡ known_after r (length names) → room ≡ r.room - length names
    → ◌≡◌ {A = RecorderView} (record { line = line; knowledge = known; reports = r.reports; room = room }) (after_sends r to names)
is_after_sends r to names line known room is_line is_known is_room = rw (after_sends_is r to names, is_line, is_known, is_room) refl

-- one more send
pub after_sends-push : (r : RecorderView) (to : ℕ) (names : List (List ℕ)) (name : List ℕ) → after_sends r to (names ++ name ∷ []) ≡ after_send (after_sends r to names) to name
after_sends-push r to [] name = refl
after_sends-push r to (first ∷ names) name = after_sends-push (after_send r to first) to names name

-- a send that was begun and then recorded is a send
pub begun_sent : (r : RecorderView) (to : ℕ) (name : List ℕ) → after_begun (begun_send r) to name ≡ after_send r to name
begun_sent r to name = let room : max r.room 1 - 1 ≡ r.room - 1 = omega arith in rw room refl
