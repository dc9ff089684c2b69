-- Messages that lead to an event: to a later event of a line, one after another, and the places on a line.
use Rattle.std.proofs.Common.{◌≡◌, ℕ, zero, suc, ◌+◌, ◌<◌, ◌≤◌, inl, inr, List, length, refl, sym, ap, ◌∙◌, subst, arith, add-one}
use Rattle.std.proofs.lemmas.Bool.{cases_eq}
use Rattle.chart.specs.Events.{is_send_to, is_receive_from}
use Rattle.chart.specs.Charts.{Chart, Place, at, LineView, IsSendTo, BelongsTo, IsChart, chart_lines}
use Rattle.chart.specs.declared.line.TheConstants.{MAX_EVENTS}
use Rattle.closure.specs.Searches.{IsSend}
use Rattle.chart.specs.Order.{IsEarlier}
use Rattle.chart.specs.Places.{IsEvent}
use Rattle.chart.proofs.Belongs.{IsEvent-from_passes}
use Rattle.closure.proofs.ReadLemmas.{instance_within, line_short}
use Rattle.closure.specs.Cycle.Fronts.{IsLead}
use Rattle.closure.specs.Cycle.Rounds.{IsReceivedAbove, Leads, IsRound, HasNoRound}
use Rattle.closure.specs.Rows.{entry}

-- an event above another one is above a later one of its line
pub above_later : (r e f : Place) → e.instance ≡ f.instance → e.index ≤ f.index → IsEarlier r e → IsEarlier r f
above_later r e f line le l = record { line = l.line ∙ line; begun = l.begun; less = omega (arith, l.less) }

pub heard_later : (c : Chart) (e f s : Place) → e.instance ≡ f.instance → e.index ≤ f.index → IsReceivedAbove c e s → IsReceivedAbove c f s
heard_later c e f s line le (r, belongs, above) = (r, belongs, above_later r e f line le above)

-- messages that lead to an event lead to a later one of its line
pub leads_later : (c : Chart) (e f s : Place) (many : ℕ) → e.instance ≡ f.instance → e.index ≤ f.index → Leads c e (suc many) s → Leads c f (suc many) s
leads_later c e f s zero line le (t, is, heard) = (f, refl, heard_later c e f s line le (subst (λ x. IsReceivedAbove c x s) is heard))
leads_later c e f s (suc many) line le (t, leads, heard) = (t, leads_later c e f t many line le leads, heard)

-- messages, and before them others
pub leads_then : (c : Chart) (e t s : Place) (a b : ℕ) → Leads c e a t → Leads c t b s → Leads c e (a + b) s
leads_then c e t s a zero on is = let same : a ≡ a + zero = omega arith in subst (λ k. Leads c e k s) same (subst (Leads c e a) (sym is) on)
leads_then c e t s a (suc b) on (u, leads, heard) =
    let more : Leads c e (suc (a + b)) s = (u, leads_then c e t u a b on leads, heard) in
    let same : suc (a + b) ≡ a + suc b = omega arith in
    subst (λ k. Leads c e k s) same more

-- the first of them begins with a send
pub leads_send : (c : Chart) (e s : Place) (many : ℕ) → Leads c e (suc many) s → (q : ℕ) × IsSendTo c q s
leads_send c e s many (t, leads, (r, belongs, above)) = (r.instance, belongs.sent)

-- the last is received above the event
pub last_heard : (c : Chart) (e s : Place) (many : ℕ) → Leads c e (suc many) s → (u : Place) × IsReceivedAbove c e u
last_heard c e s zero (t, is, heard) = (s, subst (λ x. IsReceivedAbove c x s) is heard)
last_heard c e s (suc many) (t, leads, heard) = last_heard c e t many leads

-- if a message is received above a place, the place is on a line of the chart
pub heard_within : (lines : List LineView) (e s : Place) → IsReceivedAbove (chart_lines lines) e s → (p : ℕ) × (e.instance ≡ suc p) × (p < length lines)
heard_within lines e s (r, belongs, above) =
    let w = instance_within lines r (IsEvent-from_passes (chart_lines lines) (is_receive_from s.instance) r belongs.received) in
    (w.0, sym above.line ∙ w.1, w.2)

-- messages that lead to an event begin with an event
pub leads_event : (c : Chart) (e s : Place) (many : ℕ) → IsEvent c e → Leads c e many s → IsEvent c s
leads_event c e s zero event is = subst (IsEvent c) (sym is) event
leads_event c e s (suc many) event leads = let w = leads_send c e s many leads in IsEvent-from_passes c (is_send_to w.0) s w.1

-- a front of messages that lead to an event is within its line
pub lead_within : (lines : List LineView) (e : Place) (many p : ℕ) (front : List ℕ) → IsEvent (chart_lines lines) e → IsLead lines e many front → entry front p ≤ length (chart_lines lines p)
lead_within lines e many p front event is =
    elim (is.sound p) [
      | inl none ↦ omega arith
      | inr leads ↦ (leads_event (chart_lines lines) e (at p (entry front p)) many event leads).1
    ]

-- it is within the limit of a line
pub lead_short : (lines : List LineView) (e : Place) (many p : ℕ) (front : List ℕ) → IsChart lines → IsEvent (chart_lines lines) e → IsLead lines e many front → entry front p ≤ MAX_EVENTS
lead_short lines e many p front chart event is =
    elim (is.sound p) [
      | inl none ↦ omega arith
      | inr leads ↦
          let there = leads_event (chart_lines lines) e (at p (entry front p)) many event leads in
          let w = instance_within lines (at p (entry front p)) there in
          let short = line_short lines w.0 chart w.2 in
          let same = ap (λ q. length (chart_lines lines q)) w.1 in
          omega (arith, there.1, short, same)
    ]

-- if some messages lead to an event, the first one has a receive
pub leads_received : (c : Chart) (e s : Place) (many : ℕ) → 0 < many → Leads c e many s → (r : Place) × BelongsTo c s r
leads_received c e s zero some leads = absurd (omega arith)
leads_received c e s (suc many) some (t, leads, (r, belongs, above)) = (r, belongs)

-- messages lead around from a send
pub round_send : (c : Chart) (many : ℕ) (s : Place) → IsRound c many s → IsSend c s
round_send c zero s (some, leads) = absurd (omega arith)
round_send c (suc many) s (some, leads) = leads_send c s s many leads

pub round_event : (c : Chart) (many : ℕ) (s : Place) → IsRound c many s → IsEvent c s
round_event c many s round = let w = round_send c many s round in IsEvent-from_passes c (is_send_to w.0) s w.1

-- if a front has reached the event on its own line, messages lead around
pub comes_around : (lines : List LineView) (line place before instance last : ℕ) (front : List ℕ) → IsLead lines (at (suc line) (suc place)) (suc before) front → last ≡ entry front (suc line) → place < last → instance ≡ suc line → IsRound (chart_lines lines) (before + 1) (at instance last)
comes_around lines line place before instance last front lead is later same =
    let c : Chart = chart_lines lines in
    let leads : Leads c (at (suc line) (suc place)) (suc before) (at (suc line) (entry front (suc line))) = elim (lead.sound (suc line)) [ inl none ↦ absurd (omega (arith, none, is)) | inr has ↦ has ] in
    let moved = subst (λ k. Leads c (at (suc line) (suc place)) (suc before) (at (suc line) k)) (sym is) leads in
    let around = leads_later c (at (suc line) (suc place)) (at (suc line) last) (at (suc line) last) before refl (omega arith) moved in
    let by_line = subst (λ p. Leads c (at p last) (suc before) (at p last)) (sym same) around in
    (omega arith, subst (λ k. Leads c (at instance last) k (at instance last)) (sym (add-one before)) by_line)

-- if it hasn't, no round of this many messages leads around to the event itself
pub none_around : (lines : List LineView) (line place before last : ℕ) (front : List ℕ) → IsLead lines (at (suc line) (suc place)) (suc before) front → last ≡ entry front (suc line) → last ≤ place → HasNoRound (chart_lines lines) (at (suc line) (suc place)) (before + 1) → HasNoRound (chart_lines lines) (at (suc line) (suc place)) (before + 1 + 1)
none_around lines line place before last front lead is low none many some less leads =
    elim (cases_eq many (suc before)) [
      | inr differs ↦ none many some (omega (arith, differs, less)) leads
      | inl same ↦
          let most = lead.most (at (suc line) (suc place)) (subst (λ k. Leads (chart_lines lines) (at (suc line) (suc place)) k (at (suc line) (suc place))) same leads) in
          omega (arith, most, is, low)
    ]
