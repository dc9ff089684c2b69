-- What is read by clocks is in the order of the log's events, and what comes before in it has a lesser clock.
use Rattle.std.proofs.Common.{◌≡◌, ℕ, zero, suc, ◌+◌, ◌<◌, ◌≤◌, ◌⊎◌, inl, inr, true, List, [], ◌∷◌, ◌++◌, Some, filter, drop, refl, sym, ap, ◌∙◌, subst, arith, Contains}
use Rattle.std.specs.Prelude.{All, slice_get, is_some, nat_lt}
use Rattle.std.proofs.lemmas.Bool.{and_parts, false≢true, ltb-true, cond_both, cases_lt}
use Rattle.std.proofs.lemmas.List.Elements.{All-nil, All-head, All-tail, All-push, All-contains, All-filter, filter_passes}
use Rattle.log_lines.specs.Events.{ClockedAtView, LoggedEventView, AnEvent, Other}
use Rattle.log_lines.specs.Reading.{ReadView, with_line}
use Rattle.log_lines.specs.declared.event.Act.TheVariants.{Send, Receive}
use Rattle.log_formats.specs.Clocks.Ends.{is_from}
use Rattle.log_formats.specs.Clocks.Hearing.{HeardView, all_heard}
use Rattle.log_formats.specs.Clocks.Messages.{IsMessage, logged_at}
use Rattle.log_formats.specs.Clocks.Moments.{MomentView, is_by_clock, moment_of, with_moments}
use Rattle.log_formats.specs.Clocks.ReadOrder.{MayTake, IsAbove, IsTaken, IsReadBefore, above, taken, step, IsOf, AreReadInOrder, ReadLaw}
use Rattle.log_formats.specs.Clocks.Saying.{receive_of, send_of, with_receives, with_sends, with_worded, with_moment, with_all_moments, moments_in, by_clocks}
use Rattle.log_formats.specs.Clocks.Stamps.{stamps_in, count_of}
use Rattle.log_formats.specs.Clocks.VectorTime.{ComesBefore, along, message, over, IsVectorTime, IsLess, AreInOrder}
use Rattle.log_formats.proofs.ClocksLemmas.MessageLemmas.{IsEndOf, as_send, as_receive, as_begun, IsHeard, heard_all, send_end, receive_end, at_here, rest_here, there, same_event}
use Rattle.log_formats.proofs.ClocksLemmas.OrderLemmas.{order_law}

module _ (events : List MomentView) where
  -- an event that is read is an end at the event at a place
  pub record IsPlaced (p : ℕ) (x : LoggedEventView) : Type 0 where
    pub event : MomentView
    pub at : slice_get events p ≡ Some event
    pub counted : 0 < event.own
    pub its : IsEndOf events event x

  -- these are ends at events that rise from one place to another
  abbrev pub IsRising : ℕ → ℕ → List LoggedEventView → Type 0
  IsRising low high [] = low ≤ high
  IsRising low high (x ∷ xs) = (p : ℕ) × (low ≤ p) × IsPlaced p x × IsRising p high xs

  push : (low at : ℕ) (xs : List LoggedEventView) (x : LoggedEventView) → IsRising low at xs → IsPlaced at x → IsRising low at (xs ++ x ∷ [])
  push low at [] x up its = (at, up, its, omega arith)
  push low at (y ∷ ys) x (p, up, here, rest) its = (p, up, here, push p at ys x rest its)

  widen : (low high more : ℕ) (xs : List LoggedEventView) → high ≤ more → IsRising low high xs → IsRising low more xs
  widen low high more [] up rising = omega (arith, up, rising)
  widen low high more (x ∷ xs) up (p, least, here, rest) = (p, least, here, widen p high more xs up rest)

  module _ (at : ℕ) (m : MomentView) (here : slice_get events at ≡ Some m) where
    receives_rise : 0 < m.own → (heard : List HeardView) → All (IsHeard events) heard → All (λ h. is_from at (Some h.at) ≡ true) heard → (r : ReadView) → IsRising 0 at r.logged
        → IsRising 0 at (with_receives events m heard r).logged
    receives_rise counted [] its from r up = up
    receives_rise counted (h ∷ heard) its from r up =
        receives_rise counted heard (All-tail (IsHeard events) h heard its) (All-tail (λ (x : HeardView). is_from at (Some x.at) ≡ true) h heard from) (with_line m.place (AnEvent (receive_of events m h)) r)
        (push 0 at r.logged (logged_at m.place (receive_of events m h)) up (record {
          event = m;
          at = here;
          counted = counted;
          its = receive_end events at m here h (All-head (IsHeard events) h heard its) (All-head (λ (x : HeardView). is_from at (Some x.at) ≡ true) h heard from);
        }))

    sends_rise : 0 < m.own → (heard : List HeardView) → All (IsHeard events) heard → All (λ h. is_from at h.source ≡ true) heard → (r : ReadView) → IsRising 0 at r.logged
        → IsRising 0 at (with_sends m heard r).logged
    sends_rise counted [] its from r up = up
    sends_rise counted (h ∷ heard) its from r up =
        sends_rise counted heard (All-tail (IsHeard events) h heard its) (All-tail (λ (x : HeardView). is_from at x.source ≡ true) h heard from) (with_line m.place (AnEvent (send_of m h)) r)
        (push 0 at r.logged (logged_at m.place (send_of m h)) up (record {
          event = m;
          at = here;
          counted = counted;
          its = send_end events at m here h (All-head (IsHeard events) h heard its) (All-head (λ (x : HeardView). is_from at x.source ≡ true) h heard from);
        }))

    moment_rises : is_some m.worded.others ≡ true → (all : List HeardView) → All (IsHeard events) all → (r : ReadView) → IsRising 0 at r.logged → IsRising 0 at (with_moment events all at m r).logged
    moment_rises worded all its r up =
        let got = λ (h : HeardView). is_from at (Some h.at) in
        let sent = λ (h : HeardView). is_from at h.source in
        cond_both (is_by_clock m) (with_sends m (filter sent all) (with_receives events m (filter got all) r)) (with_worded m r) (λ (x : ReadView). IsRising 0 at x.logged)
        (λ by. let counted = ltb-true 0 m.own (and_parts (is_some m.worded.others) (nat_lt 0 m.own) by).1 in
        sends_rise counted (filter sent all) (All-filter sent (IsHeard events) all its) (filter_passes sent all) (with_receives events m (filter got all) r)
        (receives_rise counted (filter got all) (All-filter got (IsHeard events) all its) (filter_passes got all) r up))
        (λ _. cond_both (is_some m.worded.others) (with_line m.place Other r) (record r { logged = r.logged ++ m.worded.logged }) (λ (x : ReadView). IsRising 0 at x.logged) (λ _. up)
        (λ none. absurd (false≢true (sym none ∙ worded))))

  moments_rise : ((e : MomentView) → Contains events e → is_some e.worded.others ≡ true) → (all : List HeardView) → All (IsHeard events) all → (at : ℕ) (rest : List MomentView) → drop at events ≡ rest → (r : ReadView)
      → IsRising 0 at r.logged → (high : ℕ) × IsRising 0 high (with_all_moments events all at rest r).logged
  moments_rise worded all its at [] here r up = (at, up)
  moments_rise worded all its at (m ∷ rest) here r up =
      let at_m = at_here events at m rest here in
      moments_rise worded all its (at + 1) rest (rest_here events at m rest here) (with_moment events all at m r)
      (widen 0 at (at + 1) (with_moment events all at m r).logged (omega arith) (moment_rises at m at_m (worded m (there events at m at_m)) all its r up))

  -- the place of the event of a read event
  abbrev pub place_at : (low high : ℕ) (xs : List LoggedEventView) → IsRising low high xs → ℕ → ℕ
  place_at low high [] rising a = 0
  place_at low high (x ∷ xs) rising zero = rising.0
  place_at low high (x ∷ xs) rising (suc a) = place_at rising.0 high xs rising.3 a

  placed_at : (low high : ℕ) (xs : List LoggedEventView) (rising : IsRising low high xs) (a : ℕ) (x : LoggedEventView) → slice_get xs a ≡ Some x → IsPlaced (place_at low high xs rising a) x
  placed_at low high [] rising a x e = absurd (cc)
  placed_at low high (y ∷ ys) rising zero x e = let same : y ≡ x = cc in subst (IsPlaced rising.0) same rising.2
  placed_at low high (y ∷ ys) rising (suc a) x e = placed_at rising.0 high ys rising.3 a x e

  low_at : (low high : ℕ) (xs : List LoggedEventView) (rising : IsRising low high xs) (a : ℕ) (x : LoggedEventView) → slice_get xs a ≡ Some x → low ≤ place_at low high xs rising a
  low_at low high [] rising a x e = absurd (cc)
  low_at low high (y ∷ ys) rising zero x e = rising.1
  low_at low high (y ∷ ys) rising (suc a) x e = omega (arith, rising.1, low_at rising.0 high ys rising.3 a x e)

  rises_at : (low high : ℕ) (xs : List LoggedEventView) (rising : IsRising low high xs) (a b : ℕ) (x y : LoggedEventView) → slice_get xs a ≡ Some x → slice_get xs b ≡ Some y → a < b
      → place_at low high xs rising a ≤ place_at low high xs rising b
  rises_at low high [] rising a b x y x_at y_at less = absurd (cc)
  rises_at low high (z ∷ zs) rising zero zero x y x_at y_at less = absurd (omega (arith, less))
  rises_at low high (z ∷ zs) rising zero (suc b) x y x_at y_at less = low_at rising.0 high zs rising.3 b y y_at
  rises_at low high (z ∷ zs) rising (suc a) zero x y x_at y_at less = absurd (omega (arith, less))
  rises_at low high (z ∷ zs) rising (suc a) (suc b) x y x_at y_at less = rises_at rising.0 high zs rising.3 a b x y x_at y_at (omega (arith, less))

-- the host and the place of an end are those of its event
end_of : (events : List MomentView) (e : MomentView) (x : LoggedEventView) → IsEndOf events e x → IsOf e x
end_of events e x (as_send to its is) = record { place = ap (λ (l : LoggedEventView). l.place) is; host = ap (λ (l : LoggedEventView). l.event.host) is }
end_of events e x (as_receive from its is) = record { place = ap (λ (l : LoggedEventView). l.place) is; host = ap (λ (l : LoggedEventView). l.event.host) is }
end_of events e x (as_begun s its is) = record { place = ap (λ (l : LoggedEventView). l.place) is; host = ap (λ (l : LoggedEventView). l.event.host) is }

-- an event's number among those of its host follows from its clock's text
abbrev SaysItself : MomentView → Type 0
SaysItself e = (e.stamps ≡ stamps_in e.clocked.clock) × (e.own ≡ count_of (stamps_in e.clocked.clock) e.clocked.host)

say_itself : (moments : List MomentView) (events : List ClockedAtView) → All SaysItself moments → All SaysItself (with_moments moments events)
say_itself moments [] all = all
say_itself moments (c ∷ events) all = say_itself (moments ++ moment_of c ∷ []) events (All-push SaysItself moments (moment_of c) all (refl, refl))

module _ (events : List MomentView) (say : All SaysItself events) (time : IsVectorTime events) where
  -- events of one host whose clocks have the same text have the same number
  same_own : (e f : MomentView) → Contains events e → Contains events f → f.clocked.host ≡ e.clocked.host → f.clocked.clock ≡ e.clocked.clock → f.own ≡ e.own
  same_own e f e_in f_in host clock =
      (All-contains SaysItself events f say f_in).1 ∙ ap (λ c. count_of (stamps_in c) f.clocked.host) clock ∙ ap (count_of (stamps_in e.clocked.clock)) host ∙ sym (All-contains SaysItself events e say e_in).1

  -- a receive that may take a send is at an event whose clock has the send's event
  pairs : (e f : MomentView) (x y : LoggedEventView) → Contains events e → Contains events f → 0 < e.own → IsEndOf events e x → IsEndOf events f y → MayTake x y → IsMessage events e f
  pairs e f x y e_in f_in counted (as_receive from its is) end takes =
      let act : Receive ≡ Send = sym (ap (λ (l : LoggedEventView). l.event.act) is) ∙ takes.sends in absurd (cc)
  pairs e f x y e_in f_in counted (as_begun s its is) end takes =
      let act : Receive ≡ Send = sym (ap (λ (l : LoggedEventView). l.event.act) is) ∙ takes.sends in absurd (cc)
  pairs e f x y e_in f_in counted (as_send to sent is) (as_send other its was) takes =
      let act : Send ≡ Receive = sym (ap (λ (l : LoggedEventView). l.event.act) was) ∙ takes.receives in absurd (cc)
  pairs e f x y e_in f_in counted (as_send to sent is) (as_receive from its was) takes =
      let host : from.clocked.host ≡ e.clocked.host = sym (ap (λ (l : LoggedEventView). l.event.peer) was) ∙ takes.peer ∙ ap (λ (l : LoggedEventView). l.event.host) is in
      let ids : Some from.clocked.clock ≡ Some e.clocked.clock = sym (ap (λ (l : LoggedEventView). l.event.id) was) ∙ takes.id ∙ ap (λ (l : LoggedEventView). l.event.id) is in
      let clock : from.clocked.clock ≡ e.clocked.clock = cc in
      let own = same_own e from e_in its.sends host clock in
      let known = its.known in
      let count = known.count in
      record {
        sends = e_in;
        receives = f_in;
        counted = counted;
        apart = λ same. its.apart (host ∙ same);
        known = record { entry = known.entry; among = known.among; host = known.host ∙ host; count = omega (arith, own, count) };
      }
  pairs e f x y e_in f_in counted (as_send to sent is) (as_begun s its was) takes =
      let host : s.host ≡ e.clocked.host = sym (ap (λ (l : LoggedEventView). l.event.peer) was) ∙ takes.peer ∙ ap (λ (l : LoggedEventView). l.event.host) is in
      let ids : Some f.clocked.clock ≡ Some e.clocked.clock = sym (ap (λ (l : LoggedEventView). l.event.id) was) ∙ takes.id ∙ ap (λ (l : LoggedEventView). l.event.id) is in
      let clock : f.clocked.clock ≡ e.clocked.clock = cc in
      let own : e.own ≡ s.count =
      (All-contains SaysItself events e say e_in).1 ∙ ap (λ c. count_of (stamps_in c) e.clocked.host) (sym clock) ∙ ap (count_of (stamps_in f.clocked.clock)) (sym host)
      ∙ ap (λ stamps. count_of stamps s.host) (sym (All-contains SaysItself events f say f_in).0) ∙ time.once f s f_in its.among in
      absurd (its.lacking e e_in (sym host) own)

  module _ (read : List LoggedEventView) (high : ℕ) (rising : IsRising events 0 high read) where
    abbrev spot : ℕ → ℕ
    spot a = place_at events 0 high read rising a

    abbrev Leads : ℕ → ℕ → Type 0
    Leads a b = (spot a ≡ spot b) ⊎ ComesBefore events (spot a) (spot b)

    lead_above : (a b : ℕ) → IsAbove read a b → Leads a b
    lead_above a b it =
        let one = placed_at events 0 high read rising a it.x it.x_at in
        let two = placed_at events 0 high read rising b it.y it.y_at in
        let up = rises_at events 0 high read rising a b it.x it.y it.x_at it.y_at it.less in
        let host : one.event.clocked.host ≡ two.event.clocked.host = sym (end_of events one.event it.x one.its).host ∙ it.host ∙ (end_of events two.event it.y two.its).host in
        elim (cases_lt (spot a) (spot b)) [
          | inl less ↦
              inr (along (record {
                from = one.event;
                to = two.event;
                at = record { one = one.at; other = two.at };
                less = less;
                same = host;
                from_counted = one.counted;
                to_counted = two.counted;
              }))
          | inr back ↦ inl (omega (arith, up, back))
        ]

    lead_taken : (a b : ℕ) → IsTaken read a b → Leads a b
    lead_taken a b it =
        let one = placed_at events 0 high read rising a it.x it.x_at in
        let two = placed_at events 0 high read rising b it.y it.y_at in
        inr (message (record {
          from = one.event;
          to = two.event;
          at = record { one = one.at; other = two.at };
          message = pairs one.event two.event it.x it.y (there events (spot a) one.event one.at) (there events (spot b) two.event two.at) one.counted one.its two.its it.takes;
        }))

    join : (a b c : ℕ) → Leads a b → Leads b c → Leads a c
    join a b c (inl same) (inl other) = inl (same ∙ other)
    join a b c (inl same) (inr comes) = inr (subst (λ k. ComesBefore events k (spot c)) (sym same) comes)
    join a b c (inr comes) (inl same) = inr (subst (ComesBefore events (spot a)) same comes)
    join a b c (inr comes) (inr other) = inr (over (spot b) comes other)

    leads : (a b : ℕ) → IsReadBefore read a b → Leads a b
    leads a b (above it) = lead_above a b it
    leads a b (taken it) = lead_taken a b it
    leads a c (step b one two) = join a b c (leads a b one) (leads b c two)

    record IsThere (a : ℕ) : Type 0 where
      pub x : LoggedEventView
      pub here : slice_get read a ≡ Some x

    first_of : (a b : ℕ) → IsReadBefore read a b → IsThere a
    first_of a b (above it) = record { x = it.x; here = it.x_at }
    first_of a b (taken it) = record { x = it.x; here = it.x_at }
    first_of a c (step b one two) = first_of a b one

    last_of : (a b : ℕ) → IsReadBefore read a b → IsThere b
    last_of a b (above it) = record { x = it.y; here = it.y_at }
    last_of a b (taken it) = record { x = it.y; here = it.y_at }
    last_of a c (step b one two) = last_of b c two

    in_order : ((i j : ℕ) → ComesBefore events i j → AreInOrder events i j) → (a b : ℕ) → IsReadBefore read a b → AreReadInOrder events read a b
    in_order law a b it =
        let x = first_of a b it in
        let y = last_of a b it in
        let one = placed_at events 0 high read rising a x.x x.here in
        let two = placed_at events 0 high read rising b y.x y.here in
        record {
          x = x.x;
          y = y.x;
          x_at = x.here;
          y_at = y.here;
          i = spot a;
          j = spot b;
          from = one.event;
          to = two.event;
          at = record { one = one.at; other = two.at };
          x_of = end_of events one.event x.x one.its;
          y_of = end_of events two.event y.x two.its;
          order = by one.event two.event one.at two.at (leads a b it);
        }
      where
        less : (e f : MomentView) → slice_get events (spot a) ≡ Some e → slice_get events (spot b) ≡ Some f → AreInOrder events (spot a) (spot b) → IsLess e.stamps f.stamps
        less e f e_at f_at its =
            subst (λ (m : MomentView). IsLess e.stamps m.stamps) (same_event events (spot b) its.to f its.at.other f_at)
            (subst (λ (m : MomentView). IsLess m.stamps its.to.stamps) (same_event events (spot a) its.from e its.at.one e_at) its.less)

        by : (e f : MomentView) → slice_get events (spot a) ≡ Some e → slice_get events (spot b) ≡ Some f → Leads a b → (spot a ≡ spot b) ⊎ IsLess e.stamps f.stamps
        by e f e_at f_at (inl same) = inl same
        by e f e_at f_at (inr comes) = inr (less e f e_at f_at (law (spot a) (spot b) comes))

pub read_law : ReadLaw
unfolding by_clocks
read_law log its time a b before =
    let events = moments_in log in
    let start : ReadView = record { logged = log.logged; clocked = []; others = log.others } in
    let rising = moments_rise events its.no_words (all_heard events) (heard_all events) 0 events refl start (subst (IsRising events 0 0) (sym its.no_lines) (omega arith)) in
    in_order events (say_itself [] log.clocked (All-nil SaysItself)) time (by_clocks log).logged rising.0 rising.1 (order_law log time) a b before
