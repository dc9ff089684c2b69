-- Each event that is read of a log with vector time has a reason.
use Rattle.std.proofs.Common.{◌≡◌, ◌≢◌, ℕ, ◌+◌, ◌<◌, ◌==◌, Bool, true, false, List, [], ◌∷◌, ◌++◌, Option, None, Some, drop, filter, take, refl, sym, ap, ◌∙◌, subst, arith, eqb-true, eq-eqb, zero, suc, if◌then◌else◌, Contains}
use Rattle.std.specs.Prelude.{All, slice_get, bytes_eq, is_some, not, nat_lt}
use Rattle.std.specs.Cmp.Lexicographic.{bytes_decides}
use Rattle.std.proofs.lemmas.Bool.{and_parts, not-true, false≢true, ltb-true, cond_both}
use Rattle.std.proofs.lemmas.List.{drop-drop}
use Rattle.std.proofs.lemmas.List.Elements.{All-nil, All-cons, All-head, All-tail, All-append, All-push, All-contains, All-weaker, All-filter, All-contains_itself, filter_passes}
use Rattle.std.proofs.lemmas.Option.{slice_get_within, get_or_from_slice_get}
use Rattle.log_lines.specs.Events.{LoggedEventView, AnEvent, Other, received}
use Rattle.log_lines.specs.Reading.{ReadView, with_line}
use Rattle.log_lines.specs.declared.event.Act.TheVariants.{Send, Receive}
use Rattle.log_formats.specs.Clocks.Ends.{is_from}
use Rattle.log_formats.specs.Clocks.Hearing.{HeardView, grew, heard_of, with_grown, grown, is_implied, with_direct, with_heard, with_all_heard, all_heard}
use Rattle.log_formats.specs.Clocks.Messages.{IsMessage, IsBegun, message_send, begun_receive, logged_at, HasReason, of_line, of_words, of_send, of_receive, of_begun, HaveReasons}
use Rattle.log_formats.specs.Clocks.Moments.{MomentView, is_by_clock, is_at, last_stamps, place_from}
use Rattle.log_formats.specs.Clocks.Saying.{clocked_at, sent_at, receive_of, send_of, with_receives, with_sends, with_worded, with_moment, with_all_moments, moments_in, by_clocks}
use Rattle.log_formats.specs.Clocks.Stamps.{StampView, count_of}

-- an element by its place, and the elements after it
pub at_here : {X : Type 0} (xs : List X) (n : ℕ) (x : X) (rest : List X) → drop n xs ≡ x ∷ rest → slice_get xs n ≡ Some x
at_here [] zero x rest e = cc
at_here (y ∷ ys) zero x rest e = cc
at_here [] (suc n) x rest e = cc
at_here (y ∷ ys) (suc n) x rest e = at_here ys n x rest e

pub rest_here : {X : Type 0} (xs : List X) (n : ℕ) (x : X) (rest : List X) → drop n xs ≡ x ∷ rest → drop (n + 1) xs ≡ rest
rest_here xs n x rest e = sym (drop-drop 1 n xs) ∙ ap (drop 1) e

pub there : {X : Type 0} (xs : List X) (n : ℕ) (x : X) → slice_get xs n ≡ Some x → Contains xs x
there xs n x e = (n, slice_get_within xs n x e, get_or_from_slice_get xs n x x e)

same_bytes : (a b : List ℕ) → bytes_eq a b ≡ true → a ≡ b
same_bytes a b e = (bytes_decides a b).0 e

apart_bytes : (a b : List ℕ) → bytes_eq a b ≡ false → a ≢ b
apart_bytes a b differ same = false≢true (sym differ ∙ (bytes_decides a b).1 same)

-- an event that is read is an end of a message at an event of the log
pub data IsEndOf : List MomentView → MomentView → LoggedEventView → Type 0 where
  as_send : {events : List MomentView} {e : MomentView} {x : LoggedEventView} (to : MomentView) → IsMessage events e to → x ≡ logged_at e.place (message_send e to) → IsEndOf events e x
  as_receive : {events : List MomentView} {e : MomentView} {x : LoggedEventView} (from : MomentView) → IsMessage events from e → x ≡ logged_at e.place (received (message_send from e)) → IsEndOf events e x
  as_begun : {events : List MomentView} {e : MomentView} {x : LoggedEventView} (s : StampView) → IsBegun events s e → x ≡ logged_at e.place (begun_receive s e) → IsEndOf events e x

-- there is one event at a place
pub same_event : (moments : List MomentView) (p : ℕ) (e f : MomentView) → slice_get moments p ≡ Some e → slice_get moments p ≡ Some f → e ≡ f
same_event moments p e f one other = let both : Some e ≡ Some f = sym one ∙ other in cc

module _ (moments : List MomentView) where
  -- the event that has an entry as its own
  record IsEventOf (s : StampView) (p : ℕ) : Type 0 where
    pub event : MomentView
    pub at : slice_get moments p ≡ Some event
    pub host : event.clocked.host ≡ s.host
    pub own : event.own ≡ s.count

  event_of : (s : StampView) (p : ℕ) (m : MomentView) → slice_get moments p ≡ Some m → is_at s m ≡ true → IsEventOf s p
  event_of s p m at is =
      let parts = and_parts (bytes_eq m.clocked.host s.host) (m.own == s.count) is in
      record { event = m; at = at; host = same_bytes m.clocked.host s.host parts.0; own = eqb-true m.own s.count parts.1 }

  place_found : (n : ℕ) (s : StampView) (rest : List MomentView) → drop n moments ≡ rest → (p : ℕ) → place_from n s rest ≡ Some p → IsEventOf s p
  place_found n s [] here p e = absurd (cc)
  place_found n s (m ∷ rest) here p e = go (is_at s m) refl (place_found (n + 1) s rest (rest_here moments n m rest here) p)
    where
      opened : (b : Bool) → is_at s m ≡ b → (if b then Some n else place_from (n + 1) s rest) ≡ Some p
      opened b is = sym (ap (λ c. if c then Some n else place_from (n + 1) s rest) is) ∙ e

      go : (b : Bool) → is_at s m ≡ b → (place_from (n + 1) s rest ≡ Some p → IsEventOf s p) → IsEventOf s p
      go true is later =
          let found : Some n ≡ Some p = opened true is in
          let same : n ≡ p = cc in
          event_of s p m (ap (slice_get moments) (sym same) ∙ at_here moments n m rest here) is
      go false is later = later (opened false is)

  place_lacks : (n : ℕ) (s : StampView) (rest : List MomentView) → place_from n s rest ≡ None → All (λ m. is_at s m ≡ false) rest
  place_lacks n s [] e = All-nil (λ (m : MomentView). is_at s m ≡ false)
  place_lacks n s (m ∷ rest) e = go (is_at s m) refl (place_lacks (n + 1) s rest)
    where
      opened : (b : Bool) → is_at s m ≡ b → (if b then Some n else place_from (n + 1) s rest) ≡ None
      opened b is = sym (ap (λ c. if c then Some n else place_from (n + 1) s rest) is) ∙ e

      go : (b : Bool) → is_at s m ≡ b → (place_from (n + 1) s rest ≡ None → All (λ x. is_at s x ≡ false) rest) → All (λ x. is_at s x ≡ false) (m ∷ rest)
      go true is later = let found : Some n ≡ None = opened true is in absurd (cc)
      go false is later = All-cons (λ (x : MomentView). is_at s x ≡ false) m rest is (later (opened false is))

  -- a heard entry is an entry of an event's clock, of another host
  pub record IsHeard (h : HeardView) : Type 0 where
    pub to : MomentView
    pub at : slice_get moments h.at ≡ Some to
    pub host : h.host ≡ to.clocked.host
    pub among : Contains to.stamps h.stamp
    pub apart : h.stamp.host ≢ to.clocked.host
    pub counted : 0 < h.stamp.count
    pub source : h.source ≡ place_from 0 h.stamp moments

  heard_here : (at : ℕ) (m : MomentView) → slice_get moments at ≡ Some m → (before : List StampView) (s : StampView) → Contains m.stamps s → grew m.clocked.host before s ≡ true → IsHeard (heard_of moments at m s)
  heard_here at m here before s among its =
      let parts = and_parts (not (bytes_eq s.host m.clocked.host)) (nat_lt (count_of before s.host) s.count) its in
      let up = ltb-true (count_of before s.host) s.count parts.1 in
      record {
        to = m;
        at = here;
        host = refl;
        among = among;
        apart = apart_bytes s.host m.clocked.host (not-true (bytes_eq s.host m.clocked.host) parts.0);
        counted = omega (arith, up);
        source = refl;
      }

  heard_grown : (at : ℕ) (m : MomentView) → slice_get moments at ≡ Some m → (before : List StampView) (found : List HeardView) (stamps : List StampView) → All (Contains m.stamps) stamps → All IsHeard found
      → All IsHeard (with_grown moments at m before found stamps)
  heard_grown at m here before found [] among all = all
  heard_grown at m here before found (s ∷ stamps) among all =
      heard_grown at m here before (if grew m.clocked.host before s then found ++ heard_of moments at m s ∷ [] else found) stamps (All-tail (Contains m.stamps) s stamps among)
      (cond_both (grew m.clocked.host before s) (found ++ heard_of moments at m s ∷ []) found (All IsHeard)
      (λ its. All-push IsHeard found (heard_of moments at m s) all (heard_here at m here before s (All-head (Contains m.stamps) s stamps among) its)) (λ _. all))

  heard_direct : (found all rest : List HeardView) → All IsHeard all → All IsHeard rest → All IsHeard (with_direct moments found all rest)
  heard_direct found all [] are more = are
  heard_direct found all (h ∷ rest) are more =
      heard_direct found (if is_implied moments found h then all else all ++ h ∷ []) rest
      (cond_both (is_implied moments found h) all (all ++ h ∷ []) (All IsHeard) (λ _. are) (λ _. All-push IsHeard all h are (All-head IsHeard h rest more))) (All-tail IsHeard h rest more)

  heard_by : (at : ℕ) (m : MomentView) → slice_get moments at ≡ Some m → (all : List HeardView) → All IsHeard all → All IsHeard (with_heard moments at all m)
  heard_by at m here all are =
      heard_direct (grown moments at m) all (grown moments at m) are
      (heard_grown at m here (last_stamps [] m.clocked.host (take at moments)) [] m.stamps (All-contains_itself m.stamps) (All-nil IsHeard))

  heard_from : (at : ℕ) (all : List HeardView) (rest : List MomentView) → drop at moments ≡ rest → All IsHeard all → All IsHeard (with_all_heard moments at all rest)
  heard_from at all [] here are = are
  heard_from at all (m ∷ rest) here are =
      heard_from (at + 1) (if is_by_clock m then with_heard moments at all m else all) rest (rest_here moments at m rest here)
      (cond_both (is_by_clock m) (with_heard moments at all m) all (All IsHeard) (λ _. heard_by at m (at_here moments at m rest here) all are) (λ _. are))

  pub heard_all : All IsHeard (all_heard moments)
  unfolding all_heard
  heard_all = heard_from 0 [] moments refl (All-nil IsHeard)

  -- a message, from the event with an entry to one whose clock has this event
  message_of : (h : HeardView) → (its : IsHeard h) → (p : ℕ) → (from : IsEventOf h.stamp p) → IsMessage moments from.event its.to
  message_of h its p from =
      let own = from.own in
      let counted = its.counted in
      record {
        sends = there moments p from.event from.at;
        receives = there moments h.at its.to its.at;
        counted = omega (arith, own, counted);
        apart = λ same. its.apart (sym from.host ∙ same);
        known = record { entry = h.stamp; among = its.among; host = sym from.host; count = omega (arith, own) };
      }

  from_at : (at : ℕ) (h : HeardView) → IsHeard h → (source : Option ℕ) → h.source ≡ source → is_from at source ≡ true → IsEventOf h.stamp at
  from_at at h its None is from = absurd (false≢true from)
  from_at at h its (Some p) is from =
      place_found 0 h.stamp moments refl at (sym its.source ∙ is ∙ ap (λ k. Some k) (eqb-true p at from))

  pub send_end : (at : ℕ) (m : MomentView) → slice_get moments at ≡ Some m → (h : HeardView) → IsHeard h → is_from at h.source ≡ true → IsEndOf moments m (logged_at m.place (send_of m h))
  send_end at m here h its from =
      let event = from_at at h its h.source refl from in
      let same : event.event ≡ m = same_event moments at event.event m event.at here in
      let message : IsMessage moments m its.to = subst (λ e. IsMessage moments e its.to) same (message_of h its at event) in
      as_send its.to message (ap (λ peer. logged_at m.place (record { host = m.clocked.host; act = Send; peer = peer; name = m.clocked.event; id = Some m.clocked.clock })) its.host)

  -- a receive, by whether the log has its send
  receive_by : (m : MomentView) (h : HeardView) → (its : IsHeard h) → its.to ≡ m → (source : Option ℕ) → h.source ≡ source
      → IsEndOf moments m (logged_at m.place (record { host = m.clocked.host; act = Receive; peer = h.stamp.host; name = (sent_at moments m.clocked source).event; id = Some (sent_at moments m.clocked source).clock }))
  receive_by m h its same None is =
      let lacking = place_lacks 0 h.stamp moments (sym its.source ∙ is) in
      as_begun h.stamp (record {
        receives = subst (Contains moments) same (there moments h.at its.to its.at);
        among = subst (λ e. Contains e.stamps h.stamp) same its.among;
        counted = its.counted;
        apart = subst (λ e. h.stamp.host ≢ e.clocked.host) same its.apart;
        lacking = λ e has host own. false≢true (sym (All-contains (λ (x : MomentView). is_at h.stamp x ≡ false) moments e lacking has) ∙ its_own e host own);
      }) refl
    where
      its_own : (e : MomentView) → e.clocked.host ≡ h.stamp.host → e.own ≡ h.stamp.count → is_at h.stamp e ≡ true
      its_own e host own = rw ((bytes_decides e.clocked.host h.stamp.host).1 host, eq-eqb e.own h.stamp.count own) refl
  receive_by m h its same (Some p) is =
      let event = place_found 0 h.stamp moments refl p (sym its.source ∙ is) in
      let message : IsMessage moments event.event m = subst (λ e. IsMessage moments event.event e) same (message_of h its p event) in
      as_receive event.event message
      (ap (λ c. logged_at m.place (record { host = m.clocked.host; act = Receive; peer = h.stamp.host; name = c.event; id = Some c.clock })) (ap (clocked_at m.clocked) event.at)
      ∙ ap (λ peer. logged_at m.place (record { host = m.clocked.host; act = Receive; peer = peer; name = event.event.clocked.event; id = Some event.event.clocked.clock })) (sym event.host))

  pub receive_end : (at : ℕ) (m : MomentView) → slice_get moments at ≡ Some m → (h : HeardView) → IsHeard h → is_from at (Some h.at) ≡ true → IsEndOf moments m (logged_at m.place (receive_of moments m h))
  receive_end at m here h its from =
      let at_is : h.at ≡ at = eqb-true h.at at from in
      receive_by m h its (same_event moments at its.to m (ap (slice_get moments) (sym at_is) ∙ its.at) here) h.source refl

module _ (logged : List LoggedEventView) (moments : List MomentView) where
  abbrev AllHave : ReadView → Type 0
  AllHave r = All (HasReason logged moments) r.logged

  -- an end of a message has a reason
  reason_of : (e : MomentView) (x : LoggedEventView) → IsEndOf moments e x → HasReason logged moments x
  reason_of e x (as_send to its is) = of_send e to its is
  reason_of e x (as_receive from its is) = of_receive from e its is
  reason_of e x (as_begun s its is) = of_begun s e its is

  receives_reasons : (at : ℕ) (m : MomentView) → slice_get moments at ≡ Some m → (heard : List HeardView) → All (IsHeard moments) heard → All (λ h. is_from at (Some h.at) ≡ true) heard → (r : ReadView) → AllHave r
      → AllHave (with_receives moments m heard r)
  receives_reasons at m here [] its from r have = have
  receives_reasons at m here (h ∷ heard) its from r have =
      receives_reasons at m here heard (All-tail (IsHeard moments) h heard its) (All-tail (λ (x : HeardView). is_from at (Some x.at) ≡ true) h heard from) (with_line m.place (AnEvent (receive_of moments m h)) r)
      (All-push (HasReason logged moments) r.logged (logged_at m.place (receive_of moments m h)) have
      (reason_of m (logged_at m.place (receive_of moments m h)) (receive_end moments at m here h (All-head (IsHeard moments) h heard its) (All-head (λ (x : HeardView). is_from at (Some x.at) ≡ true) h heard from))))

  sends_reasons : (at : ℕ) (m : MomentView) → slice_get moments at ≡ Some m → (heard : List HeardView) → All (IsHeard moments) heard → All (λ h. is_from at h.source ≡ true) heard → (r : ReadView) → AllHave r
      → AllHave (with_sends m heard r)
  sends_reasons at m here [] its from r have = have
  sends_reasons at m here (h ∷ heard) its from r have =
      sends_reasons at m here heard (All-tail (IsHeard moments) h heard its) (All-tail (λ (x : HeardView). is_from at x.source ≡ true) h heard from) (with_line m.place (AnEvent (send_of m h)) r)
      (All-push (HasReason logged moments) r.logged (logged_at m.place (send_of m h)) have
      (reason_of m (logged_at m.place (send_of m h)) (send_end moments at m here h (All-head (IsHeard moments) h heard its) (All-head (λ (x : HeardView). is_from at x.source ≡ true) h heard from))))

  words_reasons : (at : ℕ) (m : MomentView) → slice_get moments at ≡ Some m → (r : ReadView) → AllHave r → AllHave (with_worded m r)
  words_reasons at m here r have =
      cond_both (is_some m.worded.others) (with_line m.place Other r) (record r { logged = r.logged ++ m.worded.logged }) (λ (x : ReadView). All (HasReason logged moments) x.logged) (λ _. have)
      (λ _. All-append (HasReason logged moments) r.logged m.worded.logged have
      (All-weaker (Contains m.worded.logged) (HasReason logged moments) (λ x has. of_words m (there moments at m here) has) m.worded.logged (All-contains_itself m.worded.logged)))

  moment_reasons : (at : ℕ) (m : MomentView) → slice_get moments at ≡ Some m → (all : List HeardView) → All (IsHeard moments) all → (r : ReadView) → AllHave r → AllHave (with_moment moments all at m r)
  moment_reasons at m here all its r have =
      let got = λ (h : HeardView). is_from at (Some h.at) in
      let sent = λ (h : HeardView). is_from at h.source in
      cond_both (is_by_clock m) (with_sends m (filter sent all) (with_receives moments m (filter got all) r)) (with_worded m r) (λ (x : ReadView). All (HasReason logged moments) x.logged)
      (λ _. sends_reasons at m here (filter sent all) (All-filter sent (IsHeard moments) all its) (filter_passes sent all) (with_receives moments m (filter got all) r)
      (receives_reasons at m here (filter got all) (All-filter got (IsHeard moments) all its) (filter_passes got all) r have))
      (λ _. words_reasons at m here r have)

  moments_reasons : (all : List HeardView) → All (IsHeard moments) all → (at : ℕ) (rest : List MomentView) → drop at moments ≡ rest → (r : ReadView) → AllHave r → AllHave (with_all_moments moments all at rest r)
  moments_reasons all its at [] here r have = have
  moments_reasons all its at (m ∷ rest) here r have =
      moments_reasons all its (at + 1) rest (rest_here moments at m rest here) (with_moment moments all at m r) (moment_reasons at m (at_here moments at m rest here) all its r have)

-- all that is read of a log has a reason
pub all_reasons : (log : ReadView) → HaveReasons log (by_clocks log)
unfolding by_clocks
all_reasons log = record {
  each =
      moments_reasons log.logged (moments_in log) (all_heard (moments_in log)) (heard_all (moments_in log)) 0 (moments_in log) refl (record { logged = log.logged; clocked = []; others = log.others })
      (All-weaker (Contains log.logged) (HasReason log.logged (moments_in log)) (λ x has. of_line has) log.logged (All-contains_itself log.logged));
}

-- what the program reads is what the definitions give
pub read_as : (log : ReadView) (moments : List MomentView) (all : List HeardView) (begun read : ReadView) → moments ≡ moments_in log → all ≡ all_heard moments
    → begun ≡ record { logged = log.logged; clocked = []; others = log.others } → read ≡ with_all_moments moments all 0 moments begun → read ≡ by_clocks log
unfolding by_clocks
read_as log moments all begun read moments_is all_is begun_is read_is =
    read_is ∙ ap (λ r. with_all_moments moments all 0 moments r) begun_is ∙ ap (λ a. with_all_moments moments a 0 moments (record { logged = log.logged; clocked = []; others = log.others })) all_is
    ∙ ap (λ ms. with_all_moments ms (all_heard ms) 0 ms (record { logged = log.logged; clocked = []; others = log.others })) moments_is
