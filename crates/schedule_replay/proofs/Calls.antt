-- Each call does the meaning of its command.
use Rattle.std.proofs.Common.{◌≡◌, ℕ, zero, suc, ◌+◌, ◌<◌, ◌≤◌, Bool, true, false, cond, List, [], ◌∷◌, length, drop, Option, Some, None, Result, Ok, Err, refl, sym, ap, ◌∙◌, subst, arith, append-nil}
use Rattle.std.specs.Prelude.{unwrap_or, nat_lt, nat_le, find}
use Rattle.std.specs.List.{list_all}
use Rattle.std.proofs.lemmas.Bool.{lt-ltb, le-ltb, le-leb, lt-leb, eq-eqb, ne_eqb}
use Rattle.chart.specs.declared.history.Occurrence.{Occurrence}
use Rattle.chart.specs.declared.history.Occurrence.TheVariants as events
use Rattle.chart.specs.declared.line.TheConstants.{MAX_EVENTS}
use Rattle.chart.specs.Events.{greatest_region}
use Rattle.chart.specs.Messages.{Content}
use Rattle.chart.specs.Histories.{waiting, is_closed, chart_of, MayFollow, IsLegal}
use Rattle.chart.proofs.Histories.{closed_own}
use Rattle.board.specs.declared.answer.Sent.{Sent}
use Rattle.board.specs.declared.answer.Arrival.{Arrival}
use Rattle.board.specs.declared.error.SendError.TheVariants as unsent
use Rattle.board.specs.declared.error.TakeError.TheVariants as untaken
use Rattle.board.specs.declared.error.CloseError.TheVariants as unclosed
use Rattle.board.specs.Views.{BoardView, PostView, line_of, Stays}
use Rattle.board.specs.Sending.{IsSent, IsUnsent}
use Rattle.board.specs.Taking.{IsGot, IsFoundEmpty, IsUntaken}
use Rattle.board.specs.Closing.{IsClosed, IsUnclosed}
use Rattle.chart.specs.Scans.{scan}
use Rattle.mailbox.specs.TakingAny.{lanes_of, NoneWaits, IsFirst, AreFoundEmpty}
use Rattle.schedule.specs.declared.command.Word.{Word}
use Rattle.schedule.specs.declared.command.Word.TheVariants as words
use Rattle.schedule.specs.Meaning.{Run, changed, happens, has_waiting, takes, sends, receives, receives_any, first_waiting, are_closed, closes, opens, shuts}
use Rattle.schedule_replay.specs.Agreement.{GoesOn, IsAsFar, IsMet, HasGone, HasCalled}
use Rattle.schedule_replay.proofs.Scanning.{scan_any, find_past, all_closed}
use Rattle.schedule_replay.proofs.Answers.{met_none, seen_none, before_one, met_one}

-- a message of this name with an empty body
abbrev pub message : List ℕ → Content
message name = record { name = name; body = [] }

-- the run in which p has received from q
abbrev pub taken_run : Run → ℕ → ℕ → Run
taken_run r p q = record { history = events.Receive p q (r.region p) ∷ r.history; last = changed r.last p q; region = r.region }

-- a post of which only the coregion may have changed
pub onward : (old new : PostView) (to : ℕ) → new ≡ record old { region = to } → GoesOn old new
onward old new to same = record {
  same = record { board = ap (λ (x : PostView). x.board) same; number = ap (λ (x : PostView). x.number) same };
  later = ([], ap (λ (x : PostView). x.seen) same);
}

-- a success is not a refusal
pub not_ok : {T E : Type 0} {x : T} {e : E} → Ok x ≡ Err e → ⊥
not_ok same = cc

-- a number is 0 or not
not_some : (n : ℕ) → (0 < n → ⊥) → n ≡ 0
not_some zero none = refl
not_some (suc n) none = absurd (none (omega arith))

not_none : (n : ℕ) → (n ≡ 0 → ⊥) → 0 < n
not_none zero some = absurd (some refl)
not_none (suc n) some = omega arith

module _ (r : Run) (from : Option ℕ) (old new : PostView) (far : IsAsFar r from old) (on : GoesOn old new)
    (met : List Occurrence) (its : IsMet r.history new met) where
  -- the run with the met history, if coregion and last instance are as they were
  pub gone : new.region ≡ old.region → (g : List Occurrence) → g ≡ met → HasGone r (record { history = g; last = r.last; region = r.region }) old.number met from new
  gone region g same = record {
    history = same;
    region = region ∙ far.region;
    last = far.last;
    known = subst (λ b. unwrap_or from 0 ≤ b.size) (sym on.same.board) far.known;
    other_regions = λ q ne. refl;
    other_lasts = λ q ne. refl;
  }

  -- a call that made no event leaves the word of its note
  pub refused : Stays old new → (word : Word) (acted : Result Run Word) → acted ≡ Err word → HasCalled r old.number met from new (Ok (Some word)) acted
  refused stays word acted same = subst (λ a. HasCalled r old.number met from new (Ok (Some word)) a) (sym same) (refl, gone stays.region r.history (sym (met_none r from old new far on met its stays.made)))

  -- the event may follow the run
  pub may_follow : (e : Occurrence) → met ≡ e ∷ r.history → MayFollow old.board.size old.board.capacity r.history e
  may_follow e same = (subst (λ g. IsLegal old.board.size old.board.capacity g) same (subst (λ b. IsLegal b.size b.capacity met) on.same.board its.joint.legal)).0

  -- a lane that the post closed is closed in the run
  pub closed_in : (q : ℕ) (b : Bool) → is_closed old.made old.number q ≡ b → is_closed r.history old.number q ≡ b
  closed_in q b is = sym (closed_own r.history old.number q) ∙ ap (λ g. is_closed g old.number q) (sym far.made) ∙ is

  -- a call that changed nothing
  pub stays_same : new ≡ old → Stays old new
  stays_same same = record { made = ap (λ (x : PostView). x.made) same; region = ap (λ (x : PostView). x.region) same; room = ap (λ (x : PostView). x.room) same }

  -- the post's line is that of the run, if it made no event
  pub line_in : Stays old new → line_of new ≡ chart_of r.history old.number
  line_in stays = ap (λ g. chart_of g new.number) (seen_none r from old new far on met its stays.made) ∙ ap (chart_of r.history) on.same.number

  pub waiting_in : Stays old new → (q : ℕ) → waiting new.seen q new.number ≡ waiting r.history q old.number
  waiting_in stays q = ap (λ g. waiting g q new.number) (seen_none r from old new far on met its stays.made) ∙ ap (waiting r.history q) on.same.number

  pub waiting_from : Stays old new → (q : ℕ) → waiting new.seen new.number q ≡ waiting r.history old.number q
  waiting_from stays q = ap (λ g. waiting g new.number q) (seen_none r from old new far on met its stays.made) ∙ ap (λ x. waiting r.history x q) on.same.number

  pub closed_seen : Stays old new → (q : ℕ) → is_closed new.seen q new.number ≡ is_closed r.history q old.number
  closed_seen stays q = ap (λ g. is_closed g q new.number) (seen_none r from old new far on met its stays.made) ∙ ap (is_closed r.history q) on.same.number

  -- A send, by its four tests.
  sends_by : (q : ℕ) (name : List ℕ) (a b c d : Bool) → nat_lt 0 (r.region old.number) ≡ a → is_closed r.history old.number q ≡ b → nat_le MAX_EVENTS (length (chart_of r.history old.number)) ≡ c → nat_le old.board.capacity (length (waiting r.history old.number q)) ≡ d
      → sends old.board.capacity r old.number q name ≡ cond a (Err words.InCoregion) (cond b (Err words.Closed) (cond c (Err words.LineFull) (cond d (Err words.Full) (Ok (happens r (events.Send old.number q (message name)))))))
  sends_by q name a b c d ea eb ec ed = rw (ea, eb, ec, ed) refl

  outside : old.region ≡ 0 → nat_lt 0 (r.region old.number) ≡ false
  outside none = le-ltb 0 (r.region old.number) (omega (arith, none, far.region))

  inside : 0 < old.region → nat_lt 0 (r.region old.number) ≡ true
  inside some = lt-ltb 0 (r.region old.number) (omega (arith, some, far.region))

  pub send_sent : (q : ℕ) (name : List ℕ) (m : Content) (sent : Sent) → m ≡ message name → IsSent old q m sent new → HasCalled r old.number met from new (Ok None) (sends old.board.capacity r old.number q name)
  send_sent q name m sent same it =
      let e = events.Send new.number q m in
      let is : e ≡ events.Send old.number q (message name) = ap (λ x. events.Send x q m) on.same.number ∙ ap (events.Send old.number q) same in
      let one = met_one r from old new far on met its it.makes.0 e refl it.makes.1 ∙ ap (λ x. x ∷ r.history) is in
      let may = may_follow (events.Send old.number q (message name)) one in
      let acted = sends_by q name false false false false (outside it.allowed.outside) may.1 (lt-leb MAX_EVENTS (length (chart_of r.history old.number)) may.3) (lt-leb old.board.capacity (length (waiting r.history old.number q)) may.2) in
      subst (λ a. HasCalled r old.number met from new (Ok None) a) (sym acted) (gone it.makes.1.region (events.Send old.number q (message name) ∷ r.history) (sym one))

  pub send_in_coregion : (q : ℕ) (name : List ℕ) → Stays old new → IsUnsent old q 1 unsent.InCoregion new → HasCalled r old.number met from new (Ok (Some words.InCoregion)) (sends old.board.capacity r old.number q name)
  send_in_coregion q name stays it = refused stays words.InCoregion (sends old.board.capacity r old.number q name) (rw (inside it.1) refl)

  pub send_closed : (q : ℕ) (name : List ℕ) → Stays old new → IsUnsent old q 1 unsent.Closed new → HasCalled r old.number met from new (Ok (Some words.Closed)) (sends old.board.capacity r old.number q name)
  send_closed q name stays it = refused stays words.Closed (sends old.board.capacity r old.number q name) (rw (outside it.1, closed_in q true it.2) refl)

  pub send_line_full : (q : ℕ) (name : List ℕ) → Stays old new → IsUnsent old q 1 unsent.LineFull new → HasCalled r old.number met from new (Ok (Some words.LineFull)) (sends old.board.capacity r old.number q name)
  send_line_full q name stays it =
      let full = le-leb MAX_EVENTS (length (chart_of r.history old.number)) (omega (arith, it.2, ap length (line_in stays))) in
      refused stays words.LineFull (sends old.board.capacity r old.number q name) (rw (outside it.0.outside, closed_in q false it.0.opened, full) refl)

  pub send_full : (q : ℕ) (name : List ℕ) → Stays old new → IsUnsent old q 1 unsent.Full new → HasCalled r old.number met from new (Ok (Some words.Full)) (sends old.board.capacity r old.number q name)
  send_full q name stays it =
      let room = lt-leb MAX_EVENTS (length (chart_of r.history old.number)) (omega (arith, it.2, ap length (line_in stays))) in
      let size = ap (λ (b : BoardView). b.capacity) on.same.board in
      let full = le-leb old.board.capacity (length (waiting r.history old.number q)) (omega (arith, it.3.waits, size, ap length (waiting_from stays q))) in
      refused stays words.Full (sends old.board.capacity r old.number q name) (rw (outside it.0.outside, closed_in q false it.0.opened, room, full) refl)

  -- A receive.
  pub takes_got : (q : ℕ) (arrival : Arrival) → IsGot old q arrival new → (has_waiting r.history q old.number ≡ true) × (takes r old.number q ≡ Ok (taken_run r old.number q)) × HasGone r (taken_run r old.number q) old.number met (Some q) new
  takes_got q arrival it =
      let e = events.Receive new.number q old.region in
      let is : e ≡ events.Receive old.number q (r.region old.number) = ap (λ x. events.Receive x q old.region) on.same.number ∙ ap (events.Receive old.number q) far.region in
      let one = met_one r from old new far on met its it.makes.0 e refl it.makes.2 ∙ ap (λ x. x ∷ r.history) is in
      let may = may_follow (events.Receive old.number q (r.region old.number)) one in (
        lt-ltb 0 (length (waiting r.history q old.number)) may.1,
        rw (lt-leb MAX_EVENTS (length (chart_of r.history old.number)) may.2) refl,
        record {
          history = sym one;
          region = it.makes.2.region ∙ far.region;
          last = ap (λ b. cond b q (r.last old.number)) (sym (eq-eqb old.number old.number refl));
          known = omega (arith, it.two.3, ap (λ (b : BoardView). b.size) on.same.board);
          other_regions = λ x ne. refl;
          other_lasts = λ x ne. ap (λ b. cond b q (r.last x)) (ne_eqb x old.number ne);
        },
      )

  pub receive_got : (q : ℕ) (arrival : Arrival) → IsGot old q arrival new → HasCalled r old.number met (Some q) new (Ok None) (receives r old.number q)
  receive_got q arrival it =
      let its = takes_got q arrival it in
      subst (λ a. HasCalled r old.number met (Some q) new (Ok None) a) (sym (ap (λ b. cond b (takes r old.number q) (cond (is_closed r.history q old.number) (Err words.Ended) (Err words.Nothing))) its.0 ∙ its.1)) its.2

  -- a receive on an empty lane
  pub receive_none : (q : ℕ) (its_end : Bool) → Stays old new → IsFoundEmpty old q its_end new → receives r old.number q ≡ cond its_end (Err words.Ended) (Err words.Nothing)
  receive_none q its_end stays it =
      let none : has_waiting r.history q old.number ≡ false = ap (λ (ms : List Content). nat_lt 0 (length ms)) (sym (waiting_in stays q) ∙ it.waits) in
      let closed : is_closed r.history q old.number ≡ its_end = sym (closed_seen stays q) ∙ it.closed in
      rw (none, closed) refl

  pub receive_nothing : (q : ℕ) → Stays old new → IsFoundEmpty old q false new → HasCalled r old.number met from new (Ok (Some words.Nothing)) (receives r old.number q)
  receive_nothing q stays it = refused stays words.Nothing (receives r old.number q) (receive_none q false stays it)

  pub receive_ended : (q : ℕ) → Stays old new → IsFoundEmpty old q true new → HasCalled r old.number met from new (Ok (Some words.Ended)) (receives r old.number q)
  receive_ended q stays it = refused stays words.Ended (receives r old.number q) (receive_none q true stays it)

  -- a message waits, and the line is full
  pub takes_line_full : (q : ℕ) → Stays old new → IsUntaken old q untaken.LineFull new → (has_waiting r.history q old.number ≡ true) × (takes r old.number q ≡ Err words.LineFull)
  takes_line_full q stays it = (
    lt-ltb 0 (length (waiting r.history q old.number)) (omega (arith, it.0.waits, ap length (waiting_in stays q))),
    rw (le-leb MAX_EVENTS (length (chart_of r.history old.number)) (omega (arith, it.1, ap length (line_in stays)))) refl,
  )

  pub receive_line_full : (q : ℕ) → Stays old new → IsUntaken old q untaken.LineFull new → HasCalled r old.number met from new (Ok (Some words.LineFull)) (receives r old.number q)
  receive_line_full q stays it =
      let its = takes_line_full q stays it in
      refused stays words.LineFull (receives r old.number q) (rw its.0 its.1)

  -- A close.
  pub close_done : (q : ℕ) → IsClosed old q new → HasCalled r old.number met from new (Ok None) (closes r old.number q)
  close_done q it =
      let e = events.Close new.number q in
      let one = met_one r from old new far on met its it.makes.0 e refl it.makes.1 ∙ ap (λ x. events.Close x q ∷ r.history) on.same.number in
      let acted : closes r old.number q ≡ Ok (happens r (events.Close old.number q)) = rw (closed_in q false it.opened) refl in
      subst (λ a. HasCalled r old.number met from new (Ok None) a) (sym acted) (gone it.makes.1.region (events.Close old.number q ∷ r.history) (sym one))

  pub close_closed : (q : ℕ) → new ≡ old → IsUnclosed old q unclosed.Closed → HasCalled r old.number met from new (Ok (Some words.Closed)) (closes r old.number q)
  close_closed q same it = refused (stays_same same) words.Closed (closes r old.number q) (rw (closed_in q true it.1) refl)

  -- A coregion that opens, and one that is closed.
  region_changed : (to : ℕ) → new ≡ record old { region = to } → HasGone r (record { history = r.history; last = r.last; region = changed r.region old.number to }) old.number met from new
  region_changed to same = record {
    history = sym (met_none r from old new far on met its (ap (λ (x : PostView). x.made) same));
    region = ap (λ (x : PostView). x.region) same ∙ ap (λ b. cond b to (r.region old.number)) (sym (eq-eqb old.number old.number refl));
    last = far.last;
    known = subst (λ b. unwrap_or from 0 ≤ b.size) (sym on.same.board) far.known;
    other_regions = λ x ne. ap (λ b. cond b to (r.region x)) (ne_eqb x old.number ne);
    other_lasts = λ x ne. refl;
  }

  pub open_done : (0 < old.region → ⊥) → new ≡ record old { region = greatest_region (line_of old) + 1 } → HasCalled r old.number met from new (Ok None) (opens r old.number)
  open_done none same =
      let line : line_of old ≡ chart_of r.history old.number = ap (λ g. chart_of g old.number) far.seen in
      let is = same ∙ ap (λ l. record old { region = greatest_region l + 1 }) line in
      let zero_region : old.region ≡ 0 = not_some old.region none in
      let acted : opens r old.number ≡ Ok (record { history = r.history; last = r.last; region = changed r.region old.number (greatest_region (chart_of r.history old.number) + 1) }) = rw (outside zero_region) refl in
      subst (λ a. HasCalled r old.number met from new (Ok None) a) (sym acted) (region_changed (greatest_region (chart_of r.history old.number) + 1) is)

  pub open_refused : 0 < old.region → new ≡ old → HasCalled r old.number met from new (Ok (Some words.Open)) (opens r old.number)
  open_refused some same = refused (stays_same same) words.Open (opens r old.number) (rw (inside some) refl)

  pub shut_done : (old.region ≡ 0 → ⊥) → new ≡ record old { region = 0 } → HasCalled r old.number met from new (Ok None) (shuts r old.number)
  shut_done some same =
      let acted : shuts r old.number ≡ Ok (record { history = r.history; last = r.last; region = changed r.region old.number 0 }) = rw (inside (not_none old.region some)) refl in
      subst (λ a. HasCalled r old.number met from new (Ok None) a) (sym acted) (region_changed 0 same)

  pub shut_refused : old.region ≡ 0 → new ≡ old → HasCalled r old.number met from new (Ok (Some words.NotOpen)) (shuts r old.number)
  shut_refused none same = refused (stays_same same) words.NotOpen (shuts r old.number) (rw (outside none) refl)

  -- A receive from whichever instance has a message.
  first_is : (last q : ℕ) (found : List Occurrence) → last ≡ r.last old.number → found ≡ r.history → IsFirst old (scan old.board.size old.number last) q found → has_waiting r.history q old.number ≡ true → first_waiting old.board.size r old.number ≡ Some q
  first_is last q found same front it waits =
      let none = subst (λ g. NoneWaits old.number r.history it.0 g) front (subst (λ g. NoneWaits old.number g it.0 found) far.seen it.3) in
      ap (λ l. find (λ x. has_waiting r.history x old.number) (scan old.board.size old.number l)) (sym same)
      ∙ ap (find (λ x. has_waiting r.history x old.number)) it.2
      ∙ find_past old.number r.history it.0 (q ∷ it.1) none
      ∙ ap (λ b. cond b (Some q) (find (λ x. has_waiting r.history x old.number) it.1)) waits

  pub any_got : (arrival : Arrival) → IsGot old arrival.from arrival new → IsFirst old (scan old.board.size old.number (unwrap_or from 0)) arrival.from (drop 1 new.seen)
      → HasCalled r old.number met (Some arrival.from) new (Ok None) (receives_any old.board.size r old.number (first_waiting old.board.size r old.number))
  any_got arrival it first =
      let got = takes_got arrival.from arrival it in
      let before : drop 1 new.seen ≡ r.history = ap (drop 1) it.makes.2.seen ∙ before_one r from old new far on met its it.makes.0 (events.Receive new.number arrival.from old.region) refl it.makes.2 in
      let found = first_is (unwrap_or from 0) arrival.from (drop 1 new.seen) far.last before first got.0 in
      let acted = ap (receives_any old.board.size r old.number) found ∙ got.1 in
      subst (λ a. HasCalled r old.number met (Some arrival.from) new (Ok None) a) (sym acted) got.2

  pub any_line_full : (q : ℕ) → Stays old new → IsUntaken old q untaken.LineFull new → IsFirst old (scan old.board.size old.number (unwrap_or from 0)) q new.seen
      → HasCalled r old.number met from new (Ok (Some words.LineFull)) (receives_any old.board.size r old.number (first_waiting old.board.size r old.number))
  any_line_full q stays it first =
      let full = takes_line_full q stays it in
      let found = first_is (unwrap_or from 0) q new.seen far.last (seen_none r from old new far on met its stays.made) first full.0 in
      refused stays words.LineFull _ (ap (receives_any old.board.size r old.number) found ∙ full.1)

  any_none : (its_end : Bool) → Stays old new → AreFoundEmpty old (scan old.board.size old.number (unwrap_or from 0)) its_end new
      → receives_any old.board.size r old.number (first_waiting old.board.size r old.number) ≡ cond its_end (Err words.Ended) (Err words.Nothing)
  any_none its_end stays it =
      let seen = seen_none r from old new far on met its stays.made in
      let looks = it.found.0 in
      let none = subst (λ g. NoneWaits old.number r.history looks g) seen (subst (λ g. NoneWaits old.number g looks new.seen) far.seen it.found.2) in
      let nobody : first_waiting old.board.size r old.number ≡ None =
      ap (λ l. find (λ x. has_waiting r.history x old.number) (scan old.board.size old.number l)) (sym far.last)
      ∙ ap (find (λ x. has_waiting r.history x old.number)) (it.found.1 ∙ sym (append-nil (lanes_of looks)))
      ∙ find_past old.number r.history looks [] none in
      let closed : are_closed old.board.size r old.number ≡ its_end =
      scan_any (λ q. is_closed r.history q old.number) old.board.size old.number 0 (unwrap_or from 0) (omega arith) far.known
      ∙ ap (list_all (λ q. is_closed r.history q old.number)) it.found.1
      ∙ all_closed old.number r.history its_end looks new seen on.same.number none it.found.3 in
      ap (receives_any old.board.size r old.number) nobody ∙ ap (λ b. cond b (Err words.Ended) (Err words.Nothing)) closed

  pub any_nothing : Stays old new → AreFoundEmpty old (scan old.board.size old.number (unwrap_or from 0)) false new
      → HasCalled r old.number met from new (Ok (Some words.Nothing)) (receives_any old.board.size r old.number (first_waiting old.board.size r old.number))
  any_nothing stays it = refused stays words.Nothing _ (any_none false stays it)

  pub any_ended : Stays old new → AreFoundEmpty old (scan old.board.size old.number (unwrap_or from 0)) true new
      → HasCalled r old.number met from new (Ok (Some words.Ended)) (receives_any old.board.size r old.number (first_waiting old.board.size r old.number))
  any_ended stays it = refused stays words.Ended _ (any_none true stays it)
