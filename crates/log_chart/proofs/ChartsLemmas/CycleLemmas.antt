-- A settled log's chart has no cycle, since no line of the log comes before itself.
use Rattle.std.proofs.Common.{◌≡◌, ℕ, ◌<◌, ◌≤◌, ◌⊎◌, inl, inr, ◌==◌, ◌&&◌, not, Bool, true, false, cond, List, Option, None, Some, map, refl, sym, ap, ◌∙◌, subst, arith}
use Rattle.std.specs.Prelude.{Contains}
use Rattle.std.proofs.lemmas.Bool.{cases_eq, and_parts, false≢true}
use Rattle.std.proofs.lemmas.Option.{same_Some}
use Rattle.chart.specs.Charts.{Place, BelongsTo}
use Rattle.chart.specs.Events.{is_send_to, is_receive_from, ith, tally}
use Rattle.chart.specs.Order.{IsEarlier, Direct, Before, IsCyclic}
use Rattle.chart.specs.Order.Direct.{message as by_message, to_send, same_sender}
use Rattle.chart.specs.Order.Before.{direct as before_direct, through as before_through}
use Rattle.chart.proofs.Tally.{ith_within, ith_at}
use Rattle.log_chart.specs.Begun.{begun}
use Rattle.log_chart.specs.Entries.{is_send}
use Rattle.log_chart.specs.HostLines.{kept}
use Rattle.log_chart.specs.Items.{received_message}
use Rattle.log_chart.specs.Laws.{AreOfLanes, line_of}
use Rattle.log_chart.specs.declared.entry.Entry.{Entry}
use Rattle.log_chart.specs.declared.item.Item.{Item}
use Rattle.log_chart.specs.declared.item.MessageNo.TheVariants.{Sent, Begun as BegunMessage}
use Rattle.log_chart.specs.declared.matching.LogLine.{LogLine}
use Rattle.log_chart.proofs.OrderLemmas.{kept_rises}
use Rattle.log_chart.specs.Cycles.Freeing.{HasNone}
use Rattle.log_chart.specs.Cycles.Order.{Comes}
use Rattle.log_chart.specs.Cycles.Order.Follows.{host, message}
use Rattle.log_chart.specs.Cycles.Order.Comes.{direct, through}
use Rattle.log_chart.proofs.CyclesLemmas.SettleLemmas.{kept_takes}
use Rattle.log_chart.specs.Charts.ChartLines.{event_of}
use Rattle.log_chart.proofs.ChartsLemmas.LineLemmas.{chart_of_log, line_is, host_of_event, item_of_event}
use Rattle.log_chart.proofs.ChartsLemmas.OriginLemmas.{IsBehind, behind_is}
use Rattle.log_chart.specs.NameOrder.{by_name}
use Rattle.log_chart.proofs.NameOrderLemmas.{are_up_to}
use Rattle.log_chart.proofs.ChartsLemmas.OwnLineLemmas.{own_lines_rise}
use Rattle.log_chart.proofs.ChartsLemmas.PlacedLemmas.{Placed, placed, items_placed, IsOf, placed_are, IsUp, placed_up}
use Rattle.log_chart.proofs.ChartsLemmas.PlacedLemmas.IsOf.{head, own, after}
use Rattle.log_chart.proofs.ChartsLemmas.RoundLemmas.{no_cycle}
use Rattle.log_chart.proofs.ChartsLemmas.TurnLemmas.{ith_of, event_sends, event_receives, received_is}

-- messages, by the lines that name them
sent_same : (a b : ℕ) → Sent a ≡ Sent b → a ≡ b
sent_same a b e = cc e

begun_same : (a b : ℕ) → BegunMessage a ≡ BegunMessage b → a ≡ b
begun_same a b e = cc e

sent_begun : (a b : ℕ) → Sent a ≡ BegunMessage b → ⊥
sent_begun a b e = absurd (cc e)

module _ (lines : List LogLine) where
  -- how an event relates to another one that is before it, by the lines of the log to which they belong: the one line
  -- comes before the other, or it is the same line and the events are in this order
  abbrev IsSooner : Option ℕ → Option ℕ → Place → Place → Type 0
  IsSooner None None e f = (e.instance ≡ f.instance) × (e.index < f.index)
  IsSooner None (Some b) e f = Unit {0}
  IsSooner (Some a) None e f = ⊥
  IsSooner (Some a) (Some b) e f = Comes lines a b ⊎ ((a ≡ b) × (e.instance ≡ f.instance) × (e.index < f.index))

  sooner-trans : (a b d : Option ℕ) (e g f : Place) → IsSooner a b e g → IsSooner b d g f → IsSooner a d e f
  sooner-trans None None None e g f one two = (one.0 ∙ two.0, omega (arith, one.1, two.1))
  sooner-trans None None (Some d) e g f one two = tt
  sooner-trans None (Some b) None e g f one two = absurd two
  sooner-trans None (Some b) (Some d) e g f one two = tt
  sooner-trans (Some a) None d e g f one two = absurd one
  sooner-trans (Some a) (Some b) None e g f one two = absurd two
  sooner-trans (Some a) (Some b) (Some d) e g f (inl one) (inl two) = inl (through one two)
  sooner-trans (Some a) (Some b) (Some d) e g f (inl one) (inr two) = inl (subst (Comes lines a) two.0 one)
  sooner-trans (Some a) (Some b) (Some d) e g f (inr one) (inl two) = inl (subst (λ x. Comes lines x d) (sym one.0) two)
  sooner-trans (Some a) (Some b) (Some d) e g f (inr one) (inr two) = inr (one.0 ∙ two.0, one.1 ∙ two.1, omega (arith, one.2, two.2))

  never_sooner : HasNone lines → (a : Option ℕ) (e : Place) → IsSooner a a e e → ⊥
  never_sooner none None e its = omega (arith, its.1)
  never_sooner none (Some a) e (inl way) = no_cycle lines none a way
  never_sooner none (Some a) e (inr its) = omega (arith, its.2)

module _ (n : ℕ) (from to : ℕ → ℕ) (log : List Entry) (lanes : AreOfLanes from to log) where
  abbrev Lines : List LogLine
  Lines = kept log

  abbrev Host : ℕ → List Placed
  Host q = placed (by_name n log) (kept log) (begun (kept log)) q

  abbrev stands_of : Option Placed → Option ℕ
  stands_of None = None
  stands_of (Some w) = w.stands

  -- to which line an event belongs
  abbrev stands_at : Place → Option ℕ
  stands_at e = stands_of (ith (Host e.instance) e.index)

  sooner_at : (e f : Place) (w v : Placed) → ith (Host e.instance) e.index ≡ Some w → ith (Host f.instance) f.index ≡ Some v → IsSooner Lines w.stands v.stands e f → IsSooner Lines (stands_at e) (stands_at f) e f
  sooner_at e f w v w_is v_is its =
      subst (λ a. IsSooner Lines a (stands_at f) e f) (sym (ap stands_of w_is)) (subst (λ b. IsSooner Lines w.stands b e f) (sym (ap stands_of v_is)) its)

  -- the event of a host that belongs there
  placed_at : (e : Place) (x : Item) → ith (line_of n log e.instance) e.index ≡ Some x → (w : Placed) × (ith (Host e.instance) e.index ≡ Some w) × (w.item ≡ x)
  placed_at e x is =
      ith_of (λ (w : Placed). w.item) (Host e.instance) e.index x (subst (λ l. ith l e.index ≡ Some x) (sym (items_placed (by_name n log) (kept log) (begun (kept log)) e.instance)) is)

  -- the line to which it belongs
  host_line : (q a : ℕ) (w : Placed) → IsOf n Lines (begun Lines) q w → w.stands ≡ Some a → (x : LogLine) × Contains Lines x × (x.entry.host ≡ q) × (x.number ≡ a)
  host_line q a w (head p r low high there item none) is = absurd (let none_is = sym none ∙ is in cc none_is)
  host_line q a w (own x x_in x_host item stands) is = (x, x_in, x_host, same_Some x.number a (sym stands ∙ is))
  host_line q a w (after x r x_in x_host there item stands) is = (x, x_in, x_host, same_Some x.number a (sym stands ∙ is))

  -- an earlier event of a line
  along : (e f : Place) (x : Item) → IsEarlier e f → ith (line_of n log f.instance) f.index ≡ Some x → IsSooner Lines (stands_at e) (stands_at f) e f
  along e f x earlier x_is = sooner_at e f w v w_at v_is (by_place w.stands v.stands refl refl (placed_up (by_name n log) (kept log) (begun (kept log)) f.instance e.index f.index w v (kept_rises log) w_is v_is earlier.less))
    where
      v : Placed
      v = (placed_at f x x_is).0

      v_is : ith (Host f.instance) f.index ≡ Some (placed_at f x x_is).0
      v_is = (placed_at f x x_is).1

      there : (w : Placed) × (ith (Host f.instance) e.index ≡ Some w)
      there =
          let within = ith_within (Host f.instance) f.index (placed_at f x x_is).0 v_is in
          ith_at (Host f.instance) e.index earlier.begun (omega (arith, within.1, earlier.less))

      w : Placed
      w = there.0

      w_is : ith (Host f.instance) e.index ≡ Some there.0
      w_is = there.1

      w_at : ith (Host e.instance) e.index ≡ Some there.0
      w_at = subst (λ q. ith (Host q) e.index ≡ Some there.0) (sym earlier.line) w_is

      by_place : (a b : Option ℕ) → there.0.stands ≡ a → (placed_at f x x_is).0.stands ≡ b → IsUp a b → IsSooner Lines a b e f
      by_place None None a_is b_is up = (earlier.line, earlier.less)
      by_place None (Some b) a_is b_is up = tt
      by_place (Some a) None a_is b_is up = absurd up
      by_place (Some a) (Some b) a_is b_is up =
          elim (cases_eq a b) [
            | inl same ↦ inr (same, earlier.line, earlier.less)
            | inr differs ↦
                let y = host_line f.instance a there.0 (placed_are n (by_name n log) (are_up_to n log) Lines (begun Lines) f.instance e.index there.0 w_is) a_is in
                let z = host_line f.instance b (placed_at f x x_is).0 (placed_are n (by_name n log) (are_up_to n log) Lines (begun Lines) f.instance f.index (placed_at f x x_is).0 v_is) b_is in
                let less : a < b = grind (arith, up, differs) in
                inl (direct (host y.0 z.0 y.1 z.1 y.3 z.3 (y.2 ∙ sym z.2) less))
          ]

  -- a send that belongs to a line of the log, by its message
  sends_at : (q : ℕ) (w : Placed) (v : LogLine) → Contains Lines v → IsOf n Lines (begun Lines) q w → w.item.sends ≡ true → w.item.message ≡ received_message v.number v.send → (e f : Place)
      → IsSooner Lines w.stands (Some v.number) e f
  sends_at q w v v_in (head p r low high there item none) sends same e f = subst (λ a. IsSooner Lines a (Some v.number) e f) (sym none) tt
  sends_at q w v v_in (own x x_in x_host item stands) sends same e f = subst (λ a. IsSooner Lines a (Some v.number) e f) (sym stands) (inl (go v.send refl named))
    where
      its : is_send x.entry.kind ≡ true
      its = ap (λ (i : Item). i.sends) (sym item) ∙ sends

      named : Sent x.number ≡ received_message v.number v.send
      named = sym (ap (λ b. cond b (Sent x.number) (received_message x.number x.send)) its) ∙ ap (λ (i : Item). i.message) (sym item) ∙ same

      go : (send : Option ℕ) → v.send ≡ send → Sent x.number ≡ received_message v.number send → Comes Lines x.number v.number
      go None e name = absurd (sent_begun x.number v.number name)
      go (Some s) e name = direct (message v v_in refl (e ∙ ap (λ k. Some k) (sym (sent_same x.number s name))))
  sends_at q w v v_in (after x r x_in x_host there item stands) sends same e f = subst (λ a. IsSooner Lines a (Some v.number) e f) (sym stands) (inl (go v.send refl (ap (λ (i : Item). i.message) (sym item) ∙ same)))
    where
      it : IsBehind Lines x.number r
      it = behind_is Lines (λ y s y_in is. kept_takes log y s y_in is) (kept_rises log) x.number r there

      go : (send : Option ℕ) → v.send ≡ send → BegunMessage r ≡ received_message v.number send → Comes Lines x.number v.number
      go None e name =
          through (direct (message it.last it.last_among refl it.takes))
          (direct (host it.last it.own it.last_among it.own_among refl (it.own_number ∙ begun_same r v.number name) it.host (let less = it.before in let number = it.own_number ∙ begun_same r v.number name in omega (arith, less, number))))
      go (Some s) e name = absurd (sent_begun s r (sym name))

  -- a send and its receive
  across : (e f : Place) (x y : Item) → ith (line_of n log e.instance) e.index ≡ Some x → ith (line_of n log f.instance) f.index ≡ Some y → x.sends ≡ true → y.sends ≡ false → x.message ≡ y.message
      → IsSooner Lines (stands_at e) (stands_at f) e f
  across e f x y x_is y_is sends receives same =
      let w = placed_at e x x_is in
      let v = placed_at f y y_is in
      sooner_at e f w.0 v.0 w.1 v.1
      (go w.0 v.0 (placed_are n (by_name n log) (are_up_to n log) Lines (begun Lines) e.instance e.index w.0 w.1) (placed_are n (by_name n log) (are_up_to n log) Lines (begun Lines) f.instance f.index v.0 v.1) (ap (λ (i : Item). i.sends) w.2 ∙ sends) (ap (λ (i : Item). i.sends) v.2 ∙ receives)
      (ap (λ (i : Item). i.message) w.2 ∙ same ∙ ap (λ (i : Item). i.message) (sym v.2)))
    where
      go : (w v : Placed) → IsOf n Lines (begun Lines) e.instance w → IsOf n Lines (begun Lines) f.instance v → w.item.sends ≡ true → v.item.sends ≡ false → w.item.message ≡ v.item.message → IsSooner Lines w.stands v.stands e f
      go w v w_of (head p r low high there item none) w_sends v_receives one = absurd (false≢true (sym v_receives ∙ ap (λ (i : Item). i.sends) item))
      go w v w_of (after z r z_in z_host there item stands) w_sends v_receives one = absurd (false≢true (sym v_receives ∙ ap (λ (i : Item). i.sends) item))
      go w v w_of (own z z_in z_host item stands) w_sends v_receives one =
          let its : is_send z.entry.kind ≡ false = ap (λ (i : Item). i.sends) (sym item) ∙ v_receives in
          let name : v.item.message ≡ received_message z.number z.send = ap (λ (i : Item). i.message) item ∙ ap (λ b. cond b (Sent z.number) (received_message z.number z.send)) its in
          subst (λ b. IsSooner Lines w.stands b e f) (sym stands) (sends_at e.instance w z z_in w_of w_sends (one ∙ name) e f)

  -- a message of the chart, by the events of its hosts
  pub record IsMessage (s r : Place) : Type 0 where
    pub send : Item
    pub receive : Item
    pub send_is : ith (line_of n log s.instance) s.index ≡ Some send
    pub receive_is : ith (line_of n log r.instance) r.index ≡ Some receive
    pub sends : send.sends ≡ true
    pub receives : receive.sends ≡ false
    pub message : send.message ≡ receive.message

  pub message_is : (s r : Place) → BelongsTo (chart_of_log n log) s r → IsMessage s r
  message_is s r belongs = record {
    send = x.0;
    receive = y.0;
    send_is = x.1;
    receive_is = y.1;
    sends = (and_parts x.0.sends (x.0.partner == r.instance) sends).0;
    receives = is_false y.0.sends (and_parts (not y.0.sends) (y.0.partner == s.instance) receives).0;
    message = received_is n from to log lanes s.instance r.instance q_in.0 q_in.1 s.index r.index x.0 y.0 x.1 sends y.1 receives
        (subst (λ l. tally (is_send_to r.instance) l s.index ≡ tally (is_receive_from s.instance) (map (event_of log) (line_of n log r.instance)) r.index) (line_is n log s.instance p_in.0 p_in.1)
        (subst (λ l. tally (is_send_to r.instance) (chart_of_log n log s.instance) s.index ≡ tally (is_receive_from s.instance) l r.index) (line_is n log r.instance q_in.0 q_in.1) belongs.turn));
  }
    where
      x : (x : Item) × (ith (line_of n log s.instance) s.index ≡ Some x) × (event_of log x ≡ belongs.sent.0)
      x = item_of_event n log s belongs.sent.0 belongs.sent.1

      y : (x : Item) × (ith (line_of n log r.instance) r.index ≡ Some x) × (event_of log x ≡ belongs.received.0)
      y = item_of_event n log r belongs.received.0 belongs.received.1

      p_in : (1 ≤ s.instance) × (s.instance ≤ n)
      p_in = host_of_event n log s belongs.sent.0 belongs.sent.1

      q_in : (1 ≤ r.instance) × (r.instance ≤ n)
      q_in = host_of_event n log r belongs.received.0 belongs.received.1

      is_false : (b : Bool) → not b ≡ true → b ≡ false
      is_false true e = absurd (false≢true e)
      is_false false e = refl

      sends : (x.0.sends && x.0.partner == r.instance) ≡ true
      sends = sym (event_sends log r.instance x.0) ∙ ap (is_send_to r.instance) x.2 ∙ belongs.sent.2

      receives : (not y.0.sends && y.0.partner == s.instance) ≡ true
      receives = sym (event_receives log s.instance y.0) ∙ ap (is_receive_from s.instance) y.2 ∙ belongs.received.2

  sooner_direct : (e f : Place) → Direct (chart_of_log n log) e f → IsSooner Lines (stands_at e) (stands_at f) e f
  sooner_direct e f (by_message belongs) = let it = message_is e f belongs in across e f it.send it.receive it.send_is it.receive_is it.sends it.receives it.message
  sooner_direct e f (to_send q earlier sent) = let x = item_of_event n log f sent.0 sent.1 in along e f x.0 earlier x.1
  sooner_direct e f (same_sender q earlier first later) = let x = item_of_event n log f later.0 later.1 in along e f x.0 earlier x.1

  sooner_before : (e f : Place) → Before (chart_of_log n log) e f → IsSooner Lines (stands_at e) (stands_at f) e f
  sooner_before e f (before_direct step) = sooner_direct e f step
  sooner_before e f (before_through {d = d} first rest) = sooner-trans Lines (stands_at e) (stands_at d) (stands_at f) e d f (sooner_before e d first) (sooner_before d f rest)

  pub never_cyclic : HasNone (kept log) → IsCyclic (chart_of_log n log) → ⊥
  never_cyclic none (e, way) = never_sooner Lines none (stands_at e) e (sooner_before e e way)

  -- an event of a line of the log belongs to this line
  own_stands : (e : Place) (x : Item) (a : ℕ) → ith (line_of n log e.instance) e.index ≡ Some x → x.line ≡ Some a → stands_at e ≡ Some a
  own_stands e x a x_is is =
      let w = placed_at e x x_is in
      ap stands_of w.1 ∙ go w.0 w.2 (placed_are n (by_name n log) (are_up_to n log) Lines (begun Lines) e.instance e.index w.0 w.1)
    where
      go : (w : Placed) → w.item ≡ x → IsOf n Lines (begun Lines) e.instance w → w.stands ≡ Some a
      go w same (head p r low high there item none) = absurd (let none_is = ap (λ (i : Item). i.line) (sym item ∙ same) ∙ is in cc none_is)
      go w same (own y y_in y_host item stands) = stands ∙ ap (λ (i : Item). i.line) (sym item ∙ same) ∙ is
      go w same (after y r y_in y_host there item stands) = absurd (let none_is = ap (λ (i : Item). i.line) (sym item ∙ same) ∙ is in cc none_is)

  -- two events of a host that are lines of the log
  own_less : (e f : Place) (x y : Item) (a b : ℕ) → ith (line_of n log e.instance) e.index ≡ Some x → ith (line_of n log f.instance) f.index ≡ Some y → x.line ≡ Some a → y.line ≡ Some b
      → e.instance ≡ f.instance → e.index < f.index → a < b
  own_less e f x y a b x_is y_is x_line y_line same less =
      let w = placed_at e x x_is in
      let v = placed_at f y y_is in
      own_lines_rise (by_name n log) (kept log) (begun (kept log)) f.instance e.index f.index w.0 v.0 a b (kept_rises log)
      (subst (λ q. ith (Host q) e.index ≡ Some w.0) same w.1) v.1 less (ap (λ (i : Item). i.line) w.2 ∙ x_line) (ap (λ (i : Item). i.line) v.2 ∙ y_line)

  pub logged_before : (e f : Place) (x y : Item) (a b : ℕ) → ith (line_of n log e.instance) e.index ≡ Some x → ith (line_of n log f.instance) f.index ≡ Some y → x.line ≡ Some a → y.line ≡ Some b
      → Before (chart_of_log n log) e f → Comes (kept log) a b
  logged_before e f x y a b x_is y_is x_line y_line way =
      go (subst (λ s. IsSooner Lines s (Some b) e f) (own_stands e x a x_is x_line) (subst (λ s. IsSooner Lines (stands_at e) s e f) (own_stands f y b y_is y_line) (sooner_before e f way)))
    where
      go : Comes Lines a b ⊎ ((a ≡ b) × (e.instance ≡ f.instance) × (e.index < f.index)) → Comes Lines a b
      go (inl comes) = comes
      go (inr its) = absurd (let less = own_less e f x y a b x_is y_is x_line y_line its.1 its.2 in omega (arith, its.0, less))
