-- The ends of messages that follow each other, sorted by their turns: each lane is first in, first out.
use Rattle.std.proofs.Common.{◌≡◌, ℕ, ◌+◌, ◌*◌, ◌≤◌, ◌==◌, not, Bool, true, false, cond, List, [], ◌∷◌, ◌++◌, length, drop, get_or, map, filter, refl, sym, ap, ◌∙◌, subst, arith, append_assoc, eqb-true}
use Rattle.std.specs.Prelude.{fold, nat_lt}
use Rattle.std.proofs.lemmas.Bool.{and_parts}
use Rattle.std.proofs.lemmas.List.{map-append}
use Rattle.chart.specs.Messages.{Content}
use Rattle.chart.specs.Histories.{is_lane}
use Rattle.diagrams.specs.Messages.Turns.{send_end, receive_end, all_ends, own_ends, in_turn}
use Rattle.diagrams.specs.declared.messages.end.End.{End}
use Rattle.diagrams.specs.declared.messages.message.Named.{Named}
use Rattle.diagrams.specs.Messages.Each.{Each, Pairs}
use Rattle.diagrams.specs.Messages.Following.{Follows}
use Rattle.diagrams.proofs.MessagesLemmas.EachLemmas.{each_weaker, each_filter, each_passing, pairs_weaker, pairs_passing, filter_swap}
use Rattle.diagrams.proofs.MessagesLemmas.HistoryLemmas.{content_of, is_of, lane_ends, Fifo}
use Rattle.chart.specs.StableOrder.Order.{put_by, in_order_by}
use Rattle.chart.proofs.StableOrderLemmas.OrderLemmas.{Least, Rising, of_key, least_filter, rising_filter, order_rises, order_kept, same_by_key}

-- Some of the ends, in the order of their turns.

abbrev turn_of : End → ℕ
turn_of e = e.turn

-- an instance's ends, sorted by their turns
pub own_in_turn : (p : ℕ) (came : List End) → own_ends p (in_turn came) ≡ in_turn (own_ends p came)
own_in_turn p came = same_by_key turn_of (own_ends p (in_turn came)) (in_turn (own_ends p came)) (rising_filter turn_of (λ (e : End). e.instance == p) (in_turn came) (order_rises turn_of came)) (order_rises turn_of (own_ends p came))
    (λ t. filter_swap (λ (e : End). e.turn == t) (λ (e : End). e.instance == p) (in_turn came) ∙ ap (own_ends p) (order_kept turn_of t came)
    ∙ sym (filter_swap (λ (e : End). e.turn == t) (λ (e : End). e.instance == p) came) ∙ sym (order_kept turn_of t (own_ends p came)))

-- the ends that pass two tests, if they come in the order of their turns
twice_kept : (f g : End → Bool) (came : List End) → Rising turn_of (filter f (filter g came)) → filter f (filter g (in_turn came)) ≡ filter f (filter g came)
twice_kept f g came rising = same_by_key turn_of (filter f (filter g (in_turn came))) (filter f (filter g came)) (rising_filter turn_of f (filter g (in_turn came)) (rising_filter turn_of g (in_turn came) (order_rises turn_of came))) rising
    (λ t. through t (in_turn came) ∙ ap (λ l. filter f (filter g l)) (order_kept turn_of t came) ∙ sym (through t came))
  where
    through : (t : ℕ) (xs : List End) → of_key turn_of t (filter f (filter g xs)) ≡ filter f (filter g (of_key turn_of t xs))
    through t xs = filter_swap (λ (e : End). e.turn == t) f (filter g xs) ∙ ap (filter f) (filter_swap (λ (e : End). e.turn == t) g xs)

module _ (P : End → Type 0) where
  put_each : (xs : List End) (e : End) → Each P xs → P e → Each P (put_by turn_of xs e)
  unfolding put_by
  put_each [] e all its = (its, tt)
  put_each (x ∷ xs) e all its = go (nat_lt e.turn x.turn) (put_each xs e all.1 its)
    where
      go : (less : Bool) → Each P (put_by turn_of xs e) → Each P (cond less (e ∷ x ∷ xs) (x ∷ put_by turn_of xs e))
      go true more = (its, all)
      go false more = (all.0, more)

  fold_each : (acc ends : List End) → Each P acc → Each P ends → Each P (fold (put_by turn_of) acc ends)
  fold_each acc [] all more = all
  fold_each acc (e ∷ ends) all more = fold_each (put_by turn_of acc e) ends (put_each acc e all more.0) more.1

  pub turn_each : (ends : List End) → Each P ends → Each P (in_turn ends)
  unfolding in_order_by
  turn_each ends all = fold_each [] ends tt all

-- Messages that follow each other.

-- the message goes from q to p
abbrev pub goes : ℕ → ℕ → Named → Bool
goes q p m = is_lane m.sender m.receiver q p

abbrev pub lane_messages : ℕ → ℕ → List Named → List Named
lane_messages q p messages = filter (goes q p) messages

abbrev pub received_of : List Named → List Named
received_of messages = filter (λ (m : Named). not m.is_lost) messages

abbrev pub content : Named → Content
content m = record { name = m.name; body = [] }

abbrev pub sends_of : List End → List End
sends_of ends = filter (λ (e : End). e.sends) ends

abbrev pub receives_of : List End → List End
receives_of ends = filter (λ (e : End). not e.sends) ends

-- the lane's sends, and its receives
lane_sends : (q p : ℕ) (messages : List Named) → sends_of (lane_ends q p (all_ends messages)) ≡ map send_end (lane_messages q p messages)
unfolding all_ends
lane_sends q p [] = refl
lane_sends q p (m ∷ messages) = go m.is_lost (goes q p m) refl (lane_sends q p messages)
  where
    go : (lost its : Bool) → goes q p m ≡ its → sends_of (lane_ends q p (all_ends messages)) ≡ map send_end (lane_messages q p messages)
        → sends_of (lane_ends q p (cond lost (send_end m ∷ []) (send_end m ∷ receive_end m ∷ []) ++ all_ends messages)) ≡ map send_end (cond its (m ∷ lane_messages q p messages) (lane_messages q p messages))
    go true true e rest = rw e (ap (λ l. send_end m ∷ l) rest)
    go true false e rest = rw e rest
    go false true e rest = rw e (ap (λ l. send_end m ∷ l) rest)
    go false false e rest = rw e rest

lane_receives : (q p : ℕ) (messages : List Named) → receives_of (lane_ends q p (all_ends messages)) ≡ map receive_end (received_of (lane_messages q p messages))
unfolding all_ends
lane_receives q p [] = refl
lane_receives q p (m ∷ messages) = go m.is_lost refl (goes q p m) refl (lane_receives q p messages)
  where
    go : (lost : Bool) → m.is_lost ≡ lost → (its : Bool) → goes q p m ≡ its → receives_of (lane_ends q p (all_ends messages)) ≡ map receive_end (received_of (lane_messages q p messages))
        → receives_of (lane_ends q p (cond lost (send_end m ∷ []) (send_end m ∷ receive_end m ∷ []) ++ all_ends messages)) ≡ map receive_end (received_of (cond its (m ∷ lane_messages q p messages) (lane_messages q p messages)))
    go true l true e rest = rw (e, l) rest
    go true l false e rest = rw e rest
    go false l true e rest = rw (e, l) (ap (λ x. receive_end m ∷ x) rest)
    go false l false e rest = rw e rest

-- they come in the order of their turns
least_sends : (t : ℕ) (messages : List Named) → Each (λ m. t ≤ 2 * m.begins) messages → Least turn_of t (map send_end messages)
unfolding Least
least_sends t [] all = tt
least_sends t (m ∷ messages) all = (all.0, least_sends t messages all.1)

sends_rise : (messages : List Named) → Pairs (λ m n. m.begins ≤ n.begins) messages → Rising turn_of (map send_end messages)
unfolding Rising
sends_rise [] all = tt
sends_rise (m ∷ messages) all =
    (least_sends (2 * m.begins) messages (each_weaker (λ n. m.begins ≤ n.begins) (λ n. 2 * m.begins ≤ 2 * n.begins) (λ n le. omega (arith, le)) messages all.0), sends_rise messages all.1)

least_receives : (t : ℕ) (messages : List Named) → Each (λ m. t ≤ 2 * m.ends + 1) messages → Least turn_of t (map receive_end messages)
unfolding Least
least_receives t [] all = tt
least_receives t (m ∷ messages) all = (all.0, least_receives t messages all.1)

receives_rise : (messages : List Named) → Pairs (λ m n. m.ends ≤ n.ends) messages → Rising turn_of (map receive_end messages)
unfolding Rising
receives_rise [] all = tt
receives_rise (m ∷ messages) all =
    (least_receives (2 * m.ends + 1) messages (each_weaker (λ n. m.ends ≤ n.ends) (λ n. 2 * m.ends + 1 ≤ 2 * n.ends + 1) (λ n le. omega (arith, le)) messages all.0), receives_rise messages all.1)

-- the received messages of a lane are its first ones
none_received : (messages : List Named) → Each (λ n. n.is_lost ≡ true) messages → received_of messages ≡ []
none_received [] all = refl
none_received (m ∷ messages) all = rw all.0 (none_received messages all.1)

received_first : (messages : List Named) → Pairs (λ m n. m.is_lost ≡ true → n.is_lost ≡ true) messages → (rest : List Named) × (messages ≡ received_of messages ++ rest)
received_first [] all = ([], refl)
received_first (m ∷ messages) all = go m.is_lost refl (received_first messages all.1)
  where
    go : (lost : Bool) → m.is_lost ≡ lost → (rest : List Named) × (messages ≡ received_of messages ++ rest)
        → (rest : List Named) × (m ∷ messages ≡ cond (not lost) (m ∷ received_of messages) (received_of messages) ++ rest)
    go true e (rest, is) = (m ∷ messages, sym (ap (λ l. l ++ m ∷ messages) (none_received messages (each_weaker (λ n. m.is_lost ≡ true → n.is_lost ≡ true) (λ n. n.is_lost ≡ true) (λ n f. f e) messages all.0))))
    go false e (rest, is) = (rest, ap (λ l. m ∷ l) is)

-- the least turn of the sends to come
least_first : (t : ℕ) (m : Named) (later : List Named) (ends : List End) → Least turn_of t ends → sends_of ends ≡ map send_end (m ∷ later) → t ≤ 2 * m.begins
unfolding Least
least_first t m later ends least is = (subst (Least turn_of t) is (least_filter turn_of t (λ (e : End). e.sends) ends least)).0

-- receives take the messages that wait on a lane, in the order of their sends
abbrev pub TakesFirst : List Named → List End → Type 0
TakesFirst rest ends = (waits later taken : List Named) → sends_of ends ≡ map send_end later → receives_of ends ≡ map receive_end taken
    → waits ++ later ≡ taken ++ rest → Each (λ m. m.begins ≤ m.ends) taken → Fifo (map content waits) ends

send_first : (rest : List Named) (e : End) (ends : List End) (waits later taken : List Named) → TakesFirst rest ends → e ∷ sends_of ends ≡ map send_end later → receives_of ends ≡ map receive_end taken
    → waits ++ later ≡ taken ++ rest → Each (λ m. m.begins ≤ m.ends) taken → Fifo (map content waits ++ content_of e ∷ []) ends
send_first rest e ends waits [] taken next sent received all down = absurd (omega (arith, ap length sent))
send_first rest e ends waits (m ∷ later) taken next sent received all down =
    let its : e ≡ send_end m = ap (λ l. get_or l 0 e) sent in
    let more : map content (waits ++ m ∷ []) ≡ map content waits ++ content_of e ∷ [] = map-append content waits (m ∷ []) ∙ ap (λ x. map content waits ++ content_of x ∷ []) (sym its) in
    subst (λ ms. Fifo ms ends) more (next (waits ++ m ∷ []) later taken (ap (drop 1) sent) received (append_assoc waits (m ∷ []) later ∙ all) down)

receive_first : (rest : List Named) (e : End) (ends : List End) (waits later taken : List Named) → TakesFirst rest ends → Least turn_of e.turn ends → sends_of ends ≡ map send_end later → e ∷ receives_of ends ≡ map receive_end taken
    → waits ++ later ≡ taken ++ rest → Each (λ m. m.begins ≤ m.ends) taken
    → (c : Content) × (others : List Content) × (map content waits ≡ c ∷ others) × (c.name ≡ e.name) × Fifo others ends
receive_first rest e ends waits later [] next least sent received all down = absurd (omega (arith, ap length received))
receive_first rest e ends [] later (g ∷ taken) next least sent received all down =
    let its : e ≡ receive_end g = ap (λ l. get_or l 0 e) received in
    let first : e.turn ≤ 2 * g.begins = least_first e.turn g (taken ++ rest) ends least (sent ∙ ap (map send_end) all) in
    absurd (omega (arith, first, ap (λ (x : End). x.turn) its, down.0))
receive_first rest e ends (w ∷ waits) later (g ∷ taken) next least sent received all down =
    let its : e ≡ receive_end g = ap (λ l. get_or l 0 e) received in
    let same : w ≡ g = ap (λ l. get_or l 0 w) all in (
      content w,
      map content waits,
      refl,
      ap (λ (x : Named). x.name) same ∙ sym (ap (λ (x : End). x.name) its),
      next waits later taken sent (ap (drop 1) received) (ap (drop 1) all) down.1,
    )

pub first_out : (rest : List Named) (ends : List End) → Rising turn_of ends → TakesFirst rest ends
unfolding Rising
first_out rest [] rising waits later taken sent received all down = tt
first_out rest (e ∷ ends) rising waits later taken sent received all down = (
  λ sends. send_first rest e ends waits later taken (first_out rest ends rising.1)
      (subst (λ b. cond b (e ∷ sends_of ends) (sends_of ends) ≡ map send_end later) sends sent) (subst (λ b. cond (not b) (e ∷ receives_of ends) (receives_of ends) ≡ map receive_end taken) sends received) all down,
  λ receives. receive_first rest e ends waits later taken (first_out rest ends rising.1) rising.0
      (subst (λ b. cond b (e ∷ sends_of ends) (sends_of ends) ≡ map send_end later) receives sent) (subst (λ b. cond (not b) (e ∷ receives_of ends) (receives_of ends) ≡ map receive_end taken) receives received) all down,
)

is_false : (b : Bool) → not b ≡ true → b ≡ false
is_false true e = absurd (cc e)
is_false false e = refl

-- each lane of messages that follow each other is first in, first out
pub lane_fifo : (messages : List Named) → Pairs Follows messages → Each (λ m. m.is_lost ≡ false → m.begins ≤ m.ends) messages → (q p : ℕ) → Fifo [] (lane_ends q p (in_turn (all_ends messages)))
lane_fifo messages follow down q p =
    first_out first.0 (lane_ends q p (in_turn (all_ends messages))) (rising_filter turn_of (is_of q p) (in_turn (all_ends messages)) (order_rises turn_of (all_ends messages))) [] own (received_of own)
    (twice_kept (λ (e : End). e.sends) (is_of q p) (all_ends messages) (subst (Rising turn_of) (sym (lane_sends q p messages)) (sends_rise own sent_so)) ∙ lane_sends q p messages)
    (twice_kept (λ (e : End). not e.sends) (is_of q p) (all_ends messages) (subst (Rising turn_of) (sym (lane_receives q p messages)) (receives_rise (received_of own) received_so)) ∙ lane_receives q p messages)
    first.1 in_time
  where
    own : List Named
    own = lane_messages q p messages

    same : (m n : Named) → goes q p m ≡ true → goes q p n ≡ true → (m.sender ≡ n.sender) × (m.receiver ≡ n.receiver)
    same m n e f =
        let one = and_parts (m.sender == q) (m.receiver == p) e in
        let other = and_parts (n.sender == q) (n.receiver == p) f in
        (eqb-true m.sender q one.0 ∙ sym (eqb-true n.sender q other.0), eqb-true m.receiver p one.1 ∙ sym (eqb-true n.receiver p other.1))

    sent_so : Pairs (λ m n. m.begins ≤ n.begins) own
    sent_so = pairs_passing (λ m n. m.begins ≤ n.begins) (goes q p) messages
        (pairs_weaker Follows (λ m n. goes q p m ≡ true → goes q p n ≡ true → m.begins ≤ n.begins) (λ m n f e d. f.order) messages follow)

    received_so : Pairs (λ m n. m.ends ≤ n.ends) (received_of own)
    received_so = pairs_passing (λ m n. m.ends ≤ n.ends) (λ (m : Named). not m.is_lost) own
        (pairs_passing (λ m n. not m.is_lost ≡ true → not n.is_lost ≡ true → m.ends ≤ n.ends) (goes q p) messages
        (pairs_weaker Follows (λ m n. goes q p m ≡ true → goes q p n ≡ true → not m.is_lost ≡ true → not n.is_lost ≡ true → m.ends ≤ n.ends)
        (λ m n f e d i j. f.taken (same m n e d).0 (same m n e d).1 (is_false m.is_lost i) (is_false n.is_lost j)) messages follow))

    first : (rest : List Named) × (own ≡ received_of own ++ rest)
    first = received_first own
        (pairs_passing (λ m n. m.is_lost ≡ true → n.is_lost ≡ true) (goes q p) messages
        (pairs_weaker Follows (λ m n. goes q p m ≡ true → goes q p n ≡ true → m.is_lost ≡ true → n.is_lost ≡ true) (λ m n f e d. f.lost (same m n e d).0 (same m n e d).1) messages follow))

    in_time : Each (λ m. m.begins ≤ m.ends) (received_of own)
    in_time = each_passing (λ m. m.begins ≤ m.ends) (λ (m : Named). not m.is_lost) own
        (each_filter (λ m. not m.is_lost ≡ true → m.begins ≤ m.ends) (goes q p) messages
        (each_weaker (λ m. m.is_lost ≡ false → m.begins ≤ m.ends) (λ m. not m.is_lost ≡ true → m.begins ≤ m.ends) (λ m f e. f (is_false m.is_lost e)) messages down))
