-- The lines that stay after a receive of a lane with one stream is freed: the same lines.
use Rattle.std.proofs.Common.{◌≡◌, ℕ, zero, suc, ◌+◌, ◌<◌, ◌≤◌, ◌==◌, ◌&&◌, ◌⊎◌, inl, inr, Bool, true, false, cond, List, [], ◌∷◌, Option, None, Some, length, filter, get_or, refl, sym, ap, ap₂, ◌∙◌, subst, arith, eqb-true}
use Rattle.std.specs.Prelude.{All, Contains, unwrap_or}
use Rattle.std.proofs.lemmas.Bool.{eqb-false, ne_eqb, false≢true, and_parts}
use Rattle.std.proofs.lemmas.List.Elements.{All-head, All-tail, All-nil, All-cons, All-contains}
use Rattle.log_chart.specs.BegunTables.{IsRising}
use Rattle.log_chart.specs.Entries.{is_send, takes}
use Rattle.log_chart.specs.Fates.{sender_of, receiver_of, is_on, earlier, later_one, first_sent, last_sent, overtaking, is_sent_at, message_fate, unreceived, receive_fate, fate_of, stays}
use Rattle.log_chart.specs.HostLines.{kept}
use Rattle.log_chart.specs.Matching.{sends_from, left_after, matched_from, matched}
use Rattle.log_chart.specs.declared.entry.Entry.{Entry}
use Rattle.log_chart.specs.declared.fate.Fate.TheVariants.{Stays}
use Rattle.log_chart.specs.declared.entry.Kind.TheVariants.{Freed}
use Rattle.log_chart.specs.declared.matching.LogLine.{LogLine}
use Rattle.log_chart.specs.Cycles.Freeing.{freed}
use Rattle.log_chart.proofs.LaneLists.{Has}
use Rattle.log_chart.proofs.TakenLanes.{AreLeft, all_left, stream_at, streams_all}
use Rattle.log_chart.proofs.CyclesLemmas.FreedLemmas.{IsTaken, IsAlike, AreAlike, alike_from, first_in, later_in}
use Rattle.log_chart.proofs.CyclesLemmas.PlainLemmas.{IsAlone, plain_stays, has_send}
use Rattle.log_chart.proofs.CyclesLemmas.SettleLemmas.{takes_no_send, freed_one}

pub matched_all : (P : Entry → Type 0) (left : ℕ → List ℕ) (n : ℕ) (log : List Entry) → All P log → All (λ x. P x.entry) (matched_from left n log)
unfolding matched_from
matched_all P left n [] all = All-nil (λ (x : LogLine). P x.entry)
matched_all P left n (e ∷ log) all = All-cons (λ (x : LogLine). P x.entry) _ _ (All-head P e log all) (matched_all P (left_after left e) (n + 1) log (All-tail P e log all))

pub filter_in : (f : LogLine → Bool) (xs : List LogLine) (x : LogLine) → Contains xs x → f x ≡ true → Contains (filter f xs) x
filter_in f [] x has its = absurd (omega (arith, has.1))
filter_in f (y ∷ xs) x (zero, less, is) its = rw (ap f is ∙ its) (zero, omega arith, is)
filter_in f (y ∷ xs) x (suc i, less, is) its = more (f y) (filter_in f xs x (i, omega (arith, less), is) its)
  where
    more : (b : Bool) → Contains (filter f xs) x → Contains (cond b (y ∷ filter f xs) (filter f xs)) x
    more true has = later_in y x (filter f xs) has
    more false has = has

pub in_filter : (f : LogLine → Bool) (xs : List LogLine) (x : LogLine) → Contains (filter f xs) x → Contains xs x
in_filter f [] x has = has
in_filter f (y ∷ xs) x has = go (f y) has (in_filter f xs x)
  where
    go : (b : Bool) → Contains (cond b (y ∷ filter f xs) (filter f xs)) x → (Contains (filter f xs) x → Contains xs x) → Contains (y ∷ xs) x
    go true (zero, less, is) more = (zero, omega arith, is)
    go true (suc i, less, is) more = later_in y x xs (more (i, omega (arith, less), is))
    go false there more = later_in y x xs (more there)

module _ (whole : List LogLine) (stream : ℕ → ℕ) (c k q p : ℕ) where
  abbrev Alike : List LogLine → List LogLine → Type 0
  Alike xs ys = AreAlike whole stream c k xs ys

  abbrev AreAlone : List LogLine → Type 0
  AreAlone xs = All (λ (x : LogLine). IsAlone c q p x.entry) xs

  -- both ways between alike lines
  pub alike_of : (xs ys : List LogLine) (x : LogLine) → Alike xs ys → Contains xs x → (y : LogLine) × Contains ys y × IsAlike whole stream c k x y
  alike_of [] ys x alike has = absurd (omega (arith, has.1))
  alike_of (z ∷ xs) [] x alike has = absurd alike
  alike_of (z ∷ xs) (y ∷ ys) x alike (zero, less, is) = (y, first_in y ys, subst (λ l. IsAlike whole stream c k l y) is alike.0)
  alike_of (z ∷ xs) (y ∷ ys) x alike (suc i, less, is) =
      let w = alike_of xs ys x alike.1 (i, omega (arith, less), is) in (w.0, later_in y w.0 ys w.1, w.2)

  pub alike_back : (xs ys : List LogLine) (y : LogLine) → Alike xs ys → Contains ys y → (x : LogLine) × Contains xs x × IsAlike whole stream c k x y
  alike_back xs [] y alike has = absurd (omega (arith, has.1))
  alike_back [] (z ∷ ys) y alike has = absurd alike
  alike_back (x ∷ xs) (z ∷ ys) y alike (zero, less, is) = (x, first_in x xs, subst (λ l. IsAlike whole stream c k x l) is alike.0)
  alike_back (x ∷ xs) (z ∷ ys) y alike (suc i, less, is) =
      let w = alike_back xs ys y alike.1 (i, omega (arith, less), is) in (w.0, later_in x w.0 xs w.1, w.2)

  ends_on : (a b : ℕ) (x : LogLine) → is_on a b x ≡ true → (sender_of x.entry ≡ a) × (receiver_of x.entry ≡ b)
  ends_on a b x its =
      let ends = and_parts (sender_of x.entry == a) (receiver_of x.entry == b) its in
      (eqb-true (sender_of x.entry) a ends.0, eqb-true (receiver_of x.entry) b ends.1)

  same_on : (a b : ℕ) (x y : LogLine) → IsAlike whole stream c k x y → is_on a b y ≡ is_on a b x
  same_on a b x y alike = ap₂ (λ s r. s == a && r == b) alike.sender alike.receiver

  -- on another lane
  module _ (a b : ℕ) (other : a ≡ q → b ≡ p → ⊥) where
    same_send : (x y : LogLine) → IsAlike whole stream c k x y → IsAlone c q p x.entry → is_on a b x ≡ true → y.send ≡ x.send
    same_send x y alike alone on =
        let ends = ends_on a b x on in
        alike.other (λ its. other (sym ends.0 ∙ alone.sender its) (sym ends.1 ∙ alone.receiver its))

    first_alike : (xs ys : List LogLine) → Alike xs ys → AreAlone xs → first_sent ys a b ≡ first_sent xs a b
    unfolding first_sent
    first_alike [] [] alike alone = refl
    first_alike [] (y ∷ ys) alike alone = absurd alike
    first_alike (x ∷ xs) [] alike alone = absurd alike
    first_alike (x ∷ xs) (y ∷ ys) alike alone =
        ap (λ o. cond o (earlier y.send (first_sent ys a b)) (first_sent ys a b)) (same_on a b x y alike.0) ∙ go (is_on a b x) refl (first_alike xs ys alike.1 (All-tail (λ (l : LogLine). IsAlone c q p l.entry) x xs alone))
      where
        go : (on : Bool) → is_on a b x ≡ on → first_sent ys a b ≡ first_sent xs a b → cond on (earlier y.send (first_sent ys a b)) (first_sent ys a b) ≡ cond on (earlier x.send (first_sent xs a b)) (first_sent xs a b)
        go true f rest = ap₂ earlier (same_send x y alike.0 (All-head (λ (l : LogLine). IsAlone c q p l.entry) x xs alone) f) rest
        go false f rest = rest

    last_alike : (xs ys : List LogLine) → Alike xs ys → AreAlone xs → last_sent ys a b ≡ last_sent xs a b
    unfolding last_sent
    last_alike [] [] alike alone = refl
    last_alike [] (y ∷ ys) alike alone = absurd alike
    last_alike (x ∷ xs) [] alike alone = absurd alike
    last_alike (x ∷ xs) (y ∷ ys) alike alone =
        ap (λ o. cond o (later_one y.send (last_sent ys a b)) (last_sent ys a b)) (same_on a b x y alike.0) ∙ go (is_on a b x) refl (last_alike xs ys alike.1 (All-tail (λ (l : LogLine). IsAlone c q p l.entry) x xs alone))
      where
        go : (on : Bool) → is_on a b x ≡ on → last_sent ys a b ≡ last_sent xs a b → cond on (later_one y.send (last_sent ys a b)) (last_sent ys a b) ≡ cond on (later_one x.send (last_sent xs a b)) (last_sent xs a b)
        go true f rest = ap₂ later_one (same_send x y alike.0 (All-head (λ (l : LogLine). IsAlone c q p l.entry) x xs alone) f) rest
        go false f rest = rest

  never_sent : (s : ℕ) (x : LogLine) (t : Option ℕ) → (stream s ≡ c → ⊥) → x.entry.stream ≡ c → ((u : ℕ) → t ≡ Some u → stream u ≡ x.entry.stream) → is_sent_at s t ≡ false
  never_sent s x None differs its own = refl
  never_sent s x (Some t) differs its own = ne_eqb t s (λ same. differs (ap stream (sym same) ∙ own t refl ∙ its))

  fate_alike : (s : ℕ) → (stream s ≡ c → ⊥) → (xs ys : List LogLine) → Alike xs ys → AreAlone xs → message_fate s ys ≡ message_fate s xs
  unfolding message_fate
  fate_alike s differs [] [] alike alone = refl
  fate_alike s differs [] (y ∷ ys) alike alone = absurd alike
  fate_alike s differs (x ∷ xs) [] alike alone = absurd alike
  fate_alike s differs (x ∷ xs) (y ∷ ys) alike alone =
      ap (λ o. cond o (Some (overtaking (first_sent ys (sender_of y.entry) (receiver_of y.entry)) s)) (message_fate s ys)) same_sent
      ∙ go (is_sent_at s x.send) refl (fate_alike s differs xs ys alike.1 tail)
    where
      tail : AreAlone xs
      tail = All-tail (λ (l : LogLine). IsAlone c q p l.entry) x xs alone

      here : IsAlone c q p x.entry
      here = All-head (λ (l : LogLine). IsAlone c q p l.entry) x xs alone

      same_sent : is_sent_at s y.send ≡ is_sent_at s x.send
      same_sent = by_stream (x.entry.stream == c) refl
        where
          by_stream : (its : Bool) → (x.entry.stream == c) ≡ its → is_sent_at s y.send ≡ is_sent_at s x.send
          by_stream true f =
              let its = eqb-true x.entry.stream c f in
              never_sent s x y.send differs its alike.0.takes_own_too ∙ sym (never_sent s x x.send differs its alike.0.takes_own)
          by_stream false f = ap (is_sent_at s) (alike.0.other (eqb-false x.entry.stream c f))

      sent_at : (t : Option ℕ) → is_sent_at s t ≡ true → t ≡ Some s
      sent_at None e = absurd (false≢true e)
      sent_at (Some t) e = ap (λ u. Some u) (eqb-true t s e)

      go : (sent : Bool) → is_sent_at s x.send ≡ sent → message_fate s ys ≡ message_fate s xs
          → cond sent (Some (overtaking (first_sent ys (sender_of y.entry) (receiver_of y.entry)) s)) (message_fate s ys)
          ≡ cond sent (Some (overtaking (first_sent xs (sender_of x.entry) (receiver_of x.entry)) s)) (message_fate s xs)
      go true f rest =
          let own = alike.0.takes_own s (sent_at x.send f) in
          ap (λ r. Some (overtaking r s)) (
          ap₂ (first_sent ys) alike.0.sender alike.0.receiver
          ∙ first_alike (sender_of x.entry) (receiver_of x.entry) (λ e g. differs (own ∙ here.stream e g)) xs ys alike.1 tail
          )
      go false f rest = rest

  -- the fate of a line of another stream
  fate_of_alike : (xs ys : List LogLine) (x y : LogLine) → Alike xs ys → AreAlone xs → IsAlike whole stream c k x y → IsAlone c q p x.entry → (x.entry.stream ≡ c → ⊥) → fate_of ys y ≡ fate_of xs x
  fate_of_alike xs ys x y alike alone its here differs =
      ap (λ b. cond b (unwrap_or (message_fate y.number ys) (unreceived y.number (last_sent ys (sender_of y.entry) (receiver_of y.entry)))) (receive_fate ys y.send)) its.sends
      ∙ ap₂ (λ u r. cond (is_send x.entry.kind) u r) sent received
    where
      fate : message_fate y.number ys ≡ message_fate x.number xs
      fate = ap (λ n. message_fate n ys) its.number ∙ fate_alike x.number (λ e. differs (sym its.own ∙ e)) xs ys alike alone

      last : last_sent ys (sender_of y.entry) (receiver_of y.entry) ≡ last_sent xs (sender_of x.entry) (receiver_of x.entry)
      last = ap₂ (last_sent ys) its.sender its.receiver ∙ last_alike (sender_of x.entry) (receiver_of x.entry) (λ e g. differs (here.stream e g)) xs ys alike alone

      sent : unwrap_or (message_fate y.number ys) (unreceived y.number (last_sent ys (sender_of y.entry) (receiver_of y.entry)))
          ≡ unwrap_or (message_fate x.number xs) (unreceived x.number (last_sent xs (sender_of x.entry) (receiver_of x.entry)))
      sent = ap₂ (λ f u. unwrap_or f u) fate (ap₂ (λ n l. unreceived n l) its.number last)

      received : receive_fate ys y.send ≡ receive_fate xs x.send
      received = ap (receive_fate ys) (its.other differs) ∙ go x.send refl
        where
          go : (t : Option ℕ) → x.send ≡ t → receive_fate ys t ≡ receive_fate xs t
          go None f = refl
          go (Some s) f = ap (λ o. unwrap_or o Stays) (fate_alike s (λ e. differs (sym (its.takes_own s f) ∙ e)) xs ys alike alone)

  filter_alike : (f g : LogLine → Bool) (xs ys : List LogLine) → Alike xs ys → ((x y : LogLine) → Contains xs x → Contains ys y → IsAlike whole stream c k x y → f x ≡ g y) → Alike (filter f xs) (filter g ys)
  filter_alike f g [] [] alike same = tt
  filter_alike f g [] (y ∷ ys) alike same = absurd alike
  filter_alike f g (x ∷ xs) [] alike same = absurd alike
  filter_alike f g (x ∷ xs) (y ∷ ys) alike same =
      subst (λ b. Alike (cond (f x) (x ∷ filter f xs) (filter f xs)) (cond b (y ∷ filter g ys) (filter g ys))) (same x y (first_in x xs) (first_in y ys) alike.0)
      (go (f x) (filter_alike f g xs ys alike.1 (λ u v has there. same u v (later_in x u xs has) (later_in y v ys there))))
    where
      go : (b : Bool) → Alike (filter f xs) (filter g ys) → Alike (cond b (x ∷ filter f xs) (filter f xs)) (cond b (y ∷ filter g ys) (filter g ys))
      go true rest = (alike.0, rest)
      go false rest = rest

-- what a freed receive leaves as it is
pub freed_stream : (k : ℕ) (log : List Entry) (n : ℕ) → stream_at (freed k log) n ≡ stream_at log n
freed_stream k [] n = refl
freed_stream zero (e ∷ log) zero = refl
freed_stream zero (e ∷ log) (suc n) = refl
freed_stream (suc k) (e ∷ log) zero = refl
freed_stream (suc k) (e ∷ log) (suc n) = freed_stream k log n

pub freed_sends : (k n : ℕ) (log : List Entry) (e : Entry) → k < length log → get_or log k e ≡ e → takes e.kind ≡ true → (d : ℕ) → sends_from n (freed k log) d ≡ sends_from n log d
unfolding sends_from
freed_sends k n [] e within is one d = refl
freed_sends zero n (x ∷ log) e within is one d =
    let receives : is_send x.kind ≡ false = takes_no_send x.kind (ap (λ (y : Entry). takes y.kind) is ∙ one) in
    rw receives refl
freed_sends (suc k) n (x ∷ log) e within is one d = ap (λ l. cond (is_send x.kind && x.stream == d) (n ∷ l) l) (freed_sends k (n + 1) log e (omega (arith, within)) is one d)

pub freed_alone : (c q p k : ℕ) (log : List Entry) (f : Entry) → k < length log → get_or log k f ≡ f → takes f.kind ≡ true → All (IsAlone c q p) log → All (IsAlone c q p) (freed k log)
freed_alone c q p k log f within is one alone = freed_one (IsAlone c q p) keeps k log f within is one alone
  where
    keeps : (e : Entry) → takes e.kind ≡ true → IsAlone c q p e → IsAlone c q p (record e { kind = Freed })
    keeps e its here =
        let receives = takes_no_send e.kind its in
        record {
          sender = λ g. sym (ap (λ b. cond b e.host e.peer) receives) ∙ here.sender g;
          receiver = λ g. sym (ap (λ b. cond b e.peer e.host) receives) ∙ here.receiver g;
          stream = λ g h. here.stream (ap (λ b. cond b e.host e.peer) receives ∙ g) (ap (λ b. cond b e.peer e.host) receives ∙ h);
        }

-- an earlier line of the host takes this send
pub record IsEarlier (lines : List LogLine) (p k : ℕ) (x : LogLine) (s : ℕ) : Type 0 where
  pub line : LogLine
  pub among : Contains lines line
  pub own : x.entry.host ≡ p
  pub host : line.entry.host ≡ p
  pub low : k ≤ line.number
  pub high : line.number < x.number
  pub takes_it : line.send ≡ Some s

-- the same line before and after line k of host p is freed
pub record IsLeft (lines : List LogLine) (p k : ℕ) (x y : LogLine) : Type 0 where
  pub number : y.number ≡ x.number
  pub host : y.entry.host ≡ x.entry.host
  pub name : y.entry.host_name ≡ x.entry.host_name
  pub other : (x.entry.host ≡ p → ⊥) → y.send ≡ x.send
  pub shift : (s : ℕ) → y.send ≡ Some s → (x.send ≡ Some s) ⊎ IsEarlier lines p k x s

module _ (log : List Entry) (k : ℕ) (f : Entry) (within : k < length log) (is : get_or log k f ≡ f) (one : takes f.kind ≡ true) (q p : ℕ) (alone : All (IsAlone f.stream q p) log) where
  left' : AreLeft (stream_at log) (sends_from 0 (freed k log))
  left' = record {
    own = λ d s has. (all_left log).own d s (subst (λ l. Has l s) (freed_sends k 0 log f within is one d) has);
    rising = λ d. subst IsRising (sym (freed_sends k 0 log f within is one d)) ((all_left log).rising d);
  }

  pub matched_alike : AreAlike (matched log) (stream_at log) f.stream k (matched log) (matched (freed k log))
  matched_alike =
      alike_from (matched log) (stream_at log) f.stream k (sends_from 0 log) (sends_from 0 (freed k log)) 0 k log f (all_left log) left' (streams_all log) (omega arith) within is one refl
      (freed_sends k 0 log f within is one) (λ x has. has)

  alone_lines : All (λ (x : LogLine). IsAlone f.stream q p x.entry) (matched log)
  alone_lines = matched_all (IsAlone f.stream q p) (sends_from 0 log) 0 log alone

  alone_after : All (λ (x : LogLine). IsAlone f.stream q p x.entry) (matched (freed k log))
  alone_after = matched_all (IsAlone f.stream q p) (sends_from 0 (freed k log)) 0 (freed k log) (freed_alone f.stream q p k log f within is one alone)

  pub stays_before : (x : LogLine) → Contains (matched log) x → x.entry.stream ≡ f.stream → stays (fate_of (matched log) x) ≡ true
  stays_before x has its =
      let w = alike_of (matched log) (stream_at log) f.stream k q p (matched log) (matched (freed k log)) x matched_alike has in
      let here = All-contains (λ (l : LogLine). IsAlone f.stream q p l.entry) (matched log) x alone_lines has in
      plain_stays (stream_at log) f.stream q p (sends_from 0 log) log x (all_left log) alone (w.2.own ∙ its) (λ s e. w.2.takes_own s e ∙ its) (here.sender its) (here.receiver its)
      (λ sends. has_send (stream_at log) f.stream q p (sends_from 0 log) 0 log x has sends its)

  stays_after : (x y : LogLine) → IsAlike (matched log) (stream_at log) f.stream k x y → Contains (matched (freed k log)) y → x.entry.stream ≡ f.stream → stays (fate_of (matched (freed k log)) y) ≡ true
  stays_after x y alike has its =
      let here = All-contains (λ (l : LogLine). IsAlone f.stream q p l.entry) (matched (freed k log)) y alone_after has in
      let its_too = alike.same ∙ its in
      plain_stays (stream_at log) f.stream q p (sends_from 0 (freed k log)) (freed k log) y left' (freed_alone f.stream q p k log f within is one alone) (ap (stream_at log) alike.number ∙ alike.own ∙ its)
      (λ s e. alike.takes_own_too s e ∙ its) (here.sender its_too) (here.receiver its_too)
      (λ sends. has_send (stream_at log) f.stream q p (sends_from 0 (freed k log)) 0 (freed k log) y has sends its_too)

  same_stay : (x y : LogLine) → Contains (matched log) x → Contains (matched (freed k log)) y → IsAlike (matched log) (stream_at log) f.stream k x y
      → stays (fate_of (matched log) x) ≡ stays (fate_of (matched (freed k log)) y)
  same_stay x y has there alike = go (x.entry.stream == f.stream) refl
    where
      go : (its : Bool) → (x.entry.stream == f.stream) ≡ its → stays (fate_of (matched log) x) ≡ stays (fate_of (matched (freed k log)) y)
      go true g = let its = eqb-true x.entry.stream f.stream g in stays_before x has its ∙ sym (stays_after x y alike there its)
      go false g =
          ap stays
          (sym (fate_of_alike (matched log) (stream_at log) f.stream k q p (matched log) (matched (freed k log)) x y matched_alike alone_lines alike
          (All-contains (λ (l : LogLine). IsAlone f.stream q p l.entry) (matched log) x alone_lines has) (eqb-false x.entry.stream f.stream g)))

  pub kept_alike : AreAlike (matched log) (stream_at log) f.stream k (kept log) (kept (freed k log))
  kept_alike =
      filter_alike (matched log) (stream_at log) f.stream k q p (λ x. stays (fate_of (matched log) x)) (λ y. stays (fate_of (matched (freed k log)) y)) (matched log) (matched (freed k log)) matched_alike same_stay

  -- a line that takes a send of the stream is the receiver's
  receives_at : (x : LogLine) → Contains (matched log) x → x.entry.stream ≡ f.stream → (is_send x.entry.kind ≡ true → ⊥) → x.entry.host ≡ p
  receives_at x has its no_send =
      let here = All-contains (λ (l : LogLine). IsAlone f.stream q p l.entry) (matched log) x alone_lines has in
      go (is_send x.entry.kind) refl (here.receiver its)
    where
      go : (sends : Bool) → is_send x.entry.kind ≡ sends → cond sends x.entry.peer x.entry.host ≡ p → x.entry.host ≡ p
      go true g e = absurd (no_send g)
      go false g e = e

  is_left : (x y : LogLine) → Contains (matched log) x → IsAlike (matched log) (stream_at log) f.stream k x y → IsLeft (kept log) p k x y
  is_left x y has alike = record {
    number = alike.number;
    host = alike.host;
    name = alike.name;
    other = λ differs. by_stream differs (x.entry.stream == f.stream) refl;
    shift = λ s takes_it. shifted s takes_it (x.entry.stream == f.stream) refl;
  }
    where
      by_stream : (x.entry.host ≡ p → ⊥) → (its : Bool) → (x.entry.stream == f.stream) ≡ its → y.send ≡ x.send
      by_stream differs true g = by_kind (is_send x.entry.kind) refl
        where
          by_kind : (sends : Bool) → is_send x.entry.kind ≡ sends → y.send ≡ x.send
          by_kind true h = let both = alike.none h in both.1 ∙ sym both.0
          by_kind false h = absurd (differs (receives_at x has (eqb-true x.entry.stream f.stream g) (λ e. false≢true (sym h ∙ e))))
      by_stream differs false g = alike.other (eqb-false x.entry.stream f.stream g)

      shifted : (s : ℕ) → y.send ≡ Some s → (its : Bool) → (x.entry.stream == f.stream) ≡ its → (x.send ≡ Some s) ⊎ IsEarlier (kept log) p k x s
      shifted s takes_it false g = inl (sym (alike.other (eqb-false x.entry.stream f.stream g)) ∙ takes_it)
      shifted s takes_it true g = by_shift (alike.shift s takes_it)
        where
          by_shift : (x.send ≡ Some s) ⊎ IsTaken (matched log) f.stream k x.number s → (x.send ≡ Some s) ⊎ IsEarlier (kept log) p k x s
          by_shift (inl same) = inl same
          by_shift (inr w) =
              let z = alike_of (matched log) (stream_at log) f.stream k q p (matched log) (matched (freed k log)) w.line matched_alike w.among in
              inr record {
                line = w.line;
                among = filter_in (λ l. stays (fate_of (matched log) l)) (matched log) w.line w.among (stays_before w.line w.among w.stream);
                own = receives_at x has (eqb-true x.entry.stream f.stream g) (λ sends. absurd (let none = (alike.none sends).1 in let e = sym none ∙ takes_it in cc e));
                host = receives_at w.line w.among w.stream (λ sends. absurd (let none = (z.2.none sends).0 in let e = sym none ∙ w.takes_it in cc e));
                low = w.low;
                high = w.high;
                takes_it = w.takes_it;
              }

  pub left_to : (x : LogLine) → Contains (kept log) x → (y : LogLine) × Contains (kept (freed k log)) y × IsLeft (kept log) p k x y
  left_to x has =
      let w = alike_of (matched log) (stream_at log) f.stream k q p (kept log) (kept (freed k log)) x kept_alike has in
      (w.0, w.1, is_left x w.0 (in_filter (λ l. stays (fate_of (matched log) l)) (matched log) x has) w.2)

  pub left_back : (y : LogLine) → Contains (kept (freed k log)) y → (x : LogLine) × Contains (kept log) x × IsLeft (kept log) p k x y
  left_back y has =
      let w = alike_back (matched log) (stream_at log) f.stream k q p (kept log) (kept (freed k log)) y kept_alike has in
      (w.0, w.1, is_left w.0 y (in_filter (λ l. stays (fate_of (matched log) l)) (matched log) w.0 w.1) w.2)
