-- The messages of one lane on the lines of its two hosts.
use Rattle.std.proofs.Common.{◌≡◌, ℕ, ◌+◌, ◌==◌, ◌&&◌, not, Bool, true, false, cond, List, [], ◌∷◌, ◌++◌, Some, map, refl, sym, ap, ap₂, ◌∙◌, arith, eqb-true, eq-eqb}
use Rattle.std.specs.List.{flat_map}
use Rattle.std.proofs.lemmas.List.{append-nil}
use Rattle.log_chart.specs.Begun.{behind, heads, heads_to}
use Rattle.log_chart.specs.Entries.{is_send}
use Rattle.log_chart.specs.Fates.{is_on}
use Rattle.log_chart.specs.Items.{received_message, invented, items_by, heads_in, items_of}
use Rattle.log_chart.specs.Laws.{sent_to, received_from}
use Rattle.log_chart.specs.declared.begun.Begun.{Begun}
use Rattle.log_chart.specs.declared.item.Item.{Item}
use Rattle.log_chart.specs.declared.item.MessageNo.{MessageNo}
use Rattle.log_chart.specs.declared.item.MessageNo.TheVariants.{Sent, Begun as BegunMessage}
use Rattle.log_chart.specs.declared.matching.LogLine.{LogLine}
use Rattle.log_chart.specs.declared.name_order.HostName.{HostName}
use Rattle.log_chart.proofs.LaneLists.{Taking}
use Rattle.log_chart.proofs.BegunLanes.{behind_lane, sent_messages, received_messages}
use Rattle.log_chart.proofs.LogLanes.{LineFits, Fits, sends_on, takes_on}
use Rattle.log_chart.proofs.GivenLanes.{given_on, GivenFits, behind_on}
use Rattle.log_chart.proofs.NameOrderLemmas.{times}

sent-append : (p : ℕ) (xs ys : List Item) → sent_to p (xs ++ ys) ≡ sent_to p xs ++ sent_to p ys
sent-append p [] ys = refl
sent-append p (i ∷ xs) ys = go (i.sends && i.partner == p) (sent-append p xs ys)
  where
    go : (its : Bool) → sent_to p (xs ++ ys) ≡ sent_to p xs ++ sent_to p ys → cond its (i.message ∷ sent_to p (xs ++ ys)) (sent_to p (xs ++ ys)) ≡ cond its (i.message ∷ sent_to p xs) (sent_to p xs) ++ sent_to p ys
    go true rest = ap (λ l. i.message ∷ l) rest
    go false rest = rest

received-append : (q : ℕ) (xs ys : List Item) → received_from q (xs ++ ys) ≡ received_from q xs ++ received_from q ys
received-append q [] ys = refl
received-append q (i ∷ xs) ys = go (not i.sends && i.partner == q) (received-append q xs ys)
  where
    go : (its : Bool) → received_from q (xs ++ ys) ≡ received_from q xs ++ received_from q ys
        → cond its (i.message ∷ received_from q (xs ++ ys)) (received_from q (xs ++ ys)) ≡ cond its (i.message ∷ received_from q xs) (received_from q xs) ++ received_from q ys
    go true rest = ap (λ l. i.message ∷ l) rest
    go false rest = rest

-- invented sends
sent_invented : (p r : ℕ) (numbers : List ℕ) → r ≡ p → sent_to p (map (invented r) numbers) ≡ map BegunMessage numbers
sent_invented p r [] same = refl
sent_invented p r (n ∷ numbers) same = rw (eq-eqb r p same) (ap (λ l. BegunMessage n ∷ l) (sent_invented p r numbers same))

none_sent : (p r : ℕ) (numbers : List ℕ) → (r == p) ≡ false → sent_to p (map (invented r) numbers) ≡ []
none_sent p r [] other = refl
none_sent p r (n ∷ numbers) other = rw other (none_sent p r numbers other)

none_received : (q r : ℕ) (numbers : List ℕ) → received_from q (map (invented r) numbers) ≡ []
none_received q r [] = refl
none_received q r (n ∷ numbers) = none_received q r numbers

heads_other : (p : ℕ) (given : List Begun) (hosts : List HostName) → times p hosts ≡ 0 → sent_to p (heads_in given hosts) ≡ []
unfolding heads_in
heads_other p given [] none = refl
heads_other p given (x ∷ hosts) none = sent-append p (map (invented x.host) (heads_to given x.host)) (heads_in given hosts) ∙ go (x.host == p) refl none (λ zero_is. heads_other p given hosts zero_is)
  where
    go : (its : Bool) → (x.host == p) ≡ its → cond its 1 0 + times p hosts ≡ 0 → (times p hosts ≡ 0 → sent_to p (heads_in given hosts) ≡ [])
        → sent_to p (map (invented x.host) (heads_to given x.host)) ++ sent_to p (heads_in given hosts) ≡ []
    go true e n rest = absurd (omega (arith, n))
    go false e n rest = ap₂ (λ (a b : List MessageNo). a ++ b) (none_sent p x.host (heads_to given x.host) e) (rest (omega (arith, n)))

heads_sent : (p : ℕ) (given : List Begun) (hosts : List HostName) → times p hosts ≡ 1 → sent_to p (heads_in given hosts) ≡ map BegunMessage (heads_to given p)
unfolding heads_in
heads_sent p given [] once = absurd (omega (arith, once))
heads_sent p given (x ∷ hosts) once = sent-append p (map (invented x.host) (heads_to given x.host)) (heads_in given hosts) ∙ go (x.host == p) refl once (λ one. heads_sent p given hosts one)
  where
    go : (its : Bool) → (x.host == p) ≡ its → cond its 1 0 + times p hosts ≡ 1 → (times p hosts ≡ 1 → sent_to p (heads_in given hosts) ≡ map BegunMessage (heads_to given p))
        → sent_to p (map (invented x.host) (heads_to given x.host)) ++ sent_to p (heads_in given hosts) ≡ map BegunMessage (heads_to given p)
    go true e n rest =
        let same = eqb-true x.host p e in
        ap₂ (λ (a b : List MessageNo). a ++ b) (sent_invented p x.host (heads_to given x.host) same ∙ ap (λ y. map BegunMessage (heads_to given y)) same) (heads_other p given hosts (omega (arith, n)))
        ∙ append-nil (map BegunMessage (heads_to given p))
    go false e n rest = ap₂ (λ (a b : List MessageNo). a ++ b) (none_sent p x.host (heads_to given x.host) e) (rest (omega (arith, n)))

heads_received : (q : ℕ) (given : List Begun) (hosts : List HostName) → received_from q (heads_in given hosts) ≡ []
unfolding heads_in
heads_received q given [] = refl
heads_received q given (x ∷ hosts) =
    received-append q (map (invented x.host) (heads_to given x.host)) (heads_in given hosts) ∙ ap₂ (λ (a b : List MessageNo). a ++ b) (none_received q x.host (heads_to given x.host)) (heads_received q given hosts)

-- what a line of the log adds to a host's line
module _ (from to : ℕ → ℕ) (q p : ℕ) (given : List Begun) (given_fit : GivenFits from to given) where
  lane_given : List Taking
  lane_given = given_on q p given

  sent_by : (x : LogLine) → LineFits from to x → (its : Bool) → (is_send x.entry.kind && is_on q p x) ≡ its
      → sent_to p (items_by given q x) ≡ cond its (Sent x.number ∷ map BegunMessage (behind_lane (Some x.number) (given_on q p given))) []
  sent_by x fits its e = go (is_send x.entry.kind) refl (x.entry.host == q) refl (x.entry.peer == p) refl its e
    where
      go : (sends : Bool) → is_send x.entry.kind ≡ sends → (own : Bool) → (x.entry.host == q) ≡ own → (its_peer : Bool) → (x.entry.peer == p) ≡ its_peer
          → (on : Bool) → (sends && (cond sends x.entry.host x.entry.peer == q && cond sends x.entry.peer x.entry.host == p)) ≡ on
          → sent_to p (cond own (record { sends = sends; partner = x.entry.peer; message = cond sends (Sent x.number) (received_message x.number x.send); line = Some x.number }
          ∷ cond sends (map (invented x.entry.peer) (behind given x.number)) []) []) ≡ cond on (Sent x.number ∷ map BegunMessage (behind_lane (Some x.number) (given_on q p given))) []
      go true s true o true i on f =
          let it : on ≡ true = sym f ∙ ap₂ (λ a b. a && b) o i in
          let sender : from x.number ≡ q = sym fits.sender ∙ ap (λ b. cond b x.entry.host x.entry.peer) s ∙ eqb-true x.entry.host q o in
          let receiver : to x.number ≡ p = sym fits.receiver ∙ ap (λ b. cond b x.entry.peer x.entry.host) s ∙ eqb-true x.entry.peer p i in
          rw (it, i) (ap (λ l. Sent x.number ∷ l) (sent_invented p x.entry.peer (behind given x.number) (eqb-true x.entry.peer p i) ∙ ap (map BegunMessage) (behind_on from to q p x.number sender receiver given given_fit)))
      go true s true o false i on f =
          let it : on ≡ false = sym f ∙ ap₂ (λ a b. a && b) o i in
          rw (it, i) (none_sent p x.entry.peer (behind given x.number) i)
      go true s false o peer i on f = let it : on ≡ false = sym f ∙ ap (λ a. a && x.entry.peer == p) o in rw it refl
      go false s true o peer i on f = let it : on ≡ false = sym f in rw it refl
      go false s false o peer i on f = let it : on ≡ false = sym f in rw it refl

  pub lines_sent : (lines : List LogLine) → Fits from to lines → sent_to p (flat_map (items_by given q) lines) ≡ sent_messages (given_on q p given) (sends_on q p lines)
  lines_sent [] fits = refl
  lines_sent (x ∷ lines) fits =
      sent-append p (items_by given q x) (flat_map (items_by given q) lines) ∙ go (is_send x.entry.kind && is_on q p x) refl (lines_sent lines fits.1)
    where
      go : (its : Bool) → (is_send x.entry.kind && is_on q p x) ≡ its → sent_to p (flat_map (items_by given q) lines) ≡ sent_messages (given_on q p given) (sends_on q p lines)
          → sent_to p (items_by given q x) ++ sent_to p (flat_map (items_by given q) lines) ≡ sent_messages (given_on q p given) (cond its (x.number ∷ sends_on q p lines) (sends_on q p lines))
      go true e rest = ap₂ (λ (a b : List MessageNo). a ++ b) (sent_by x fits.0 true e) rest
      go false e rest = ap₂ (λ (a b : List MessageNo). a ++ b) (sent_by x fits.0 false e) rest

received_by : (q p : ℕ) (given : List Begun) (x : LogLine) (its : Bool) → (not (is_send x.entry.kind) && is_on q p x) ≡ its
    → received_from q (items_by given p x) ≡ cond its (received_message x.number x.send ∷ []) []
received_by q p given x its e = go (is_send x.entry.kind) (x.entry.host == p) (x.entry.peer == q) refl its e refl
  where
    both : (a b : Bool) → (a && b) ≡ (b && a)
    both true true = refl
    both true false = refl
    both false true = refl
    both false false = refl

    go : (sends own peer : Bool) → (x.entry.peer == q) ≡ peer → (on : Bool) → (not sends && (cond sends x.entry.host x.entry.peer == q && cond sends x.entry.peer x.entry.host == p)) ≡ on
        → (x.entry.host == p) ≡ own
        → received_from q (cond own (record { sends = sends; partner = x.entry.peer; message = cond sends (Sent x.number) (received_message x.number x.send); line = Some x.number }
        ∷ cond sends (map (invented x.entry.peer) (behind given x.number)) []) []) ≡ cond on (received_message x.number x.send ∷ []) []
    go true true peer i on f o = let it : on ≡ false = sym f in rw it (none_received q x.entry.peer (behind given x.number))
    go true false peer i on f o = let it : on ≡ false = sym f in rw it refl
    go false true true i on f o = let it : on ≡ true = sym f ∙ ap₂ (λ a b. a && b) i o in rw (it, i) refl
    go false true false i on f o = let it : on ≡ false = sym f ∙ ap₂ (λ a b. a && b) i o in rw (it, i) refl
    go false false peer i on f o = let it : on ≡ false = sym f ∙ ap₂ (λ a b. a && b) i o ∙ both peer false in rw it refl

pub lines_received : (q p : ℕ) (given : List Begun) (lines : List LogLine) → received_from q (flat_map (items_by given p) lines) ≡ received_messages (takes_on q p lines)
lines_received q p given [] = refl
lines_received q p given (x ∷ lines) =
    received-append q (items_by given p x) (flat_map (items_by given p) lines) ∙ go (not (is_send x.entry.kind) && is_on q p x) refl (lines_received q p given lines)
  where
    go : (its : Bool) → (not (is_send x.entry.kind) && is_on q p x) ≡ its → received_from q (flat_map (items_by given p) lines) ≡ received_messages (takes_on q p lines)
        → received_from q (items_by given p x) ++ received_from q (flat_map (items_by given p) lines) ≡ received_messages (cond its (record { number = x.number; send = x.send } ∷ takes_on q p lines) (takes_on q p lines))
    go true e rest = ap₂ (λ (a b : List MessageNo). a ++ b) (received_by q p given x true e) rest
    go false e rest = ap₂ (λ (a b : List MessageNo). a ++ b) (received_by q p given x false e) rest

-- a lane's messages on the line of its sender and on that of its receiver
pub line_sent : (from to : ℕ → ℕ) (hosts : List HostName) (lines : List LogLine) (given : List Begun) (q p : ℕ) → times p hosts ≡ 1 → Fits from to lines → GivenFits from to given
    → sent_to p (items_of hosts lines given q) ≡ map BegunMessage (heads_to (heads given q) p) ++ sent_messages (given_on q p given) (sends_on q p lines)
unfolding items_of
line_sent from to hosts lines given q p once fits given_fit =
    sent-append p (heads_in (heads given q) hosts) (flat_map (items_by given q) lines)
    ∙ ap₂ (λ (a b : List MessageNo). a ++ b) (heads_sent p (heads given q) hosts once) (lines_sent from to q p given given_fit lines fits)

pub line_received : (hosts : List HostName) (lines : List LogLine) (given : List Begun) (q p : ℕ) → received_from q (items_of hosts lines given p) ≡ received_messages (takes_on q p lines)
unfolding items_of
line_received hosts lines given q p =
    received-append q (heads_in (heads given p) hosts) (flat_map (items_by given p) lines)
    ∙ ap₂ (λ (a b : List MessageNo). a ++ b) (heads_received q (heads given p) hosts) (lines_received q p given lines)
