-- The patterns that receives would have taken are ordered by the numbers of their lines, which count messages from one
-- host to another.
use Rattle.std.proofs.Common.{◌≡◌, ℕ, ◌+◌, ◌<◌, ◌≤◌, Bool, true, false, cond, List, [], ◌∷◌, ◌++◌, length, map, refl, arith}
use Rattle.std.specs.Prelude.{All, AllPairs, bytes_eq}
use Rattle.std.proofs.lemmas.List.Elements.{All-nil, All-cons, All-head, All-tail, All-append, All-weaker}
use Rattle.std.proofs.lemmas.List.Kept.{AllPairs-cons}
use Rattle.log_lines.specs.Events.{LoggedEventView}
use Rattle.log_lines.specs.Plain.{line_by, directed, direction_of, behind_preposition, id_in}
use Rattle.log_lines.specs.PlainReading.{plain_line, plain_read}
use Rattle.log_lines.specs.Reading.{ReadView, nothing_read, with_line, is_within, all_lines, with_lines as read_lines, with_texts as read_texts}
use Rattle.log_lines.specs.Words.{words_of}
use Rattle.log_lines.specs.declared.event.Act.TheVariants.{Send, Receive}
use Rattle.log_lines.specs.declared.event.Place.{Place}
use Rattle.log_lines.specs.declared.plain.Direction.{Direction}
use Rattle.log_lines.specs.declared.plain.Direction.TheVariants.{Sends, Receives, Arrives, Unknown}
use Rattle.log_lines.specs.declared.range.LineRange.{LineRange}
use Rattle.log_lines.specs.Names.Hosts.{PeerView, host_of}
use Rattle.race_verdicts.specs.Recordings.{PatternView, TakenView}
use Rattle.log_lines.specs.Takes.Messages.{between}
use Rattle.log_lines.specs.Takes.Patterns.{patterns_of}
use Rattle.log_lines.specs.Takes.Observations.{ObservationsView, no_observations, behind_id, taken_at, with_patterns, with_act, with_words, has_misspelled, with_misspelled, with_spelling, with_lines, with_texts, observed_in}
use Rattle.log_lines.proofs.TakesLemmas.CountLemmas.{between_one}

-- the lines are at least m, and rising
abbrev IsRising : ℕ → List TakenView → Type 0
IsRising m [] = Unit {0}
IsRising m (x ∷ xs) = (m ≤ x.line) × IsRising x.line xs

rising_from : (m n : ℕ) (xs : List TakenView) → m ≤ n → IsRising n xs → IsRising m xs
rising_from m n [] up rising = tt
rising_from m n (x ∷ xs) up (first, rest) = (omega (arith, up, first), rest)

rising_append : (m n : ℕ) (xs ys : List TakenView) → m ≤ n → IsRising m xs → All (λ x. x.line ≤ n) xs → IsRising n ys → IsRising m (xs ++ ys)
rising_append m n [] ys up rising all more = rising_from m n ys up more
rising_append m n (x ∷ xs) ys up (first, rest) all more =
    (first, rising_append x.line n xs ys (All-head (λ (x : TakenView). x.line ≤ n) x xs all) rest (All-tail (λ (x : TakenView). x.line ≤ n) x xs all) more)

rising_at : (n : ℕ) (patterns : List PatternView) → IsRising n (map (taken_at n) patterns)
rising_at n [] = tt
rising_at n (p ∷ patterns) = (omega arith, rising_at n patterns)

rising_all : (m : ℕ) (xs : List TakenView) → IsRising m xs → All (λ x. m ≤ x.line) xs
rising_all m [] rising = All-nil (λ (x : TakenView). m ≤ x.line)
rising_all m (x ∷ xs) (first, rest) = All-cons (λ (x : TakenView). m ≤ x.line) x xs first (rising_all m xs (rising_from m x.line xs first rest))

rising_pairs : (m : ℕ) (xs : List TakenView) → IsRising m xs → AllPairs (λ a b. a.line ≤ b.line) xs
rising_pairs m [] rising = λ i j d before within. absurd (omega (arith, within))
rising_pairs m (x ∷ xs) (first, rest) = AllPairs-cons (λ (a b : TakenView). a.line ≤ b.line) x xs (rising_all x.line xs rest) (rising_pairs x.line xs rest)

below_at : (n : ℕ) (patterns : List PatternView) → All (λ x. x.line < n + 1) (map (taken_at n) patterns)
below_at n [] = All-nil (λ (x : TakenView). x.line < n + 1)
below_at n (p ∷ patterns) = All-cons (λ (x : TakenView). x.line < n + 1) (taken_at n p) (map (taken_at n) patterns) (omega arith) (below_at n patterns)

-- the observations count these events, and the patterns are ordered by the numbers of their lines
pub record AreObserved (peers : List PeerView) (logged : List LoggedEventView) (t : ObservationsView) : Type 0 where
  pub count : t.lines ≡ length (between peers logged)
  pub rising : IsRising 0 t.taken
  pub below : All (λ x. x.line < t.lines) t.taken

pub message_observed : (own : Bool) (peers : List PeerView) (logged : List LoggedEventView) (s : LoggedEventView) (patterns : List PatternView) (t : ObservationsView) → AreObserved peers logged t
    → bytes_eq (host_of peers s.event.host) (host_of peers s.event.peer) ≡ own → AreObserved peers (logged ++ s ∷ []) (cond own t (record (with_patterns patterns t) { lines = t.lines + 1 }))
message_observed true peers logged s patterns t observed is =
    let same = between_one true peers logged s is in
    let count = observed.count in
    record { count = omega (arith, same, count); rising = observed.rising; below = observed.below }
message_observed false peers logged s patterns t observed is =
    let longer = between_one false peers logged s is in
    let count = observed.count in
    record {
      count = omega (arith, longer, count);
      rising =
          rising_append 0 t.lines t.taken (map (taken_at t.lines) patterns) (omega arith) observed.rising
          (All-weaker (λ (x : TakenView). x.line < t.lines) (λ (x : TakenView). x.line ≤ t.lines) (λ x its. omega (arith, its)) t.taken observed.below) (rising_at t.lines patterns);
      below =
          All-append (λ (x : TakenView). x.line < t.lines + 1) t.taken (map (taken_at t.lines) patterns)
          (All-weaker (λ (x : TakenView). x.line < t.lines) (λ (x : TakenView). x.line < t.lines + 1) (λ x its. omega (arith, its)) t.taken observed.below) (below_at t.lines patterns);
    }

act_observed : (peers : List PeerView) (host : List ℕ) (d : Direction) (words : List (List ℕ)) (place : Place) (r : ReadView) (t : ObservationsView) → AreObserved peers r.logged t
    → AreObserved peers (with_line place (directed host d words) r).logged (with_act peers host d words t)
act_observed peers host Sends [] place r t observed = observed
act_observed peers host Sends (peer ∷ []) place r t observed = observed
act_observed peers host Sends (peer ∷ name ∷ words) place r t observed =
    message_observed (bytes_eq (host_of peers host) (host_of peers peer)) peers r.logged
    (record { event = record { host = host; act = Send; peer = peer; name = name; id = id_in words }; place = place }) [] t observed refl
act_observed peers host Receives [] place r t observed = observed
act_observed peers host Receives (peer ∷ []) place r t observed = observed
act_observed peers host Receives (peer ∷ name ∷ words) place r t observed =
    message_observed (bytes_eq (host_of peers host) (host_of peers peer)) peers r.logged
    (record { event = record { host = host; act = Receive; peer = peer; name = name; id = id_in words }; place = place }) (patterns_of peers (behind_id words)) t observed refl
act_observed peers host Arrives [] place r t observed = observed
act_observed peers host Arrives (peer ∷ []) place r t observed = observed
act_observed peers host Arrives (peer ∷ name ∷ words) place r t observed = record { count = observed.count; rising = observed.rising; below = observed.below }
act_observed peers host Unknown [] place r t observed = observed
act_observed peers host Unknown (peer ∷ []) place r t observed = observed
act_observed peers host Unknown (peer ∷ name ∷ words) place r t observed = observed

words_observed : (peers : List PeerView) (words : List (List ℕ)) (place : Place) (r : ReadView) (t : ObservationsView) → AreObserved peers r.logged t
    → AreObserved peers (with_line place (line_by words) r).logged (with_words peers words t)
unfolding line_by with_words
words_observed peers [] place r t observed = observed
words_observed peers (host ∷ []) place r t observed = observed
words_observed peers (host ∷ dir ∷ words) place r t observed = act_observed peers host (direction_of dir) (behind_preposition words) place r t observed

-- a misspelled word changes none of this
spelling_observed : (peers : List PeerView) (place : Place) (words : List (List ℕ)) (logged : List LoggedEventView) (t : ObservationsView) → AreObserved peers logged t
    → AreObserved peers logged (with_spelling place words t)
spelling_observed peers place words logged t observed = go (has_misspelled words)
  where
    go : (misspelled : Bool) → AreObserved peers logged (cond misspelled (with_misspelled place t) t)
    go true = record { count = observed.count; rising = observed.rising; below = observed.below }
    go false = observed

lines_observed : (peers : List PeerView) (range : LineRange) (text n : ℕ) (lines : List (List ℕ)) (r : ReadView) (t : ObservationsView) → AreObserved peers r.logged t
    → AreObserved peers (read_lines plain_line range text n lines r).logged (with_lines peers range text n lines t)
unfolding plain_line
lines_observed peers range text n [] r t observed = observed
lines_observed peers range text n (line ∷ lines) r t observed = lines_observed peers range text (n + 1) lines _ _ (go (is_within range n))
  where
    go : (within : Bool)
        → AreObserved peers (cond within (with_line (record { text = text; line = n }) (line_by (words_of line)) r) r).logged
        (cond within (with_spelling (record { text = text; line = n }) (words_of line) (with_words peers (words_of line) t)) t)
    go true = spelling_observed peers (record { text = text; line = n }) (words_of line) _ _ (words_observed peers (words_of line) (record { text = text; line = n }) r t observed)
    go false = observed

texts_observed : (peers : List PeerView) (range : LineRange) (n : ℕ) (texts : List (List ℕ)) (r : ReadView) (t : ObservationsView) → AreObserved peers r.logged t
    → AreObserved peers (read_texts plain_line range n texts r).logged (with_texts peers range n texts t)
texts_observed peers range n [] r t observed = observed
texts_observed peers range n (text ∷ texts) r t observed = texts_observed peers range (n + 1) texts _ _ (lines_observed peers range n 1 (all_lines text) r t observed)

pub none_observed : (peers : List PeerView) → AreObserved peers [] no_observations
none_observed peers = record { count = refl; rising = tt; below = All-nil (λ (x : TakenView). x.line < 0) }

-- the patterns are ordered by the lines of messages
pub pairs_observed : (peers : List PeerView) (logged : List LoggedEventView) (t : ObservationsView) → AreObserved peers logged t → AllPairs (λ a b. a.line ≤ b.line) t.taken
pairs_observed peers logged t observed = rising_pairs 0 t.taken observed.rising

pub are_observed : (peers : List PeerView) (range : LineRange) (texts : List (List ℕ)) → AreObserved peers (plain_read range texts).logged (observed_in peers range texts)
unfolding plain_read observed_in
are_observed peers range texts = texts_observed peers range 0 texts nothing_read no_observations (none_observed peers)

-- the patterns are ordered by the lines of the log
pub observed_pairs : (peers : List PeerView) (range : LineRange) (texts : List (List ℕ)) → AllPairs (λ a b. a.line ≤ b.line) (observed_in peers range texts).taken
observed_pairs peers range texts = pairs_observed peers (plain_read range texts).logged (observed_in peers range texts) (are_observed peers range texts)
