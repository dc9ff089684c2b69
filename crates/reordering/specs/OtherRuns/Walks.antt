-- The events that have to come when a receive comes first, found by a walk from a history's newest event to its oldest;
-- and the history with these events first (this project's own).
use Rattle.std.specs.Prelude.{ℕ, ◌+◌, ◌-◌, max, nat_lt, Bool, false, ◌||◌, ◌==◌, List, [], ◌∷◌, ◌++◌, length, if◌then◌else◌}
use Rattle.chart.specs.declared.history.Occurrence.{Occurrence}
use Rattle.chart.specs.declared.history.Occurrence.TheVariants.{Send, Receive, Close}
use Rattle.chart.specs.Histories.{is_lane, sent, received}

-- a number for each lane, by sender and receiver
abbrev pub Turns : Type 0
Turns = ℕ → ℕ → ℕ

-- how many messages were sent on each lane
abbrev pub sends_in : List Occurrence → Turns
sends_in h q p = length (sent h q p)

pub record Wanted : Type 0 where
  pub sends : Turns
  pub receives : Turns
  pub all : ℕ → Bool

-- the numbers, with that of one lane at least t
abbrev pub raise : Turns → ℕ → ℕ → ℕ → Turns
raise w a b t q p = if is_lane a b q p then max (w q p) t else w q p

-- a wanted send: with it all older events of its line, and the receive that frees its slot
abbrev pub with_send : ℕ → List Occurrence → ℕ → ℕ → Wanted → Wanted
with_send k h a b w = record {
  sends = raise w.sends a b (length (sent h a b) + 1);
  receives = raise w.receives a b (length (sent h a b) + 1 - k);
  all = λ p. (a == p) || w.all p;
}

-- a wanted receive: with it its send
abbrev pub with_receive : List Occurrence → ℕ → ℕ → Wanted → Wanted
with_receive h a b w = record {
  sends = raise w.sends b a (received h b a + 1);
  receives = raise w.receives b a (received h b a + 1);
  all = w.all;
}

-- the send, or the receive, that comes after h is wanted
abbrev pub wants_send : List Occurrence → ℕ → ℕ → Wanted → Bool
wants_send h a b w = w.all a || nat_lt (length (sent h a b)) (w.sends a b)

abbrev pub wants_receive : List Occurrence → ℕ → ℕ → Wanted → Bool
wants_receive h a b w = w.all a || nat_lt (received h b a) (w.receives b a)

-- one event, after the history h
abbrev pub step : ℕ → List Occurrence → Occurrence → Wanted → Wanted
step k h (Send a b m) w = if wants_send h a b w then with_send k h a b w else w
step k h (Receive a b c) w = if wants_receive h a b w then with_receive h a b w else w
step k h (Close a b) w = w

-- all events
abbrev pub wanted : ℕ → List Occurrence → Wanted → Wanted
wanted k [] w = w
wanted k (x ∷ h) w = wanted k h (step k h x w)

-- what is wanted for one receive, with its send
abbrev pub first_wanted : ℕ → ℕ → ℕ → Wanted
first_wanted q p t = record {
  sends = raise (λ a b. 0) q p t;
  receives = raise (λ a b. 0) q p t;
  all = λ a. false;
}

-- the first sends and receives of each lane, as many as s and r
abbrev pub inner : Turns → Turns → List Occurrence → List Occurrence
inner s r [] = []
inner s r (Send a b m ∷ h) = if nat_lt (length (sent h a b)) (s a b) then Send a b m ∷ inner s r h else inner s r h
inner s r (Receive a b c ∷ h) = if nat_lt (received h b a) (r b a) then Receive a b 0 ∷ inner s r h else inner s r h
inner s r (Close a b ∷ h) = inner s r h

-- the other sends and receives
abbrev pub outer : Turns → Turns → List Occurrence → List Occurrence
outer s r [] = []
outer s r (Send a b m ∷ h) = if nat_lt (length (sent h a b)) (s a b) then outer s r h else Send a b m ∷ outer s r h
outer s r (Receive a b c ∷ h) = if nat_lt (received h b a) (r b a) then outer s r h else Receive a b 0 ∷ outer s r h
outer s r (Close a b ∷ h) = outer s r h

-- the second part, after the first
abbrev pub parted : Turns → Turns → List Occurrence → List Occurrence → List Occurrence
parted s r h g = outer s r h ++ inner s r g
