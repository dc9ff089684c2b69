-- What a schedule means: its commands, one after the other, over a history (this project's profile).
use Rattle.std.specs.Prelude.{ℕ, ◌+◌, Bool, ◌==◌, List, [], ◌∷◌, ◌++◌, length, find, fold, Option, None, Some, Result, Ok, Err, nat_lt, nat_le, if◌then◌else◌, All}
use Rattle.std.specs.List.{list_all}
use Rattle.chart.specs.declared.history.Occurrence.{Occurrence}
use Rattle.chart.specs.declared.history.Occurrence.TheVariants as events
use Rattle.chart.specs.declared.line.TheConstants.{MAX_EVENTS}
use Rattle.chart.specs.Events.{greatest_region}
use Rattle.chart.specs.Histories.{waiting, is_closed, chart_of, IsLegal}
use Rattle.chart.specs.Scans.{scan}
use Rattle.schedule.specs.declared.command.Action.{Action}
use Rattle.schedule.specs.declared.command.Action.TheVariants.{Send, Receive, Any, Close, Open, Shut}
use Rattle.schedule.specs.declared.command.Command.{Command}
use Rattle.schedule.specs.declared.command.Note.{Note}
use Rattle.schedule.specs.declared.command.Word.{Word}
use Rattle.schedule.specs.declared.command.Word.TheVariants as words
use Rattle.schedule.specs.Plans.{Plan, IsPlan, IsNumbered}

-- how far a schedule has come: the history; the instance from which each instance received last, 0 for none; and each
-- instance's open coregion, 0 for none
pub record Run : Type 0 where
  pub history : List Occurrence
  pub last : ℕ → ℕ
  pub region : ℕ → ℕ

-- the function with the value v at p
abbrev pub changed : (ℕ → ℕ) → ℕ → ℕ → ℕ → ℕ
changed f p v q = if q == p then v else f q

-- a message waits from q to p
abbrev pub has_waiting : List Occurrence → ℕ → ℕ → Bool
has_waiting h q p = nat_lt 0 (length (waiting h q p))

-- p's line has the most events that it may have
abbrev pub is_line_full : List Occurrence → ℕ → Bool
is_line_full h p = nat_le MAX_EVENTS (length (chart_of h p))

-- the run with one more occurrence
abbrev pub happens : Run → Occurrence → Run
happens r e = record { history = e ∷ r.history; last = r.last; region = r.region }

-- What each action does: how far the schedule then is, or the word of its note. The first cause decides.

abbrev pub sends : ℕ → Run → ℕ → ℕ → List ℕ → Result Run Word
sends k r p q name =
    if nat_lt 0 (r.region p) then Err words.InCoregion else (
    if is_closed r.history p q then Err words.Closed else (
    if is_line_full r.history p then Err words.LineFull else (
    if nat_le k (length (waiting r.history p q)) then Err words.Full else Ok
    (happens r (events.Send p q (record { name = name; body = [] }))))))

-- p receives from q, from which a message waits
abbrev pub takes : Run → ℕ → ℕ → Result Run Word
takes r p q =
    if is_line_full r.history p then Err words.LineFull else Ok
    (record { history = events.Receive p q (r.region p) ∷ r.history; last = changed r.last p q; region = r.region })

abbrev pub receives : Run → ℕ → ℕ → Result Run Word
receives r p q =
    if has_waiting r.history q p then takes r p q else (if is_closed r.history q p then Err words.Ended else Err
    words.Nothing)

-- the first instance in scan order from which a message waits
abbrev pub first_waiting : ℕ → Run → ℕ → Option ℕ
first_waiting n r p = find (λ q. has_waiting r.history q p) (scan n p (r.last p))

-- each lane to p is closed
abbrev pub are_closed : ℕ → Run → ℕ → Bool
are_closed n r p = list_all (λ q. is_closed r.history q p) (scan n p 0)

abbrev pub receives_any : ℕ → Run → ℕ → Option ℕ → Result Run Word
receives_any n r p (Some q) = takes r p q
receives_any n r p None = if are_closed n r p then Err words.Ended else Err words.Nothing

abbrev pub closes : Run → ℕ → ℕ → Result Run Word
closes r p q = if is_closed r.history p q then Err words.Closed else Ok (happens r (events.Close p q))

-- the number of a new coregion is one more than the greatest of the line
abbrev pub opens : Run → ℕ → Result Run Word
opens r p =
    if nat_lt 0 (r.region p) then Err words.Open else Ok (record {
      history = r.history;
      last = r.last;
      region = changed r.region p (greatest_region (chart_of r.history p) + 1);
    })

abbrev pub shuts : Run → ℕ → Result Run Word
shuts r p =
    if nat_lt 0 (r.region p) then Ok (record { history = r.history; last = r.last; region = changed r.region p 0 }) else
    Err words.NotOpen

-- what an action does among n instances with lanes of k slots
abbrev pub acts : ℕ → ℕ → Run → ℕ → Action → Result Run Word
acts n k r p (Send q name) = sends k r p q name
acts n k r p (Receive q) = receives r p q
acts n k r p Any = receives_any n r p (first_waiting n r p)
acts n k r p (Close q) = closes r p q
acts n k r p Open = opens r p
acts n k r p Shut = shuts r p

-- how far the schedule has come, and the notes so far, in the order of the commands
pub record State : Type 0 where
  pub run : Run
  pub notes : List Note

abbrev pub start : State
start = record { run = record { history = []; last = λ _. 0; region = λ _. 0 }; notes = [] }

abbrev pub noted : State → ℕ → Result Run Word → State
noted s line (Ok r) = record { run = r; notes = s.notes }
noted s line (Err word) = record { run = s.run; notes = s.notes ++ record { line = line; word = word } ∷ [] }

abbrev pub step : ℕ → ℕ → State → Command → State
step n k s command = noted s command.line (acts n k s.run command.actor command.action)

-- where these commands lead
abbrev pub after : ℕ → ℕ → List Command → State
after n k commands = fold (step n k) start commands

-- what a schedule means
abbrev pub meaning : Plan → State
meaning plan = after (length plan.names) plan.capacity plan.commands

-- whatever a schedule's commands are, their result is a legal history over lanes of its capacity
abbrev pub LegalLaw : Type 0
LegalLaw = (plan : Plan) → IsPlan plan → All IsNumbered plan.commands
    → IsLegal (length plan.names) plan.capacity (meaning plan).run.history
