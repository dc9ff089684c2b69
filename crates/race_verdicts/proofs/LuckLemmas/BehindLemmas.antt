-- Messages that are behind others of their lanes, from send to send backwards.
use Rattle.std.proofs.Common.{◌≡◌, ℕ, zero, ◌+◌, ◌<◌, ◌≤◌, ◌↔◌, inl, inr, Bool, true, false, List, Option, None, Some, length, get_or, refl, sym, ap, ◌∙◌, subst, arith}
use Rattle.std.specs.Prelude.{Contains, IsTrue, not}
use Rattle.std.proofs.lemmas.Bool.{cases_eq, cases_lt, false≢true, leb-true, le-leb}
use Rattle.std.proofs.lemmas.Option.{slice_get_within}
use Rattle.std.proofs.Math.Dec.{leb}
use Rattle.log_chart.specs.declared.item.MessageNo.{MessageNo}
use Rattle.log_chart.specs.declared.item.MessageNo.TheVariants as messages
use Rattle.log_chart.specs.declared.matching.LogLine.{LogLine}
use Rattle.race_verdicts.specs.Luck.Arrivals.{CameFirst}
use Rattle.race_verdicts.specs.Luck.Taking.{WouldTake}
use Rattle.race_verdicts.specs.Luck.Behind.{IsThere, WouldHaveTaken, IsBehind}
use Rattle.race_verdicts.specs.Luck.LaneTables.{IsOnLane, IsTakenOnLane, AreAbove, AreLaneTables}
use Rattle.race_verdicts.specs.Luck.LineTables.{Takes}
use Rattle.race_verdicts.specs.Luck.Recorded.{IsSendLine}
use Rattle.race_verdicts.specs.Luck.Tables.{IsFirst, IsLast}
use Rattle.race_verdicts.proofs.LuckLemmas.LogLemmas.{contained_get, line_at, number_within}
use Rattle.race_verdicts.proofs.LuckLemmas.TableLemmas.{some_same}
use Rattle.race_verdicts.specs.Recordings.{RecordingView}

-- the line that takes a message
module _ (rec : RecordingView) (takers above over : List (Option ℕ)) (are : AreLaneTables rec.lines takers above over) (k s : ℕ) (within : s < length rec.lines) where
  takes_at : (x : LogLine) → Contains rec.lines x → x.send ≡ Some s → Takes rec.lines s x.number
  takes_at x has is = record { line = x; is = line_at rec.lines are.log x has; send = is }

  pub there_some : (t : ℕ) → get_or takers s None ≡ Some t → IsTrue (leb k t) ↔ IsThere rec k s
  there_some t found =
      let first : IsFirst (Takes rec.lines s) (length rec.lines) (Some t) = subst (IsFirst (Takes rec.lines s) (length rec.lines)) found (are.taken.each s within) in (
        λ low. record {
          taker = first.1.line;
          among = contained_get rec.lines t first.1.line first.1.is;
          takes = first.1.send;
          late = λ x has is.
              let early = leb-true k t low in
              elim (cases_lt x.number t) [
                | inl less ↦ absurd (first.2 x.number less (takes_at x has is))
                | inr past ↦ omega arith
              ];
        },
        λ there.
            let its = there.late first.1.line (contained_get rec.lines t first.1.line first.1.is) first.1.send in
            le-leb k t (let number = are.log.numbered t first.1.line first.1.is in omega arith),
      )

  pub there_none : get_or takers s None ≡ None → IsTrue false ↔ IsThere rec k s
  there_none none =
      let first : IsFirst (Takes rec.lines s) (length rec.lines) None = subst (IsFirst (Takes rec.lines s) (length rec.lines)) none (are.taken.each s within) in
      (λ yes. absurd (false≢true yes), λ there. absurd (first there.taker.number (number_within rec.lines are.log there.taker there.among) (takes_at there.taker there.among there.takes)))

  pub is_over : (t : ℕ) → get_or over s None ≡ Some t → t < k → (q p o : ℕ) → IsOnLane rec.lines q p s → o ≤ s → IsOnLane rec.lines q p o → IsThere rec k o → ⊥
  is_over t found less q p o its low other there =
      let of_taker : Takes rec.lines o there.taker.number = record { line = there.taker; is = line_at rec.lines are.log there.taker there.among; send = there.takes } in
      let taken = are.past.each s within t q p found its o low (record { on = other; taker = there.taker.number; takes = of_taker }) in
      let late = there.late taken.takes.line (contained_get rec.lines taken.taker taken.takes.line taken.takes.is) taken.takes.send in
      let number = are.log.numbered taken.taker taken.takes.line taken.takes.is in
      let early = taken.early in
      absurd (omega arith)

-- the sends of the lane from a bound on were visited, and the next one is the last before the bound that a line takes
pub record IsWalking (rec : RecordingView) (k : ℕ) (own : MessageNo) (s q p : ℕ) (next : Option ℕ) : Type 0 where
  pub bound : ℕ
  pub low : bound ≤ s
  pub last : IsLast (IsTakenOnLane rec.lines q p) bound next
  pub none : (o : ℕ) → bound ≤ o → o < s → IsOnLane rec.lines q p o → WouldHaveTaken rec k own o → ⊥

-- how far the walk may continue
abbrev pub left_before : Option ℕ → ℕ
left_before None = zero
left_before (Some n) = n + 1

module _ (rec : RecordingView) (takers above over : List (Option ℕ)) (are : AreLaneTables rec.lines takers above over) (k : ℕ) (own : MessageNo) (s : ℕ) where
  pub walk_begins : (q p : ℕ) → IsOnLane rec.lines q p s → IsWalking rec k own s q p (get_or above s None)
  walk_begins q p its = record {
    bound = s;
    low = omega arith;
    last = are.sends.each s q p its;
    none = λ o low less. absurd (omega arith);
  }

  -- a message that would have been taken is taken by some line
  taken_there : (q p o : ℕ) → IsOnLane rec.lines q p o → WouldHaveTaken rec k own o → IsTakenOnLane rec.lines q p o
  taken_there q p o on would =
      let there = would.there in
      record { on = on; taker = there.taker.number; takes = record { line = there.taker; is = line_at rec.lines are.log there.taker there.among; send = there.takes } }

  -- the next send is another one on the lane
  pub walk_within : (q p o : ℕ) → IsWalking rec k own s q p (Some o) → o < length rec.lines
  walk_within q p o walking = let its = walking.last.1.on in slice_get_within rec.lines o its.line its.is

  pub walk_goes : (q p o : ℕ) → IsWalking rec k own s q p (Some o) → (WouldHaveTaken rec k own o → ⊥) → IsWalking rec k own s q p (get_or above o None)
  walk_goes q p o walking not = record {
    bound = o;
    low = let below = walking.last.0 in let low = walking.low in omega arith;
    last = let its = walking.last.1 in are.sends.each o q p its.on;
    none = λ other low less its would.
        elim (cases_lt other walking.bound) [
          | inr past ↦ walking.none other past less its would
          | inl below ↦
              elim (cases_eq other o) [
                | inl same ↦ not (subst (WouldHaveTaken rec k own) same would)
                | inr differs ↦ walking.last.2 other (omega (arith, low, differs)) below (taken_there q p other its would)
              ]
        ];
  }

  -- no taken send of the lane is between the next one and the bound
  module _ (send : IsSendLine rec.lines s) where
    pub own_lane : IsOnLane rec.lines send.line.entry.host send.line.entry.peer s
    own_lane = record { line = send.line; is = send.is; sends = send.sends; sender = refl; receiver = refl }

    on_lane : (behind : IsBehind rec k own s) → IsOnLane rec.lines send.line.entry.host send.line.entry.peer behind.other
    on_lane behind =
        let sent = behind.sent in
        let same : sent.later ≡ send.line = some_same (sym sent.later_is ∙ send.is) in
        record {
          line = sent.line;
          is = sent.is;
          sends = sent.sends;
          sender = sent.sender ∙ ap (λ (l : LogLine). l.entry.host) same;
          receiver = sent.receiver ∙ ap (λ (l : LogLine). l.entry.peer) same;
        }

    pub walk_finds : (o : ℕ) → IsWalking rec k own s send.line.entry.host send.line.entry.peer (Some o) → WouldHaveTaken rec k own o → IsTrue true ↔ IsBehind rec k own s
    walk_finds o walking would = (
      λ yes. record {
        other = o;
        sent =
            let its = walking.last.1.on in
            record {
              line = its.line;
              is = its.is;
              later = send.line;
              later_is = send.is;
              sends = its.sends;
              sender = its.sender;
              receiver = its.receiver;
              before = let below = walking.last.0 in let low = walking.low in omega arith;
            };
        would = would;
      },
      λ behind. refl,
    )

    pub walk_over : (o : ℕ) → IsWalking rec k own s send.line.entry.host send.line.entry.peer (Some o)
        → ((q p b : ℕ) → IsOnLane rec.lines q p o → b ≤ o → IsOnLane rec.lines q p b → IsThere rec k b → ⊥) → IsTrue false ↔ IsBehind rec k own s
    walk_over o walking over_it = (
      λ yes. absurd (false≢true yes),
      λ behind.
          absurd
          (elim (cases_lt behind.other walking.bound) [
            | inr past ↦ let sent = behind.sent in walking.none behind.other past sent.before (on_lane behind) behind.would
            | inl below ↦
                elim (cases_lt o behind.other) [
                  | inl later ↦ walking.last.2 behind.other later below (taken_there send.line.entry.host send.line.entry.peer behind.other (on_lane behind) behind.would)
                  | inr low ↦ let would = behind.would in let at_o = walking.last.1 in over_it send.line.entry.host send.line.entry.peer behind.other at_o.on low (on_lane behind) would.there
                ]
          ]),
    )

    pub walk_ends : IsWalking rec k own s send.line.entry.host send.line.entry.peer None → IsTrue false ↔ IsBehind rec k own s
    walk_ends walking = (
      λ yes. absurd (false≢true yes),
      λ behind.
          absurd
          (elim (cases_lt behind.other walking.bound) [
            | inr past ↦ let sent = behind.sent in walking.none behind.other past sent.before (on_lane behind) behind.would
            | inl below ↦ walking.last behind.other below (taken_there send.line.entry.host send.line.entry.peer behind.other (on_lane behind) behind.would)
          ]),
    )

-- the send before another one has a smaller number
pub above_less : (lines : List LogLine) (above : List (Option ℕ)) → AreAbove lines above → (q p o : ℕ) → IsOnLane lines q p o → left_before (get_or above o None) < o + 1
above_less lines above are q p o its = go (get_or above o None) (are.each o q p its)
  where
    go : (entry : Option ℕ) → IsLast (IsTakenOnLane lines q p) o entry → left_before entry < o + 1
    go None last = omega arith
    go (Some m) last = omega (arith, last.0)

-- whether the message would have been taken, condition by condition
module _ (rec : RecordingView) (k : ℕ) (own : MessageNo) (s : ℕ) (takes : Bool) where
  pub would_not_take : (IsTrue takes ↔ WouldTake rec k s) → takes ≡ false → IsTrue false ↔ WouldHaveTaken rec k own s
  would_not_take stated fails = (λ yes. absurd (false≢true yes), λ would. absurd (false≢true (sym fails ∙ stated.1 would.takes)))

  pub would_yes : (first : Bool) → IsThere rec k s → (IsTrue takes ↔ WouldTake rec k s) → takes ≡ true → (IsTrue first ↔ CameFirst rec (messages.Sent s) own)
      → IsTrue (not first) ↔ WouldHaveTaken rec k own s
  would_yes first there stated holds came = go first came
    where
      go : (its : Bool) → (IsTrue its ↔ CameFirst rec (messages.Sent s) own) → IsTrue (not its) ↔ WouldHaveTaken rec k own s
      go true came_it = (λ yes. absurd (false≢true yes), λ would. absurd (would.kept (came_it.0 refl)))
      go false came_it = (λ yes. record { there = there; takes = stated.0 holds; kept = λ came_too. false≢true (came_it.1 came_too) }, λ would. refl)
