-- The meaning of a schedule is legal.
use Rattle.std.proofs.Common.{◌≡◌, ◌≢◌, ℕ, ◌+◌, ◌<◌, ◌≤◌, ◌==◌, inl, inr, Bool, true, false, cond, List, [], ◌∷◌, length, Option, None, Some, refl, sym, subst, arith}
use Rattle.std.specs.Prelude.{fold, nat_lt, nat_le, Result, Ok, Err, All}
use Rattle.std.proofs.lemmas.Bool.{eqb-true, eqb-false, ltb-true, ltb-false, leb-false}
use Rattle.std.proofs.lemmas.List.Elements.{All-head, All-tail}
use Rattle.chart.specs.declared.history.Occurrence.{Occurrence}
use Rattle.chart.specs.declared.history.Occurrence.TheVariants as events
use Rattle.chart.specs.declared.line.TheConstants.{MAX_EVENTS}
use Rattle.chart.specs.Events.{receive_event, greatest_region, MayHaveRegion}
use Rattle.chart.specs.Messages.{Content}
use Rattle.chart.specs.Histories.{by, waiting, is_closed, chart_of, AreTwo, IsLegal}
use Rattle.chart.proofs.Regions.{may-again}
use Rattle.chart.proofs.Sends.{line_after_receive}
use Rattle.chart.proofs.Steps.{line_of_other, line_after_close}
use Rattle.schedule.specs.declared.command.Action.{Action}
use Rattle.schedule.specs.declared.command.Action.TheVariants.{Send, Receive, Any, Close, Open, Shut}
use Rattle.schedule.specs.declared.command.Command.{Command}
use Rattle.schedule.specs.declared.command.Word.{Word}
use Rattle.schedule.specs.declared.command.Word.TheVariants as words
use Rattle.schedule.specs.Meaning.{Run, State, LegalLaw, changed, has_waiting, is_line_full, happens, sends, takes, receives, first_waiting, are_closed, receives_any, closes, opens, shuts, acts, noted, start, step}
use Rattle.schedule.specs.Plans.{HasPartner, HasNumber, IsAmong, IsNumbered}
use Rattle.schedule.proofs.Scanning.{first-other}

-- the history is legal, the scans begin at instances, and each open coregion may be continued
pub record IsSound (n k : ℕ) (r : Run) : Type 0 where
  pub legal : IsLegal n k r.history
  pub last : (p : ℕ) → r.last p ≤ n
  pub region : (p : ℕ) → MayHaveRegion (chart_of r.history p) (r.region p)

-- the schedule went on to a sound run, or left a note
abbrev pub GoesOn : ℕ → ℕ → Result Run Word → Type 0
GoesOn n k (Ok r) = IsSound n k r
GoesOn n k (Err word) = Unit {0}

-- a fact that holds of each value and of the new one holds of the changed function
changed-each : (P : ℕ → ℕ → Type 0) (f : ℕ → ℕ) (p v : ℕ) → P p v → ((q : ℕ) → q ≢ p → P q (f q)) → (q : ℕ) → P q (changed f p v q)
changed-each P f p v here there q = go (q == p) refl
  where
    go : (its : Bool) → (q == p) ≡ its → P q (cond its v (f q))
    go true e = subst (λ x. P x v) (sym (eqb-true q p e)) here
    go false e = there q (eqb-false q p e)

-- with one occurrence coregions can be continued: the actor's own by assumption, and the others' since their lines stay
regions-after : (h : List Occurrence) (e : Occurrence) (region : ℕ → ℕ) → MayHaveRegion (chart_of (e ∷ h) (by e)) (region (by e)) → ((q : ℕ) → MayHaveRegion (chart_of h q) (region q)) → (q : ℕ) → MayHaveRegion (chart_of (e ∷ h) q) (region q)
regions-after h e region own before q = go (by e == q) refl
  where
    go : (mine : Bool) → (by e == q) ≡ mine → MayHaveRegion (chart_of (e ∷ h) q) (region q)
    go true same = subst (λ x. MayHaveRegion (chart_of (e ∷ h) x) (region x)) (eqb-true (by e) q same) own
    go false other = subst (λ line. MayHaveRegion line (region q)) (sym (line_of_other h e q (eqb-false (by e) q other))) (before q)

-- the messages that wait, of which there is one
some-wait : (ms : List Content) → 0 < length ms → (m : Content) × (rest : List Content) × (ms ≡ m ∷ rest)
some-wait [] some = absurd (omega arith)
some-wait (m ∷ rest) some = (m, rest, refl)

module _ (n k : ℕ) (r : Run) (sound : IsSound n k r) (p : ℕ) where
  sent-on : (q : ℕ) (name : List ℕ) → AreTwo n p q → GoesOn n k (sends k r p q name)
  sent-on q name two = inside (nat_lt 0 (r.region p)) refl
    where
      m : Content
      m = record { name = name; body = [] }

      room : r.region p ≡ 0 → is_closed r.history p q ≡ false → length (chart_of r.history p) < MAX_EVENTS → (full : Bool) → nat_le k (length (waiting r.history p q)) ≡ full → GoesOn n k (cond full (Err words.Full) (Ok (happens r (events.Send p q m))))
      room none opened short true e = tt
      room none opened short false e = record {
        legal = ((two, opened, leb-false k (length (waiting r.history p q)) e, short), sound.legal);
        last = sound.last;
        region = regions-after r.history (events.Send p q m) r.region (inl none) sound.region;
      }

      short : r.region p ≡ 0 → is_closed r.history p q ≡ false → (full : Bool) → is_line_full r.history p ≡ full → GoesOn n k (cond full (Err words.LineFull) (cond (nat_le k (length (waiting r.history p q))) (Err words.Full) (Ok (happens r (events.Send p q m)))))
      short none opened true e = tt
      short none opened false e = room none opened (leb-false MAX_EVENTS (length (chart_of r.history p)) e) (nat_le k (length (waiting r.history p q))) refl

      opened : r.region p ≡ 0 → (closed : Bool) → is_closed r.history p q ≡ closed → GoesOn n k (cond closed (Err words.Closed) (cond (is_line_full r.history p) (Err words.LineFull) (cond (nat_le k (length (waiting r.history p q))) (Err words.Full) (Ok (happens r (events.Send p q m))))))
      opened none true e = tt
      opened none false e = short none e (is_line_full r.history p) refl

      inside : (its : Bool) → nat_lt 0 (r.region p) ≡ its → GoesOn n k (cond its (Err words.InCoregion) (cond (is_closed r.history p q) (Err words.Closed) (cond (is_line_full r.history p) (Err words.LineFull) (cond (nat_le k (length (waiting r.history p q))) (Err words.Full) (Ok (happens r (events.Send p q m)))))))
      inside true e = tt
      inside false e = let least = ltb-false 0 (r.region p) e in opened (omega (arith, least)) (is_closed r.history p q) refl

  taken-on : (q : ℕ) → AreTwo n p q → 0 < length (waiting r.history q p) → GoesOn n k (takes r p q)
  taken-on q two some = go (is_line_full r.history p) refl
    where
      e : Occurrence
      e = events.Receive p q (r.region p)

      go : (full : Bool) → is_line_full r.history p ≡ full → GoesOn n k (cond full (Err words.LineFull) (Ok (record { history = e ∷ r.history; last = changed r.last p q; region = r.region })))
      go true i = tt
      go false i =
          let first = some-wait (waiting r.history q p) some in
          let line = line_after_receive r.history p q (r.region p) first.0 first.1 first.2 in
          record {
            legal = ((two, some, leb-false MAX_EVENTS (length (chart_of r.history p)) i, sound.region p), sound.legal);
            last = changed-each (λ a l. l ≤ n) r.last p q two.3 (λ a ne. sound.last a);
            region = regions-after r.history e r.region (subst (λ l. MayHaveRegion l (r.region p)) (sym line) (may-again (chart_of r.history p) (receive_event q first.0.name (r.region p)) (sound.region p))) sound.region;
          }

  -- the answer of a receive that takes nothing
  nothing-on : (closed : Bool) → GoesOn n k (cond closed (Err words.Ended) (Err words.Nothing))
  nothing-on true = tt
  nothing-on false = tt

  received-on : (q : ℕ) → AreTwo n p q → GoesOn n k (receives r p q)
  received-on q two = go (has_waiting r.history q p) refl
    where
      go : (some : Bool) → has_waiting r.history q p ≡ some → GoesOn n k (cond some (takes r p q) (cond (is_closed r.history q p) (Err words.Ended) (Err words.Nothing)))
      go true e = taken-on q two (ltb-true 0 (length (waiting r.history q p)) e)
      go false e = nothing-on (is_closed r.history q p)

  any-on : 1 ≤ p → p ≤ n → GoesOn n k (receives_any n r p (first_waiting n r p))
  any-on low high = go (first_waiting n r p) refl
    where
      go : (found : Option ℕ) → first_waiting n r p ≡ found → GoesOn n k (receives_any n r p found)
      go None e = nothing-on (are_closed n r p)
      go (Some q) e =
          let w = first-other n r p q (sound.last p) e in
          taken-on q (low, high, w.1.0, w.1.1, λ same. w.1.2 (sym same)) (ltb-true 0 (length (waiting r.history q p)) w.0)

  closed-on : (q : ℕ) → AreTwo n p q → GoesOn n k (closes r p q)
  closed-on q two = go (is_closed r.history p q) refl
    where
      go : (closed : Bool) → is_closed r.history p q ≡ closed → GoesOn n k (cond closed (Err words.Closed) (Ok (happens r (events.Close p q))))
      go true e = tt
      go false e = record {
        legal = ((two, e), sound.legal);
        last = sound.last;
        region = λ a. subst (λ line. MayHaveRegion line (r.region a)) (sym (line_after_close r.history p q a)) (sound.region a);
      }

  -- with another coregion of p that may come next
  region-on : (c : ℕ) → MayHaveRegion (chart_of r.history p) c → IsSound n k (record { history = r.history; last = r.last; region = changed r.region p c })
  region-on c may = record {
    legal = sound.legal;
    last = sound.last;
    region = changed-each (λ a v. MayHaveRegion (chart_of r.history a) v) r.region p c may (λ a ne. sound.region a);
  }

  opened-on : GoesOn n k (opens r p)
  opened-on = go (nat_lt 0 (r.region p))
    where
      go : (its : Bool) → GoesOn n k (cond its (Err words.Open) (Ok (record { history = r.history; last = r.last; region = changed r.region p (greatest_region (chart_of r.history p) + 1) })))
      go true = tt
      go false = region-on (greatest_region (chart_of r.history p) + 1) (inr (inl refl))

  shut-on : GoesOn n k (shuts r p)
  shut-on = go (nat_lt 0 (r.region p))
    where
      go : (its : Bool) → GoesOn n k (cond its (Ok (record { history = r.history; last = r.last; region = changed r.region p 0 })) (Err words.NotOpen))
      go true = region-on 0 (inl refl)
      go false = tt

-- one command
acted-on : (n k : ℕ) (r : Run) (command : Command) → IsSound n k r → IsAmong n command → IsNumbered command → GoesOn n k (acts n k r command.actor command.action)
acted-on n k r command sound among numbered = go command.action among.1 numbered.1
  where
    p : ℕ
    p = command.actor

    go : (action : Action) → HasPartner n p action → HasNumber action → GoesOn n k (acts n k r p action)
    go (Send q name) partner one = sent-on n k r sound p q name (numbered.0, among.0, one, partner.0, partner.1)
    go (Receive q) partner one = received-on n k r sound p q (numbered.0, among.0, one, partner.0, partner.1)
    go Any partner one = any-on n k r sound p numbered.0 among.0
    go (Close q) partner one = closed-on n k r sound p q (numbered.0, among.0, one, partner.0, partner.1)
    go Open partner one = opened-on n k r sound p
    go Shut partner one = shut-on n k r sound p

-- a command leaves a sound run sound
stepped-on : (n k : ℕ) (s : State) (command : Command) → IsSound n k s.run → IsAmong n command → IsNumbered command → IsSound n k (step n k s command).run
stepped-on n k s command sound among numbered = go (acts n k s.run command.actor command.action) (acted-on n k s.run command sound among numbered)
  where
    go : (acted : Result Run Word) → GoesOn n k acted → IsSound n k (noted s command.line acted).run
    go (Ok r) on = on
    go (Err word) on = sound

-- several commands leave a sound run sound
pub sound_after : (n k : ℕ) (commands : List Command) (s : State) → IsSound n k s.run → All (IsAmong n) commands → All IsNumbered commands → IsSound n k (fold (step n k) s commands).run
sound_after n k [] s sound among numbered = sound
sound_after n k (command ∷ commands) s sound among numbered =
    sound_after n k commands (step n k s command) (stepped-on n k s command sound (All-head (IsAmong n) command commands among) (All-head IsNumbered command commands numbered))
    (All-tail (IsAmong n) command commands among) (All-tail IsNumbered command commands numbered)

pub legal : LegalLaw
legal plan keeps numbered = (sound_after (length plan.names) plan.capacity plan.commands start first keeps.commands numbered).legal
  where
    first : IsSound (length plan.names) plan.capacity start.run
    first = record { legal = tt; last = λ p. omega arith; region = λ p. inl refl }
