-- The sends of each lane, linked to the ones before them, and the lines by which they were taken, line by line.
use Rattle.std.proofs.Common.{◌≡◌, ℕ, ◌+◌, ◌<◌, ◌≤◌, ◌==◌, ◌&&◌, inl, inr, max, Bool, true, false, List, Option, None, Some, length, get_or, set, cond, refl, sym, ap, ap₂, ◌∙◌, subst, arith, eqb-true, eq-eqb}
use Rattle.std.specs.Prelude.{slice_get, is_some}
use Rattle.std.proofs.lemmas.Bool.{cases_eq, cases_lt, and_parts, false≢true}
use Rattle.std.proofs.lemmas.List.{length-set, get_or-set_same, get_or-set_other}
use Rattle.std.proofs.lemmas.Option.{slice_get_within}
use Rattle.log_chart.specs.Entries.{is_send}
use Rattle.log_chart.specs.LaneTables.{AreLanes, changed}
use Rattle.log_chart.specs.declared.matching.LogLine.{LogLine}
use Rattle.race_verdicts.specs.Luck.LaneTables.{IsOnLane, IsTakenOnLane, AreAbove, AreLastSends, AreAboveSoFar, IsTakenUpTo, IsOver, AreOver, later_of, until_of}
use Rattle.race_verdicts.specs.Luck.LineTables.{Takes, AreTakers}
use Rattle.race_verdicts.specs.Luck.Tables.{IsFirst, IsLast}
use Rattle.race_verdicts.proofs.LuckLemmas.TableLemmas.{some_same, last_pass, last_found}

pub above_none : (lines : List LogLine) (above last : List (Option ℕ)) → length above ≡ length lines → AreLanes last (λ q p. None) → AreAboveSoFar lines 0 above last
above_none lines above last whole are = record {
  whole = whole;
  each = λ n q p less. absurd (omega arith);
  lasts = record {
    sends = λ q p. None;
    are = are;
    each = λ q p k less. absurd (omega arith);
  };
}

-- one line more
module _ (lines : List LogLine) (i : ℕ) (x : LogLine) (here : slice_get lines i ≡ Some x) (above last : List (Option ℕ)) (so_far : AreAboveSoFar lines i above last) where
  line_on : (q p : ℕ) (its : IsOnLane lines q p i) → its.line ≡ x
  line_on q p its = some_same (sym its.is ∙ here)

  sends_on : (q p : ℕ) (its : IsOnLane lines q p i) → is_send x.entry.kind ≡ true
  sends_on q p its = ap (λ (y : LogLine). is_send y.entry.kind) (sym (line_on q p its)) ∙ its.sends

  -- the table of sends, if the line isn't a send, or is one
  pub record AreMore (new : List (Option ℕ)) : Type 0 where
    pub whole : length new ≡ length lines
    pub each : (n q p : ℕ) → n < i + 1 → IsOnLane lines q p n → IsLast (IsTakenOnLane lines q p) n (get_or new n None)

  pub more_other : is_send x.entry.kind ≡ false → AreMore above
  more_other no_send = record {
    whole = so_far.whole;
    each = λ n q p less its.
        elim (cases_eq n i) [
          | inr other ↦ so_far.each n q p (omega arith) its
          | inl same ↦ absurd (false≢true (sym no_send ∙ sends_on q p (subst (IsOnLane lines q p) same its)))
        ];
  }

  pub more_send : (before : Option ℕ) (new : List (Option ℕ)) → before ≡ so_far.lasts.sends x.entry.host x.entry.peer → new ≡ set above i before → AreMore new
  more_send before new before_is new_is = record {
    whole = ap length new_is ∙ length-set above i before ∙ so_far.whole;
    each = λ n q p less its.
        elim (cases_eq n i) [
          | inr other ↦
              subst (IsLast (IsTakenOnLane lines q p) n) (sym (ap (λ t. get_or t n None) new_is ∙ get_or-set_other above i n before None other)) (so_far.each n q p (omega arith) its)
          | inl same ↦
              let its_i = subst (IsOnLane lines q p) same its in
              let one = line_on q p its_i in
              let from : x.entry.host ≡ q = ap (λ (y : LogLine). y.entry.host) (sym one) ∙ its_i.sender in
              let to : x.entry.peer ≡ p = ap (λ (y : LogLine). y.entry.peer) (sym one) ∙ its_i.receiver in
              subst (λ k. IsLast (IsTakenOnLane lines q p) k (get_or new k None)) (sym same)
              (subst (IsLast (IsTakenOnLane lines q p) i)
              (sym (ap (λ t. get_or t i None) new_is ∙ get_or-set_same above i before None (let within = slice_get_within lines i x here in omega (arith, so_far.whole)) ∙ before_is
              ∙ ap₂ so_far.lasts.sends from to)) (so_far.lasts.each q p))
        ];
  }

  -- the last sends, if no line takes the message, or one does
  module _ (takers : List (Option ℕ)) (taken : AreTakers lines takers) where
    here_taken : IsFirst (Takes lines i) (length lines) (get_or takers i None)
    here_taken = taken.each i (slice_get_within lines i x here)

    pub last_other : (is_send x.entry.kind && is_some (get_or takers i None)) ≡ false → AreLastSends lines (i + 1) last
    last_other fails = record {
      sends = so_far.lasts.sends;
      are = so_far.lasts.are;
      each = λ q p. last_pass (IsTakenOnLane lines q p) i (so_far.lasts.sends q p) (none q p) (so_far.lasts.each q p);
    }
      where
        go : (t : ℕ) → Takes lines i t → (entry : Option ℕ) → get_or takers i None ≡ entry → IsFirst (Takes lines i) (length lines) entry → is_some (get_or takers i None) ≡ true
        go t takes None e first = absurd (first t (slice_get_within lines t takes.line takes.is) takes)
        go t takes (Some k) e first = ap is_some e

        none : (q p : ℕ) → IsTakenOnLane lines q p i → ⊥
        none q p its = false≢true (sym fails ∙ ap₂ (λ a b. a && b) (sends_on q p its.on) (go its.taker its.takes (get_or takers i None) refl here_taken))

    pub last_taken : (lasts : List (Option ℕ)) → (is_send x.entry.kind && is_some (get_or takers i None)) ≡ true → AreLanes lasts (changed so_far.lasts.sends x.entry.host x.entry.peer (Some i))
        → AreLastSends lines (i + 1) lasts
    last_taken lasts holds are = record {
      sends = changed so_far.lasts.sends x.entry.host x.entry.peer (Some i);
      are = are;
      each = λ q p. lane q p (x.entry.host == q && x.entry.peer == p) refl;
    }
      where
        parts : (is_send x.entry.kind ≡ true) × (is_some (get_or takers i None) ≡ true)
        parts = and_parts (is_send x.entry.kind) (is_some (get_or takers i None)) holds

        taker : (entry : Option ℕ) → get_or takers i None ≡ entry → is_some entry ≡ true → IsFirst (Takes lines i) (length lines) entry → (t : ℕ) × Takes lines i t
        taker None e some first = absurd (false≢true some)
        taker (Some t) e some first = (t, first.1)

        takes : (t : ℕ) × Takes lines i t
        takes = taker (get_or takers i None) refl parts.1 here_taken

        lane : (q p : ℕ) (its : Bool) → (x.entry.host == q && x.entry.peer == p) ≡ its → IsLast (IsTakenOnLane lines q p) (i + 1) (cond its (Some i) (so_far.lasts.sends q p))
        lane q p true e =
            last_found (IsTakenOnLane lines q p) i
            (record {
              on = record { line = x; is = here; sends = parts.0; sender = eqb-true x.entry.host q (and_parts (x.entry.host == q) (x.entry.peer == p) e).0; receiver = eqb-true x.entry.peer p (and_parts (x.entry.host == q) (x.entry.peer == p) e).1 };
              taker = takes.0;
              takes = takes.1;
            })
        lane q p false e =
            last_pass (IsTakenOnLane lines q p) i (so_far.lasts.sends q p)
            (λ its.
            let one = line_on q p its.on in
            let on = its.on in
            false≢true
            (sym e ∙ ap₂ (λ a b. a && b) (eq-eqb x.entry.host q (ap (λ (y : LogLine). y.entry.host) (sym one) ∙ on.sender)) (eq-eqb x.entry.peer p (ap (λ (y : LogLine). y.entry.peer) (sym one) ∙ on.receiver))))
            (so_far.lasts.each q p)

  -- both tables
  pub above_next : (new lasts : List (Option ℕ)) → AreMore new → AreLastSends lines (i + 1) lasts → AreAboveSoFar lines (i + 1) new lasts
  above_next new lasts more are = record { whole = more.whole; each = more.each; lasts = are }

pub above_all : (lines : List LogLine) (i : ℕ) (above last : List (Option ℕ)) → length lines ≤ i → AreAboveSoFar lines i above last → AreAbove lines above
above_all lines i above last past so_far = record {
  whole = so_far.whole;
  each = λ n q p its. so_far.each n q p (let within = slice_get_within lines n its.line its.is in omega arith) its;
}

-- the lines by which sends were taken
module _ (lines : List LogLine) (above takers over : List (Option ℕ)) (are : AreAbove lines above) (taken : AreTakers lines takers) (i : ℕ) (within : i < length lines) (whole : length over ≡ length lines)
    (each : (n : ℕ) → n < i → IsOver lines over n) where
  taken_here : (t : ℕ) → get_or takers i None ≡ Some t → IsTakenUpTo lines i t
  taken_here t is = let first = subst (IsFirst (Takes lines i) (length lines)) is (taken.each i within) in record { taker = t; takes = first.1; early = omega arith }

  later : (o t u : ℕ) → t ≤ u → IsTakenUpTo lines o t → IsTakenUpTo lines o u
  later o t u low its = record { taker = its.taker; takes = its.takes; early = let early = its.early in omega arith }

  -- the entry for the line
  over_here : (up taker : Option ℕ) → get_or above i None ≡ up → get_or takers i None ≡ taker → (t q p : ℕ) → until_of up taker over ≡ Some t → IsOnLane lines q p i
      → (o : ℕ) → o ≤ i → IsTakenOnLane lines q p o → IsTakenUpTo lines o t
  over_here None taker up_is taker_is t q p is its o low other =
      elim (cases_eq o i) [
        | inl same ↦ subst (λ n. IsTakenUpTo lines n t) (sym same) (taken_here t (taker_is ∙ is))
        | inr differs ↦ absurd (subst (IsLast (IsTakenOnLane lines q p) i) up_is (are.each i q p its) o (omega arith) other)
      ]
  over_here (Some s) None up_is taker_is t q p is its o low other = absurd (cc is)
  over_here (Some s) (Some k) up_is taker_is t q p is its o low other = go (get_or over s None) refl is
    where
      last : IsLast (IsTakenOnLane lines q p) i (Some s)
      last = subst (IsLast (IsTakenOnLane lines q p) i) up_is (are.each i q p its)

      go : (until : Option ℕ) → get_or over s None ≡ until → later_of (Some k) until ≡ Some t → IsTakenUpTo lines o t
      go None e later_is = absurd (cc later_is)
      go (Some u) e later_is =
          let most : max k u ≡ t = some_same later_is in
          elim (cases_eq o i) [
            | inl same ↦ subst (λ n. IsTakenUpTo lines n t) (sym same) (later i k t (omega (arith, most)) (taken_here k taker_is))
            | inr differs ↦
                elim (cases_lt s o) [
                  | inl past ↦ absurd (last.2 o past (omega arith) other)
                  | inr before ↦ later o u t (omega (arith, most)) (let at_s = last.1 in each s last.0 u q p e at_s.on o before other)
                ]
          ]

  pub over_more : (new : List (Option ℕ)) → new ≡ set over i (until_of (get_or above i None) (get_or takers i None) over) → (n : ℕ) → n < i + 1 → IsOver lines new n
  over_more new is n less t q p found its o low other =
      elim (cases_eq n i) [
        | inr differs ↦ each n (omega arith) t q p (sym (ap (λ l. get_or l n None) is ∙ get_or-set_other over i n (until_of (get_or above i None) (get_or takers i None) over) None differs) ∙ found) its o low other
        | inl same ↦
            over_here (get_or above i None) (get_or takers i None) refl refl t q p
            (sym (ap (λ l. get_or l n None) is ∙ ap (λ k. get_or (set over i (until_of (get_or above i None) (get_or takers i None) over)) k None) same
            ∙ get_or-set_same over i (until_of (get_or above i None) (get_or takers i None) over) None (omega (arith, whole))) ∙ found) (subst (IsOnLane lines q p) same its) o (omega (arith, same)) other
      ]

pub over_all : (lines : List LogLine) (i : ℕ) (over : List (Option ℕ)) → length lines ≤ i → length over ≡ length lines → ((n : ℕ) → n < i → IsOver lines over n) → AreOver lines over
over_all lines i over past whole each = record { whole = whole; each = λ n within. each n (omega arith) }
