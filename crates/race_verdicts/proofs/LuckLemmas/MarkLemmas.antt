-- A backward search that marks lines, from send to send.
use Rattle.std.proofs.Common.{◌≡◌, ℕ, ◌+◌, ◌<◌, ◌≤◌, ◌==◌, ◌&&◌, inl, inr, Bool, true, false, List, [], ◌∷◌, ◌++◌, Option, None, Some, length, get_or, set, map, replicate, refl, sym, ap, ap₂, ◌∙◌, subst, arith, eqb-true}
use Rattle.std.specs.Prelude.{slice_get, is_some, Contains}
use Rattle.std.proofs.lemmas.Bool.{cases_eq, false≢true, eq-eqb}
use Rattle.std.proofs.lemmas.List.{length-map, map-set}
use Rattle.std.proofs.lemmas.List.Elements.{All-contains_itself, All-weaker}
use Rattle.std.proofs.lemmas.Option.{slice_get_within, slice_get-get_or}
use Rattle.std.proofs.Math.ListN.{get_or-map}
use Rattle.log_chart.specs.Entries.{is_send}
use Rattle.log_chart.specs.FateTables.{IsWithin}
use Rattle.log_chart.specs.declared.matching.LogLine.{LogLine}
use Rattle.log_chart.specs.Cycles.Order.Follows.{host as on_host}
use Rattle.log_chart.specs.Cycles.Searching.{IsSeen, HasReached, AreBefore, IsPast}
use Rattle.log_chart.specs.Cycles.Sources.{AreLines, Leads, AreSources}
use Rattle.log_chart.specs.Cycles.Sources.Leads.{through}
use Rattle.log_chart.proofs.CyclesLemmas.SearchLemmas.{reached_new, past_all}
use Rattle.log_chart.proofs.CyclesLemmas.SourceLemmas.{comes_leads, leads_comes}
use Rattle.race_verdicts.specs.Luck.Marking.{HaveMarked, IsSendOf, HasPassed, AreFirsts}
use Rattle.race_verdicts.specs.Luck.Recorded.{IsLog}
use Rattle.race_verdicts.proofs.LuckLemmas.LogLemmas.{contained_get, number_within, taken_within}
use Rattle.race_verdicts.proofs.LuckLemmas.TableLemmas.{some_same, none_at, none_whole}

abbrev no_mark : Option ℕ
no_mark = None

-- exactly the marked lines were seen
pub seen_at : (marks : List (Option ℕ)) (a : ℕ) → get_or (map (is_some {T = ℕ}) marks) a false ≡ is_some (get_or marks a None)
seen_at marks a = get_or-map (is_some {T = ℕ}) marks a no_mark

pub marked_seen : (marks : List (Option ℕ)) (a m : ℕ) → get_or marks a None ≡ Some m → IsSeen (map (is_some {T = ℕ}) marks) a
marked_seen marks a m is = seen_at marks a ∙ ap is_some is

pub seen_marked : (marks : List (Option ℕ)) (a : ℕ) → IsSeen (map (is_some {T = ℕ}) marks) a → (m : ℕ) × (get_or marks a None ≡ Some m)
seen_marked marks a its = go (get_or marks a None) refl (sym (seen_at marks a) ∙ its)
  where
    go : (entry : Option ℕ) → get_or marks a None ≡ entry → is_some entry ≡ true → (m : ℕ) × (get_or marks a None ≡ Some m)
    go (Some m) e its = (m, e)
    go None e its = absurd (false≢true its)

-- one more line
pub reached_marked : (marks : List (Option ℕ)) (stack stacked : List ℕ) (n mark : ℕ) (new : List (Option ℕ)) → n < length marks → is_some (get_or marks n None) ≡ false → new ≡ set marks n (Some mark)
    → stacked ≡ stack ++ n ∷ [] → HasReached (Some n) (map (is_some {T = ℕ}) marks) stack (map (is_some {T = ℕ}) new) stacked
reached_marked marks stack stacked n mark new within none is pushed =
    reached_new (map (is_some {T = ℕ}) marks) stack n (map (is_some {T = ℕ}) new) stacked (let whole = length-map {A = Option ℕ} {B = Bool} marks (is_some {T = ℕ}) in omega arith)
    (seen_at marks n ∙ none) (ap (map (is_some {T = ℕ})) is ∙ map-set (is_some {T = ℕ}) marks n (Some mark)) pushed

pub marked_then : (mark : ℕ) (one two three : List (Option ℕ)) → HaveMarked mark one two → HaveMarked mark two three → HaveMarked mark one three
marked_then mark one two three first second = record {
  whole = second.whole ∙ first.whole;
  each = λ a.
      elim (second.each a) [
        | inl kept ↦
            elim (first.each a) [
              | inl same ↦ inl (kept ∙ same)
              | inr new ↦ inr (new.0, kept ∙ new.1)
            ]
        | inr new ↦
            elim (first.each a) [
              | inl same ↦ inr (sym same ∙ new.0, new.1)
              | inr already ↦ absurd (cc (already.1, new.0))
            ]
      ];
}

-- no line yet
pub passed_none : (lines : List LogLine) (tops sends : List (Option ℕ)) (host : ℕ) (marks : List (Option ℕ)) (stack : List ℕ) → marks ≡ replicate (length lines) None → stack ≡ []
    → HasPassed lines tops sends host 0 marks stack
passed_none lines tops sends host marks stack is empty = record {
  whole = none_whole (length lines) marks is;
  empty = empty;
  closed = λ a b d its. let w = seen_marked marks b its in absurd (none b w.0 w.1);
  marked = λ a m its. absurd (none a m its);
  all = λ s less. absurd (omega arith);
}
  where
    none : (a m : ℕ) → get_or marks a None ≡ Some m → ⊥
    none a m its = let e : get_or marks a None ≡ None = ap (λ t. get_or t a None) is ∙ none_at (length lines) a in cc (e, its)

module _ (lines : List LogLine) (log : IsLog lines) where
  -- the lines are numbered and rise
  pub are_lines : AreLines (length lines) lines
  are_lines = record {
    numbered = All-weaker (Contains lines) (λ (x : LogLine). x.number < length lines) (λ x has. number_within lines log x has) lines (All-contains_itself lines);
    sends = All-weaker (Contains lines) (λ (x : LogLine). IsWithin (length lines) x.send) (λ x has. within x has x.send refl) lines (All-contains_itself lines);
    rise = λ i j d less j_in. rises i j d less j_in;
  }
    where
      within : (x : LogLine) → Contains lines x → (t : Option ℕ) → x.send ≡ t → IsWithin (length lines) t
      within x has None e = tt
      within x has (Some s) e = taken_within lines log x s has e

      rises : (i j : ℕ) (d : LogLine) → i < j → j < length lines → (get_or lines i d).number < (get_or lines j d).number
      rises i j d less j_in =
          let one = log.numbered i (get_or lines i d) (slice_get-get_or lines i d (omega arith)) in
          let two = log.numbered j (get_or lines j d) (slice_get-get_or lines j d j_in) in
          omega arith

  pub one_send_line : (host i : ℕ) (x : LogLine) → slice_get lines i ≡ Some x → (x.entry.host == host && is_send x.entry.kind) ≡ true → IsSendOf lines host i
  one_send_line host i x is holds = record { line = x; is = is; its = eqb-true x.entry.host host (both holds).0; sends = (both holds).1 }
    where
      both : {a b : Bool} → (a && b) ≡ true → (a ≡ true) × (b ≡ true)
      both {a = true} e = (refl, e)
      both {a = false} e = absurd (false≢true e)

  module _ (tops sends : List (Option ℕ)) (sources : AreSources lines (length lines) tops sends) (host i : ℕ) (marks : List (Option ℕ)) (stack : List ℕ) (passed : HasPassed lines tops sends host i marks stack) where
    -- a later send of the host comes after all lines that were found
    pub before_send : (s : ℕ) → i ≤ s → IsSendOf lines host s → AreBefore tops sends (map (is_some {T = ℕ}) marks) s
    before_send s low its a seen =
        let w = seen_marked marks a seen in
        let m = passed.marked a w.0 w.1 in
        let one = m.1 in
        through m.2
        (sources.all w.0 s
        (on_host one.line its.line (contained_get lines w.0 one.line one.is) (contained_get lines s its.line its.is) (log.numbered w.0 one.line one.is) (log.numbered s its.line its.is)
        (one.its ∙ sym its.its) (let less = m.0 in omega arith)))

    -- the line isn't a send of the host
    pub passed_other : (x : LogLine) → slice_get lines i ≡ Some x → (x.entry.host == host && is_send x.entry.kind) ≡ false → HasPassed lines tops sends host (i + 1) marks stack
    passed_other x is fails = record {
      whole = passed.whole;
      empty = passed.empty;
      closed = passed.closed;
      marked = λ a m its. let w = passed.marked a m its in (omega (arith, w.0), w.1, w.2);
      all = λ s less its.
          elim (cases_eq s i) [
            | inr other ↦ passed.all s (omega arith) its
            | inl same ↦
                let one : its.line ≡ x = some_same (sym its.is ∙ ap (slice_get lines) same ∙ is) in
                absurd
                (false≢true (sym fails ∙ ap₂ (λ a b. a && b) (eq-eqb x.entry.host host (ap (λ (y : LogLine). y.entry.host) (sym one) ∙ its.its)) (ap (λ (y : LogLine). is_send y.entry.kind) (sym one) ∙ its.sends)))
          ];
    }

    -- the line is a send of the host
    pub passed_send : (x : LogLine) (new : List (Option ℕ)) (stacked : List ℕ) → slice_get lines i ≡ Some x → IsSendOf lines host i → stacked ≡ [] → IsPast tops sends i (map (is_some {T = ℕ}) new)
        → HaveMarked i marks new → HasPassed lines tops sends host (i + 1) new stacked
    passed_send x new stacked is send empty past more = record {
      whole = more.whole ∙ passed.whole;
      empty = empty;
      closed = past.closed;
      marked = λ a m its.
          elim (more.each a) [
            | inl same ↦ let w = passed.marked a m (sym same ∙ its) in (omega (arith, w.0), w.1, w.2)
            | inr now ↦
                let one : i ≡ m = some_same (sym now.1 ∙ its) in (
                  omega (arith, one),
                  subst (IsSendOf lines host) one send,
                  subst (Leads tops sends a) one (past.before a (marked_seen new a i now.1)),
                )
          ];
      all = λ s less its a leads.
          elim (cases_eq s i) [
            | inl same ↦
                let w = seen_marked new a (past_all tops sends i (map (is_some {T = ℕ}) new) past a (subst (Leads tops sends a) same leads)) in
                (w.0, w.1, low a w.0 w.1 s same)
            | inr other ↦
                let w = passed.all s (omega arith) its a leads in
                elim (more.each a) [
                  | inl kept ↦ (w.0, kept ∙ w.1, w.2)
                  | inr now ↦ absurd (cc (now.0, w.1))
                ]
          ];
    }
      where
        low : (a m : ℕ) → get_or new a None ≡ Some m → (s : ℕ) → s ≡ i → m ≤ s
        low a m its s same =
            elim (more.each a) [
              | inl kept ↦ let w = passed.marked a m (sym kept ∙ its) in omega (arith, w.0, same)
              | inr now ↦ let one : i ≡ m = some_same (sym now.1 ∙ its) in omega (arith, one, same)
            ]

    -- all lines were searched
    pub passed_all : length lines ≤ i → AreFirsts lines host marks
    passed_all past = record {
      sound = λ a m s its low send.
          let w = passed.marked a m its in
          let one = w.1 in
          elim (cases_eq m s) [
            | inl same ↦ leads_comes lines (length lines) tops sends sources a s (subst (Leads tops sends a) same w.2)
            | inr other ↦
                leads_comes lines (length lines) tops sends sources a s
                (through w.2
                (sources.all m s
                (on_host one.line send.line (contained_get lines m one.line one.is) (contained_get lines s send.line send.is) (log.numbered m one.line one.is) (log.numbered s send.line send.is)
                (one.its ∙ sym send.its) (omega (arith, low, other)))))
          ];
      all = λ a s send comes.
          let within = slice_get_within lines s send.line send.is in
          passed.all s (omega arith) send a (comes_leads lines (length lines) tops sends sources a s comes);
    }
