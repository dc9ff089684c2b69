-- The lines ahead of a send in the whole log are those that come before it, host by host and message by message.
use Rattle.std.proofs.Common.{◌≡◌, ℕ, suc, ◌+◌, ◌<◌, ◌≤◌, ◌↔◌, ◌⊎◌, inl, inr, Bool, true, false, List, [], ◌∷◌, ◌++◌, Option, None, Some, length, get_or, refl, sym, ap, ◌∙◌, subst, arith}
use Rattle.std.specs.Prelude.{slice_get, Contains, IsTrue}
use Rattle.std.proofs.Math.Dec.{leb}
use Rattle.std.proofs.lemmas.Bool.{cases_eq, false≢true, leb-true, le-leb}
use Rattle.std.proofs.lemmas.List.{get_or_push, get_or_append_left, get_or_default}
use Rattle.std.proofs.lemmas.List.Elements.{All-contains}
use Rattle.std.proofs.lemmas.Option.{slice_get_within, slice_get-get_or}
use Rattle.log_chart.specs.Entries.{is_send}
use Rattle.log_chart.specs.declared.matching.LogLine.{LogLine}
use Rattle.log_chart.specs.Cycles.Order.{Follows, Comes}
use Rattle.log_chart.specs.Cycles.Order.Follows.{host as on_host, message as by_message}
use Rattle.log_chart.specs.Cycles.Order.Comes.{direct as comes_direct, through as comes_through}
use Rattle.race_verdicts.specs.Luck.Marking.{IsSendOf, AreFirsts, AreOrdered}
use Rattle.race_verdicts.specs.Luck.Recorded.{IsLog, IsSendLine}
use Rattle.race_verdicts.specs.Luck.WholeOrder.{IsAbove, IsDirectlyAhead, IsAhead}
use Rattle.race_verdicts.specs.Luck.WholeOrder.IsDirectlyAhead.{to_send, same_sender, message}
use Rattle.race_verdicts.specs.Luck.WholeOrder.IsAhead.{direct, through}
use Rattle.race_verdicts.proofs.LuckLemmas.LogLemmas.{contained_get, one_line}
use Rattle.race_verdicts.proofs.LuckLemmas.TableLemmas.{some_same}

module _ (lines : List LogLine) where
  directly_comes : (a b : ℕ) → IsDirectlyAhead lines a b → Follows lines a b
  directly_comes a b (to_send x y up sends is_a is_b) = on_host x y up.among up.among_too is_a is_b up.host (let less = up.less in omega (arith, is_a, is_b))
  directly_comes a b (same_sender x y up one two peer is_a is_b) = on_host x y up.among up.among_too is_a is_b up.host (let less = up.less in omega (arith, is_a, is_b))
  directly_comes a b (message y has is is_b) = by_message y has is_b is

  pub ahead_comes : (a b : ℕ) → IsAhead lines a b → Comes lines a b
  ahead_comes a b (direct d) = comes_direct (directly_comes a b d)
  ahead_comes a b (through {d = c} one two) = comes_through (ahead_comes a c one) (ahead_comes c b two)

-- a send ahead of z, or a line above a send that is z or ahead of it
data Reaches (lines : List LogLine) (a z : ℕ) : Type 0 where
  sent : (x : LogLine) → Contains lines x → x.number ≡ a → is_send x.entry.kind ≡ true → IsAhead lines a z → Reaches lines a z
  above : (x y : LogLine) → IsAbove lines x y → is_send y.entry.kind ≡ true → x.number ≡ a → (y.number ≡ z) ⊎ IsAhead lines y.number z → Reaches lines a z

module _ (lines : List LogLine) (log : IsLog lines) where
  then_ahead : (a d z : ℕ) → Reaches lines a d → IsAhead lines d z → Reaches lines a z
  then_ahead a d z (sent x has is sends ahead) more = sent x has is sends (through ahead more)
  then_ahead a d z (above x y up sends is (inl same)) more = above x y up sends is (inr (subst (λ n. IsAhead lines n z) (sym same) more))
  then_ahead a d z (above x y up sends is (inr ahead)) more = above x y up sends is (inr (through ahead more))

  reaches_ahead : (a z : ℕ) → Reaches lines a z → IsAhead lines a z
  reaches_ahead a z (sent x has is sends ahead) = ahead
  reaches_ahead a z (above x y up sends is (inl same)) = direct (to_send x y up sends is same)
  reaches_ahead a z (above x y up sends is (inr ahead)) = through (direct (to_send x y up sends is refl)) ahead

  above_too : (x y v w : LogLine) → IsAbove lines x y → y ≡ v → IsAbove lines v w → IsAbove lines x w
  above_too x y v w one same two =
      let hosts = ap (λ (l : LogLine). l.entry.host) same in
      let numbers = ap (λ (l : LogLine). l.number) same in
      record { among = one.among; among_too = two.among_too; host = one.host ∙ hosts ∙ two.host; less = let low = one.less in let high = two.less in omega (arith, numbers) }

  reach : (a b : ℕ) → Comes lines a b → (w : LogLine) → Contains lines w → is_send w.entry.kind ≡ true → (b ≡ w.number) ⊎ ((x : LogLine) × IsAbove lines x w × (x.number ≡ b)) → Reaches lines a w.number
  reach a b (comes_direct (on_host x y has_x has_y is_a is_b same less)) w has sends (inl here) =
      let one : y ≡ w = one_line lines log y w has_y has (is_b ∙ here) in
      above x w (record { among = has_x; among_too = has; host = same ∙ ap (λ (l : LogLine). l.entry.host) one; less = omega (arith, is_a, here, less) }) sends is_a (inl refl)
  reach a b (comes_direct (on_host x y has_x has_y is_a is_b same less)) w has sends (inr up) =
      let one : y ≡ up.0 = one_line lines log y up.0 has_y up.1.among (is_b ∙ sym up.2) in
      above x w (above_too x y up.0 w (record { among = has_x; among_too = has_y; host = same; less = omega (arith, is_a, is_b, less) }) one up.1) sends is_a (inl refl)
  reach a b (comes_direct (by_message y has_y is_b is)) w has sends (inl here) =
      let send = log.sends y a has_y is in
      sent send.line (contained_get lines a send.line send.is) (log.numbered a send.line send.is) send.sends (direct (message y has_y is (is_b ∙ here)))
  reach a b (comes_direct (by_message y has_y is_b is)) w has sends (inr up) =
      let send = log.sends y a has_y is in
      sent send.line (contained_get lines a send.line send.is) (log.numbered a send.line send.is) send.sends
      (through (direct (message y has_y is is_b)) (direct (to_send up.0 w up.1 sends up.2 refl)))
  reach a b (comes_through {d = c} one two) w has sends at = go (reach c b two w has sends at) (λ x has_x sends_x at_x. reach a c one x has_x sends_x at_x)
    where
      go : Reaches lines c w.number
          → ((x : LogLine) → Contains lines x → is_send x.entry.kind ≡ true → (c ≡ x.number) ⊎ ((y : LogLine) × IsAbove lines y x × (y.number ≡ c)) → Reaches lines a x.number)
          → Reaches lines a w.number
      go (sent x has_x is sends_x ahead) first = then_ahead a x.number w.number (first x has_x sends_x (inl (sym is))) (subst (λ n. IsAhead lines n w.number) (sym is) ahead)
      go (above x y up sends_y is (inl same)) first = subst (Reaches lines a) same (first y up.among_too sends_y (inr (x, up, is)))
      go (above x y up sends_y is (inr ahead)) first = then_ahead a y.number w.number (first y up.among_too sends_y (inr (x, up, is))) ahead

  pub comes_ahead : (a s : ℕ) → IsSendLine lines s → Comes lines a s → IsAhead lines a s
  comes_ahead a s send comes =
      let number = log.numbered s send.line send.is in
      subst (IsAhead lines a) number (reaches_ahead a send.line.number (reach a s comes send.line (contained_get lines s send.line send.is) send.sends (inl (sym number))))

  -- the meaning of the tables
  module _ (s : ℕ) (send : IsSendLine lines s) (line : LogLine) (is : slice_get lines s ≡ Some line) (firsts : List (Option ℕ)) (are : AreFirsts lines line.entry.host firsts) (a : ℕ) where
    its : IsSendOf lines line.entry.host s
    its = record { line = line; is = is; its = refl; sends = ap (λ (l : LogLine). is_send l.entry.kind) (some_same (sym is ∙ send.is)) ∙ send.sends }

    pub ahead_some : (m : ℕ) → get_or firsts a None ≡ Some m → (r : Bool) → (r ≡ true → m ≤ s) × (m ≤ s → r ≡ true) → IsTrue r ↔ IsAhead lines a s
    ahead_some m found r low = (
      λ yes. comes_ahead a s send (are.sound a m s found (low.0 yes) its),
      λ ahead. let w = are.all a s its (ahead_comes lines a s ahead) in low.1 (let same : m ≡ w.0 = some_same (sym found ∙ w.1) in omega (arith, w.2, same)),
    )

    pub ahead_none : get_or firsts a None ≡ None → IsTrue false ↔ IsAhead lines a s
    ahead_none none = (λ yes. absurd (false≢true yes), λ ahead. let w = are.all a s its (ahead_comes lines a s ahead) in absurd (cc (none, w.1)))

-- the tables of one more host
pub firsts_more : (lines : List LogLine) (place : ℕ) (tables : List (List (Option ℕ))) (more : List (Option ℕ)) → length tables ≡ place → ((p : ℕ) → p < place → AreFirsts lines (suc p) (get_or tables p []))
    → AreFirsts lines (suc place) more → (p : ℕ) → p < place + 1 → AreFirsts lines (suc p) (get_or (tables ++ more ∷ []) p [])
firsts_more lines place tables more whole each new p within =
    elim (cases_eq p place) [
      | inl same ↦
          subst (λ k. AreFirsts lines (suc k) (get_or (tables ++ more ∷ []) k [])) (sym same)
          (subst (AreFirsts lines (suc place)) (sym (get_or_push tables more [] place whole)) new)
      | inr other ↦
          subst (AreFirsts lines (suc p)) (sym (get_or_append_left {A = List (Option ℕ)} tables (more ∷ []) [] p (omega (arith, whole)))) (each p (omega arith))
    ]

-- the table of a send's host
module _ (lines : List LogLine) (tables : List (List (Option ℕ))) (are : AreOrdered lines tables) (s : ℕ) (send : IsSendLine lines s) (d : LogLine) (place : ℕ) (at : (get_or lines s d).entry.host ≡ suc place) where
  pub send_at : slice_get lines s ≡ Some (get_or lines s d)
  send_at = slice_get-get_or lines s d (slice_get_within lines s send.line send.is)

  pub host_within : place < length tables
  host_within =
      let low : (get_or lines s d).entry.host ≤ length tables = All-contains (λ (x : LogLine). x.entry.host ≤ length tables) lines (get_or lines s d) are.hosts (contained_get lines s (get_or lines s d) send_at) in
      omega (arith, low, at)

  firsts_at : AreFirsts lines (get_or lines s d).entry.host (get_or tables place [])
  firsts_at = subst (λ h. AreFirsts lines h (get_or tables place [])) (sym at) (are.each place host_within)

  module _ (a : ℕ) (table : List (Option ℕ)) (is : table ≡ get_or tables place table) where
    same_table : get_or tables place [] ≡ table
    same_table = get_or_default tables place [] table host_within ∙ sym is

    its_firsts : AreFirsts lines (get_or lines s d).entry.host table
    its_firsts = subst (AreFirsts lines (get_or lines s d).entry.host) same_table firsts_at

    pub known_some : (m : ℕ) → get_or table a None ≡ Some m → IsTrue (leb m s) ↔ IsAhead lines a s
    known_some m found = ahead_some lines are.log s send (get_or lines s d) send_at table its_firsts a m found (leb m s) (leb-true m s, le-leb m s)

    pub known_none : get_or table a None ≡ None → IsTrue false ↔ IsAhead lines a s
    known_none none = ahead_none lines are.log s send (get_or lines s d) send_at table its_firsts a none
