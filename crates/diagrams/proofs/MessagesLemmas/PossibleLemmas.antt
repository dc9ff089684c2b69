-- The lines of messages that follow each other are those of a possible chart.
use Rattle.std.proofs.Common.{◌≡◌, ℕ, zero, suc, ◌≤◌, Bool, true, false, cond, List, [], ◌∷◌, ◌++◌, length, map, None, refl, sym, ap, ◌∙◌, subst, arith, add-one}
use Rattle.std.specs.List.{range_with_len}
use Rattle.chart.specs.declared.history.Occurrence.{Occurrence}
use Rattle.chart.specs.Histories.{chart_of, AreTwo, IsLegal}
use Rattle.chart.specs.HistoryLines.{history_line, history_lines}
use Rattle.chart.specs.Charts.{chart_lines, HasPartners, IsPossible}
use Rattle.chart.proofs.HistoryLines.{chart-is, lines-partnered}
use Rattle.diagrams.specs.Messages.Lines.{lines_from}
use Rattle.diagrams.specs.Messages.Regions.{with_ends, line_of}
use Rattle.diagrams.specs.Messages.Turns.{send_end, receive_end, all_ends, own_ends, in_turn}
use Rattle.diagrams.specs.declared.messages.end.End.{End}
use Rattle.diagrams.specs.declared.messages.message.Named.{Named}
use Rattle.diagrams.specs.Messages.Each.{Each}
use Rattle.diagrams.proofs.MessagesLemmas.EachLemmas.{each_weaker}
use Rattle.diagrams.specs.Messages.Following.{IsMessage, AreBuildable}
use Rattle.diagrams.proofs.MessagesLemmas.FifoLemmas.{own_in_turn, turn_each, lane_fifo}
use Rattle.chart.proofs.StableOrderLemmas.OrderLemmas.{order_length}
use Rattle.diagrams.proofs.MessagesLemmas.HistoryLemmas.{Stands, history_from, history_legal, history_chart}
use Rattle.diagrams.proofs.MessagesLemmas.LineLemmas.{open_none}

-- each end is between two instances
pub ends_two : (n : ℕ) (messages : List Named) → Each (IsMessage n) messages → Each (λ e. AreTwo n e.instance e.partner) (all_ends messages)
unfolding all_ends
ends_two n [] all = tt
ends_two n (m ∷ messages) all = go m.is_lost (ends_two n messages all.1)
  where
    swapped : AreTwo n m.receiver m.sender
    swapped = let two = all.0.two in (two.2, two.3, two.0, two.1, λ e. two.4 (sym e))

    go : (lost : Bool) → Each (λ e. AreTwo n e.instance e.partner) (all_ends messages)
        → Each (λ e. AreTwo n e.instance e.partner) (cond lost (send_end m ∷ []) (send_end m ∷ receive_end m ∷ []) ++ all_ends messages)
    go true rest = (all.0.two, rest)
    go false rest = (all.0.two, (swapped, rest))

-- before the first end
begins : (n : ℕ) (messages : List Named) → AreBuildable n messages → Stands n (suc (length (in_turn (all_ends messages)))) [] (λ p. None) (in_turn (all_ends messages))
begins n messages are = record {
  legal = tt;
  opened = λ q p. refl;
  slots = omega arith;
  two = turn_each (λ e. AreTwo n e.instance e.partner) (all_ends messages) (ends_two n messages are.each);
  room = λ p. omega (arith, are.room p, ap length (own_in_turn p (all_ends messages)), order_length (λ (e : End). e.turn) (own_ends p (all_ends messages)));
  is_open = λ p. open_none (own_ends p (in_turn (all_ends messages)));
  fifo = lane_fifo messages are.follow (each_weaker (IsMessage n) (λ m. m.is_lost ≡ false → m.begins ≤ m.ends) (λ m is. is.down) messages are.each);
}

-- the lines are those of a history that has the same events
same_lines : (ends : List End) (h : List Occurrence) → ((p : ℕ) → chart_of h p ≡ with_ends None [] (in_turn (own_ends p ends))) → (p n : ℕ)
    → lines_from ends p n ≡ map (λ i. history_line h i) (range_with_len p n)
unfolding lines_from line_of
same_lines ends h are p zero = refl
same_lines ends h are p (suc n) = rw (add-one p, sym (are p)) (ap (λ l. history_line h p ∷ l) (same_lines ends h are (suc p) n))

-- the history whose chart they are
abbrev slots_for : List Named → ℕ
slots_for messages = suc (length (in_turn (all_ends messages)))

abbrev built_by : List Named → List Occurrence
built_by messages = history_from [] (λ p. None) (in_turn (all_ends messages))

built_legal : (n : ℕ) (messages : List Named) → AreBuildable n messages → IsLegal n (slots_for messages) (built_by messages)
built_legal n messages are = history_legal n (slots_for messages) [] (λ p. None) (in_turn (all_ends messages)) (begins n messages are)

built_lines : (n : ℕ) (messages : List Named) → AreBuildable n messages → lines_from (all_ends messages) 1 n ≡ history_lines n (built_by messages)
built_lines n messages are = same_lines (all_ends messages) (built_by messages) line 1 n
  where
    line : (p : ℕ) → chart_of (built_by messages) p ≡ with_ends None [] (in_turn (own_ends p (all_ends messages)))
    line p = history_chart n (slots_for messages) [] (λ p. None) (in_turn (all_ends messages)) (begins n messages are) p ∙ ap (with_ends None []) (own_in_turn p (all_ends messages))

pub possible_lines : (n : ℕ) (messages : List Named) → AreBuildable n messages → IsPossible n (chart_lines (lines_from (all_ends messages) 1 n))
possible_lines n messages are = (
  built_by messages,
  slots_for messages,
  built_legal n messages are,
  λ p. ap (λ c. c p) (chart-is n (slots_for messages) (built_by messages) (built_legal n messages are)) ∙ ap (λ lines. chart_lines lines p) (sym (built_lines n messages are)),
)

-- each event's partner is one of the instances
pub partnered_lines : (n : ℕ) (messages : List Named) → AreBuildable n messages → HasPartners n (lines_from (all_ends messages) 1 n)
partnered_lines n messages are = subst (HasPartners n) (sym (built_lines n messages are)) (lines-partnered n (slots_for messages) (built_by messages) (built_legal n messages are))
