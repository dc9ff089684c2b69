-- What a sender that has received nothing knows: only its own events.
use Rattle.std.proofs.Common.{◌≡◌, ℕ, ◌+◌, ◌==◌, drop, Bool, true, false, cond, List, [], ◌∷◌, ◌++◌, length, refl, sym, ap, ◌∙◌, subst, arith}
use Rattle.std.proofs.lemmas.Bool.{eqb-true, and_parts}
use Rattle.chart.specs.declared.history.Occurrence.{Occurrence}
use Rattle.chart.specs.declared.history.Occurrence.TheVariants.{Send, Receive, Close}
use Rattle.chart.specs.Histories.{received, is_lane, chart_of}
use Rattle.chart.proofs.Histories.{is_lane-same, received_begins}
use Rattle.clock.specs.Clocks.{entry_of, with_entry, merged}
use Rattle.clock.specs.Diffs.{AgreeBut}
use Rattle.clock.proofs.EntryLemmas.{agree_stamped}
use Rattle.line_recorder.specs.Carried.{carried, first_clock, knowledge_of}
use Rattle.line_recorder.specs.Recorders.{RecorderView}
use Rattle.line_recorder.specs.Recording.{IsRecorder}
use Rattle.board_core.specs.Parcels.{Parcel, next_clock, goods}
use Rattle.board_core.specs.Differences.{zeros}
use Rattle.board_table.specs.Carrying.{last_clock, sent_base}
use Rattle.board_table.proofs.Carried.{last_clock-append}
use Rattle.board.specs.declared.ends.Outgoing.{Outgoing}
use Rattle.board.specs.Known.{IsOutgoing}

-- p received nothing
abbrev pub Untaught : List Occurrence → ℕ → Type 0
Untaught h p = (q : ℕ) → received h q p ≡ 0

-- it had received nothing before either
untaught_before : (e : Occurrence) (h : List Occurrence) (p : ℕ) → Untaught (e ∷ h) p → Untaught h p
untaught_before e h p none q = let less = received_begins h (e ∷ h) (e ∷ [], refl) q p in let zero : received (e ∷ h) q p ≡ 0 = none q in omega (arith, less, zero)

-- p knows nothing of others
pub knows_itself : (n : ℕ) (h : List Occurrence) (p : ℕ) → Untaught h p → AgreeBut p (zeros n) (knowledge_of n h p)
knows_itself n [] p none = λ q other. refl
knows_itself n (Send a b m ∷ h) p none = go (p == a) (knows_itself n h p (untaught_before (Send a b m) h p none))
  where
    go : (its : Bool) → AgreeBut p (zeros n) (knowledge_of n h p) → AgreeBut p (zeros n) (cond its (with_entry (knowledge_of n h p) p (length (chart_of h a) + 1)) (knowledge_of n h p))
    go true before = agree_stamped (zeros n) (knowledge_of n h p) p (length (chart_of h a) + 1) before
    go false before = before
knows_itself n (Receive a b c ∷ h) p none = go (p == a) refl (knows_itself n h p (untaught_before (Receive a b c) h p none))
  where
    clock : List ℕ
    clock = first_clock (drop (received h b a) ((carried n h).clocks b a))

    go : (its : Bool) → (p == a) ≡ its → AgreeBut p (zeros n) (knowledge_of n h p) → AgreeBut p (zeros n) (cond its (merged (knowledge_of n h p) clock) (knowledge_of n h p))
    go true same before =
        let more : received (Receive a b c ∷ h) b a ≡ received h b a + 1 = ap (λ its. cond its (received h b a + 1) (received h b a)) (is_lane-same b a) in
        let zero : received (Receive a b c ∷ h) b a ≡ 0 = subst (λ x. received (Receive a b c ∷ h) b x ≡ 0) (eqb-true p a same) (none b) in
        absurd (omega (arith, more, zero))
    go false same before = before
knows_itself n (Close a b ∷ h) p none = knows_itself n h p (untaught_before (Close a b) h p none)

-- so its messages carry nothing about others
pub informs_itself : (n : ℕ) (h : List Occurrence) (p q : ℕ) → Untaught h p → AgreeBut p (zeros n) (sent_base n h p q)
informs_itself n [] p q none = λ r other. refl
informs_itself n (Send a b m ∷ h) p q none = go (is_lane a b p q) refl (informs_itself n h p q (untaught_before (Send a b m) h p none))
  where
    y : Parcel
    y = record { message = m; clock = next_clock n h a }

    go : (its : Bool) → is_lane a b p q ≡ its → AgreeBut p (zeros n) (sent_base n h p q) → AgreeBut p (zeros n) (last_clock (zeros n) (cond its (goods n h p q ++ y ∷ []) (goods n h p q)))
    go true same before =
        let stamped : AgreeBut p (zeros n) (next_clock n h p) = agree_stamped (zeros n) (knowledge_of n h p) p (length (chart_of h p) + 1) (knows_itself n h p (untaught_before (Send a b m) h p none)) in
        subst (λ (clock : List ℕ). AgreeBut p (zeros n) clock) (sym (last_clock-append (zeros n) (goods n h p q) (y ∷ [])))
        (subst (λ x. AgreeBut p (zeros n) (next_clock n h x)) (sym (eqb-true a p (and_parts (a == p) (b == q) same).0)) stamped)
    go false same before = before
informs_itself n (Receive a b c ∷ h) p q none = informs_itself n h p q (untaught_before (Receive a b c) h p none)
informs_itself n (Close a b ∷ h) p q none = informs_itself n h p q (untaught_before (Close a b) h p none)

-- nothing new about others is known since the last message on a lane
pub nothing_new : (n : ℕ) (h : List Occurrence) (p q : ℕ) (end : Outgoing) (r : RecorderView) → Untaught h p → IsOutgoing n h p q end → IsRecorder n h p r → AgreeBut p end.base r.knowledge
nothing_new n h p q end r none outgoing recorder x other =
    ap (λ (clock : List ℕ). entry_of clock x) recorder.knowledge ∙ knows_itself n h p none x other
    ∙ sym (ap (λ (clock : List ℕ). entry_of clock x) outgoing.base ∙ informs_itself n h p q none x other)
