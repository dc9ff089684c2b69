-- The turns of messages are those of a run of any lines that have their events in the order of the rows.
use Rattle.std.proofs.Common.{◌≡◌, ℕ, ◌+◌, ◌*◌, ◌<◌, ◌≤◌, ◌==◌, ◌&&◌, ◌||◌, inl, inr, Bool, true, false, cond, List, [], ◌∷◌, ◌++◌, length, map, filter, refl, sym, ap, ap₂, ◌∙◌, subst, arith, append_assoc, eqb-true, eq-eqb}
use Rattle.std.specs.Prelude.{nat_lt}
use Rattle.std.specs.List.{list_any}
use Rattle.std.proofs.lemmas.Bool.{cases_lt}
use Rattle.std.proofs.lemmas.List.Folds.{list_any-append}
use Rattle.std.proofs.lemmas.List.{length-map}
use Rattle.std.proofs.lemmas.Nat.{mul-le}
use Rattle.chart.specs.declared.event.Event.TheVariants as events
use Rattle.chart.specs.declared.line.TheConstants.{MAX_EVENTS}
use Rattle.chart.specs.Charts.{LineView, chart_lines}
use Rattle.chart.specs.StableOrder.Order.{in_order_by}
use Rattle.chart.proofs.StableOrderLemmas.MappedLemmas.{order_mapped}
use Rattle.chart_layout.specs.KeptTurns.Runs.{IsRun}
use Rattle.diagram_labels.specs.Labels.{Labelling, with_label}
use Rattle.diagrams.specs.Diagrams.{ItemView}
use Rattle.diagrams.specs.Messages.Each.{Each, Pairs}
use Rattle.diagrams.specs.Messages.Following.{Follows, IsMessage, AreBuildable}
use Rattle.diagrams.specs.Messages.Lines.{lines_from}
use Rattle.diagrams.specs.Messages.Turns.{send_end, receive_end, all_ends, own_ends, in_turn}
use Rattle.diagrams.specs.Naming.{label_at, named_as, named_from}
use Rattle.diagrams.specs.declared.message.Message.{Message}
use Rattle.diagrams.specs.declared.messages.end.End.{End}
use Rattle.diagrams.specs.declared.messages.message.Named.{Named}
use Rattle.diagrams.proofs.MessagesLemmas.EachLemmas.{each_passing, pairs_filter}
use Rattle.diagrams.proofs.MessagesLemmas.LinesLemmas.{length-lines}
use Rattle.diagram_join.specs.Turns.Turns.{is_sent, sends_in, turns_of}
use Rattle.diagram_join.proofs.CutLemmas.{pairs_back}
use Rattle.diagram_laws.proofs.DiagramTurns.{Source, send_of, receive_of, sources, who, shown, plain, turn_of, bare_line, view_line, view_count, ends_run, after, after_one, moment, turns_are, fine, fines, fine_end, fine_turn, fine_ends, fine_turns, fine_instances, fine_events, in_moments}
use Rattle.diagram_laws.proofs.HistoryTurns.{bare}
use Rattle.diagram_laws.proofs.LaneLemmas.{line_events}
use Rattle.diagram_laws.proofs.Lists.{map_map, filter_map}
use Rattle.diagram_laws.proofs.Orders.{same_test, pairs_of, Agree, same_order, order_agrees, order_view, map_agrees}

abbrev pub anon : Message → Named
anon m = named_as m []

abbrev pub unnamed : End → End
unnamed e = record e { name = [] }

abbrev pub Flow : Message → Message → Type 0
Flow m k = Follows (anon m) (anon k)

-- Messages with names.

pub unnamed_ends : (labels : Labelling) (items : List ItemView) (ms : List Message) → map unnamed (all_ends (named_from labels items ms)) ≡ all_ends (map anon ms)
unfolding named_from all_ends
unnamed_ends labels items [] = refl
unnamed_ends labels items (m ∷ ms) = go m.is_lost _ _ (unnamed_ends (with_label labels (label_at items m.item)) items ms)
  where
    go : (lost : Bool) (name : List ℕ) (rest : List End) → map unnamed rest ≡ all_ends (map anon ms)
        → map unnamed (cond lost (send_end (named_as m name) ∷ []) (send_end (named_as m name) ∷ receive_end (named_as m name) ∷ []) ++ rest)
        ≡ cond lost (send_end (anon m) ∷ []) (send_end (anon m) ∷ receive_end (anon m) ∷ []) ++ all_ends (map anon ms)
    go true name rest same = ap (λ l. send_end (anon m) ∷ l) same
    go false name rest same = ap (λ l. send_end (anon m) ∷ receive_end (anon m) ∷ l) same

each_unnamed : (n : ℕ) (labels : Labelling) (items : List ItemView) (ms : List Message) → Each (IsMessage n) (named_from labels items ms) → Each (λ m. IsMessage n (anon m)) ms
unfolding named_from
each_unnamed n labels items [] all = tt
each_unnamed n labels items (m ∷ ms) all = (record { two = all.0.two; down = all.0.down }, each_unnamed n (with_label labels (label_at items m.item)) items ms all.1)

-- ends without their names are in the same order
pub unnamed_line : (p : ℕ) (ends : List End) → map plain (in_turn (own_ends p ends)) ≡ map plain (in_turn (own_ends p (map unnamed ends)))
unnamed_line p ends =
    sym (map_map unnamed plain (in_turn (own_ends p ends)))
    ∙ ap (map plain) (order_mapped unnamed turn_of (own_ends p ends))
    ∙ ap (λ l. map plain (in_turn l)) (sym (filter_map unnamed (λ (e : End). e.instance == p) ends))

abbrev plain_end : Source → End
plain_end x = cond x.sends (send_end (anon x.message)) (receive_end (anon x.message))

abbrev line_turn : Source → ℕ
line_turn x = cond x.sends (2 * x.message.begins) (2 * x.message.ends + 1)

plain_ends : (k : ℕ) (ms : List Message) → all_ends (map anon ms) ≡ map plain_end (sources k ms)
unfolding all_ends
plain_ends k [] = refl
plain_ends k (m ∷ ms) = go m.is_lost (plain_ends (k + 1) ms)
  where
    go : (lost : Bool) → all_ends (map anon ms) ≡ map plain_end (sources (k + 1) ms)
        → cond lost (send_end (anon m) ∷ []) (send_end (anon m) ∷ receive_end (anon m) ∷ []) ++ all_ends (map anon ms)
        ≡ map plain_end (cond lost (send_of k m ∷ []) (send_of k m ∷ receive_of k m ∷ []) ++ sources (k + 1) ms)
    go true rest = ap (λ l. send_end (anon m) ∷ l) rest
    go false rest = ap (λ l. send_end (anon m) ∷ receive_end (anon m) ∷ l) rest

plain_turns : (x : Source) → (plain_end x).turn ≡ line_turn x
plain_turns x = go x.sends
  where
    go : (b : Bool) → (cond b (send_end (anon x.message)) (receive_end (anon x.message))).turn ≡ cond b (2 * x.message.begins) (2 * x.message.ends + 1)
    go true = refl
    go false = refl

plain_instances : (x : Source) → (plain_end x).instance ≡ who x
plain_instances x = go x.sends
  where
    go : (b : Bool) → (cond b (send_end (anon x.message)) (receive_end (anon x.message))).instance ≡ cond b x.message.sender x.message.receiver
    go true = refl
    go false = refl

plain_events : (x : Source) → plain (plain_end x) ≡ shown x
plain_events x = go x.sends
  where
    go : (b : Bool) → plain (cond b (send_end (anon x.message)) (receive_end (anon x.message))) ≡ cond b (events.Send x.message.receiver []) (events.Receive x.message.sender [] 0)
    go true = refl
    go false = refl

module _ (all : List Message) where
  pub same_after : (e f p q : ℕ) → e ≡ f → p ≡ q → after all e p ≡ after all f q
  same_after e f p q rows instances = ap₂ (after all) rows instances

  -- Messages in cut rows have a chart.

  fines_each : (n k : ℕ) (ms : List Message) → Each (λ m. IsMessage n (anon m)) ms → Each (IsMessage n) (fines all (length all) k ms)
  fines_each n k [] each = tt
  fines_each n k (m ∷ ms) each = (
    record {
      two = each.0.two;
      down = λ here. let le = each.0.down here in
          let up : 2 * m.begins * length all ≤ (2 * m.ends + after all m.ends m.receiver) * length all = mul-le (2 * m.begins) (length all) (2 * m.ends + after all m.ends m.receiver) (length all) (omega (arith, le)) (omega arith) in
          omega (arith, up);
    },
    fines_each n (k + 1) ms each.1,
  )

  follow_one : (i j : ℕ) (m k : Message) → i < j → Flow m k → Follows (fine all (length all) i m) (fine all (length all) j k)
  follow_one i j m k less f = record {
    order = let le = f.order in
        let up : 2 * m.begins * length all ≤ 2 * k.begins * length all = mul-le (2 * m.begins) (length all) (2 * k.begins) (length all) (omega (arith, le)) (omega arith) in
        omega (arith, up, less);
    taken = λ from to here there. rows (f.taken from to here there) to;
    lost = f.lost;
  }
    where
      above : m.ends ≤ k.ends → m.receiver ≡ k.receiver → 2 * m.ends + after all m.ends m.receiver ≤ 2 * k.ends + after all k.ends k.receiver
      above le to = elim (cases_lt m.ends k.ends) [
        | inl lt ↦ omega (arith, lt, after_one all m.ends m.receiver)
        | inr ge ↦ let same : m.ends ≡ k.ends = omega (arith, le, ge) in omega (arith, same, same_after m.ends k.ends m.receiver k.receiver same to)
      ]

      rows : m.ends ≤ k.ends → m.receiver ≡ k.receiver → (2 * m.ends + after all m.ends m.receiver) * length all + i ≤ (2 * k.ends + after all k.ends k.receiver) * length all + j
      rows le to =
          let up : (2 * m.ends + after all m.ends m.receiver) * length all ≤ (2 * k.ends + after all k.ends k.receiver) * length all =
          mul-le (2 * m.ends + after all m.ends m.receiver) (length all) (2 * k.ends + after all k.ends k.receiver) (length all) (above le to) (omega arith) in
          omega (arith, up, less)

  follow_later : (i j : ℕ) (m : Message) (ms : List Message) → i < j → Each (Flow m) ms → Each (Follows (fine all (length all) i m)) (fines all (length all) j ms)
  follow_later i j m [] less each = tt
  follow_later i j m (k ∷ ms) less each = (follow_one i j m k less each.0, follow_later i (j + 1) m ms (omega (arith, less)) each.1)

  fines_follow : (k : ℕ) (ms : List Message) → Pairs Flow ms → Pairs Follows (fines all (length all) k ms)
  fines_follow k [] pairs = tt
  fines_follow k (m ∷ ms) pairs = (follow_later k (k + 1) m ms (omega arith) pairs.0, fines_follow (k + 1) ms pairs.1)

  -- The order of an instance's line is that of the moments.

  pub record Own (p : ℕ) (x : Source) : Type 0 where
    pub is : who x ≡ p
    pub known : x.sends ≡ true → sends_in all x.message.begins p ≡ true

  pub members : (before rest : List Message) → all ≡ before ++ rest → Each (λ (m : Message). sends_in all m.begins m.sender ≡ true) rest
  members before [] is = tt
  members before (m ∷ rest) is = (
    ap (list_any (is_sent m.begins m.sender)) is ∙ list_any-append (is_sent m.begins m.sender) before (m ∷ rest) ∙ here (list_any (is_sent m.begins m.sender) before),
    members (before ++ m ∷ []) rest (is ∙ sym (append_assoc before (m ∷ []) rest)),
  )
    where
      here : (b : Bool) → (b || ((m.begins == m.begins && m.sender == m.sender) || list_any (is_sent m.begins m.sender) rest)) ≡ true
      here true = refl
      here false = rw (eq-eqb m.begins m.begins refl, eq-eqb m.sender m.sender refl) refl

  pub owns : (p k : ℕ) (ms : List Message) → Each (λ (m : Message). sends_in all m.begins m.sender ≡ true) ms → Each (λ x. (who x == p) ≡ true → Own p x) (sources k ms)
  owns p k [] there = tt
  owns p k (m ∷ ms) there = go m.is_lost (owns p (k + 1) ms there.1)
    where
      send : (m.sender == p) ≡ true → Own p (send_of k m)
      send e = record { is = eqb-true m.sender p e; known = λ t. ap (sends_in all m.begins) (sym (eqb-true m.sender p e)) ∙ there.0 }

      receive : (m.receiver == p) ≡ true → Own p (receive_of k m)
      receive e = record { is = eqb-true m.receiver p e; known = λ t. absurd (cc t) }

      go : (lost : Bool) → Each (λ x. (who x == p) ≡ true → Own p x) (sources (k + 1) ms)
          → Each (λ x. (who x == p) ≡ true → Own p x) (cond lost (send_of k m ∷ []) (send_of k m ∷ receive_of k m ∷ []) ++ sources (k + 1) ms)
      go true rest = (send, rest)
      go false rest = (send, (receive, rest))

  by_kind : (p : ℕ) (one : Bool) (m : Message) (other : Bool) (k : Message) → cond one m.sender m.receiver ≡ p → cond other k.sender k.receiver ≡ p → (other ≡ true → sends_in all k.begins p ≡ true)
      → nat_lt (cond other (2 * k.begins) (2 * k.ends + 1)) (cond one (2 * m.begins) (2 * m.ends + 1))
      ≡ nat_lt (cond other (2 * k.begins) (2 * k.ends + after all k.ends k.receiver)) (cond one (2 * m.begins) (2 * m.ends + after all m.ends m.receiver))
  by_kind p true m true k is at known = refl
  by_kind p true m false k is at known = same_test (2 * k.ends + 1) (2 * m.begins) (2 * k.ends + after all k.ends k.receiver) (2 * m.begins)
      (λ lt. omega (arith, lt, after_one all k.ends k.receiver)) (λ le. omega (arith, le))
  by_kind p false m true k is at known = same_test (2 * k.begins) (2 * m.ends + 1) (2 * k.begins) (2 * m.ends + after all m.ends m.receiver)
      (λ lt. elim (cases_lt k.begins m.ends) [
        | inl less ↦ omega (arith, less)
        | inr past ↦
            let same : m.ends ≡ k.begins = omega (arith, lt, past) in
            let one : after all m.ends m.receiver ≡ 1 = ap {B = ℕ} (λ b. cond b 1 0) (ap₂ (sends_in all) same is ∙ known refl) in
            omega (arith, one, lt)
      ])
      (λ le. omega (arith, le, after_one all m.ends m.receiver))
  by_kind p false m false k is at known = same_test (2 * k.ends + 1) (2 * m.ends + 1) (2 * k.ends + after all k.ends k.receiver) (2 * m.ends + after all m.ends m.receiver)
      (λ lt. omega (arith, lt, after_one all k.ends k.receiver))
      (λ le. elim (cases_lt m.ends k.ends) [
        | inl less ↦ omega (arith, less, after_one all m.ends m.receiver)
        | inr past ↦ let same : m.ends ≡ k.ends = omega (arith, le, past) in omega (arith, same, same_after m.ends k.ends m.receiver k.receiver same (is ∙ sym at))
      ])

  line_order : (p : ℕ) → in_order_by line_turn (filter (λ x. who x == p) (sources 0 all)) ≡ in_order_by (moment all) (filter (λ x. who x == p) (sources 0 all))
  line_order p = same_order line_turn (moment all) (filter (λ x. who x == p) (sources 0 all))
      (pairs_of (Own p) (Agree line_turn (moment all)) (λ x y one other. by_kind p x.sends x.message y.sends y.message one.is other.is other.known) (filter (λ x. who x == p) (sources 0 all))
      (each_passing (Own p) (λ x. who x == p) (sources 0 all) (owns p 0 all (members [] all refl))))

  -- The turns.

  module _ (n : ℕ) (labels : Labelling) (items : List ItemView) (are : AreBuildable n (named_from labels items all)) where
    each : Each (λ m. IsMessage n (anon m)) all
    each = each_unnamed n labels items all are.each

    line : (p : ℕ) → map plain (in_turn (own_ends p (all_ends (named_from labels items all)))) ≡ map shown (in_order_by (moment all) (filter (λ x. who x == p) (sources 0 all)))
    line p =
        unnamed_line p (all_ends (named_from labels items all))
        ∙ ap (λ ends. map plain (in_turn (own_ends p ends))) (unnamed_ends labels items all ∙ plain_ends 0 all)
        ∙ view_line plain_end line_turn plain_turns plain_instances plain_events p (sources 0 all)
        ∙ ap (map shown) (line_order p)

    few : (p : ℕ) → length (filter (λ x. who x == p) (sources 0 all)) ≤ MAX_EVENTS
    few p =
        let count = sym (view_count plain_end plain_instances p (sources 0 all)) ∙ ap (λ ends. length (own_ends p ends)) (sym (unnamed_ends labels items all ∙ plain_ends 0 all)) in
        let same = ap length (filter_map unnamed (λ (e : End). e.instance == p) (all_ends (named_from labels items all))) ∙ length-map (own_ends p (all_ends (named_from labels items all))) unnamed in
        omega (arith, count, same, are.room p)

    cut : AreBuildable n (fines all (length all) 0 all)
    cut = record {
      each = fines_each n 0 all each;
      follow = fines_follow 0 all (pairs_back items labels all are.follow);
      room = λ p. omega (arith, few p, ap (λ ends. length (own_ends p ends)) (fine_ends all (length all) 0 all), view_count (fine_end all (length all)) (fine_instances all (length all)) p (sources 0 all));
    }

    agree : Pairs (Agree (moment all) (fine_turn all (length all))) (sources 0 all)
    agree = in_moments all (length all) 0 all (omega arith) (downs all each)
      where
        downs : (ms : List Message) → Each (λ m. IsMessage n (anon m)) ms → Each (λ (m : Message). m.is_lost ≡ false → m.begins ≤ m.ends) ms
        downs [] its = tt
        downs (m ∷ ms) its = (its.0.down, downs ms its.1)

    cut_line : (p : ℕ) → map plain (in_turn (own_ends p (all_ends (fines all (length all) 0 all)))) ≡ map shown (in_order_by (moment all) (filter (λ x. who x == p) (sources 0 all)))
    cut_line p =
        ap (λ ends. map plain (in_turn (own_ends p ends))) (fine_ends all (length all) 0 all)
        ∙ view_line (fine_end all (length all)) (fine_turn all (length all)) (fine_turns all (length all)) (fine_instances all (length all)) (fine_events all (length all)) p (sources 0 all)
        ∙ ap (map shown) (sym (same_order (moment all) (fine_turn all (length all)) (filter (λ x. who x == p) (sources 0 all)) (pairs_filter (Agree (moment all) (fine_turn all (length all))) (λ x. who x == p) (sources 0 all) agree)))

    cut_turns : map (λ (e : End). e.instance) (in_turn (all_ends (fines all (length all) 0 all))) ≡ turns_of all
    cut_turns =
        ap (λ ends. map (λ (e : End). e.instance) (in_turn ends)) (fine_ends all (length all) 0 all)
        ∙ order_view (fine_end all (length all)) turn_of (λ (e : End). e.instance) (sources 0 all)
        ∙ ap (map (λ x. (fine_end all (length all) x).instance)) (order_agrees (λ x. (fine_end all (length all) x).turn) (fine_turn all (length all)) (fine_turns all (length all)) (sources 0 all) ∙ sym (same_order (moment all) (fine_turn all (length all)) (sources 0 all) agree))
        ∙ map_agrees (λ x. (fine_end all (length all) x).instance) who (fine_instances all (length all)) (in_order_by (moment all) (sources 0 all))
        ∙ sym (turns_are all)

    pub rows_run : (lines : List LineView) → length lines ≡ n
        → ((p : ℕ) → 1 ≤ p → p ≤ n → map bare (chart_lines lines p) ≡ map shown (in_order_by (moment all) (filter (λ x. who x == p) (sources 0 all))))
        → IsRun (chart_lines lines) (turns_of all)
    rows_run lines many same = subst (IsRun (chart_lines lines)) cut_turns
        (ends_run n (fines all (length all) 0 all) cut lines many (λ p low high. same p low high ∙ sym (cut_line p)))

    pub plain_run : IsRun (chart_lines (lines_from (all_ends (named_from labels items all)) 1 n)) (turns_of all)
    plain_run = rows_run (lines_from (all_ends (named_from labels items all)) 1 n) (length-lines (all_ends (named_from labels items all)) 1 n)
        (λ p low high. ap (map bare) (line_events (all_ends (named_from labels items all)) n p low high) ∙ bare_line _ [] (in_turn (own_ends p (all_ends (named_from labels items all)))) ∙ line p)
