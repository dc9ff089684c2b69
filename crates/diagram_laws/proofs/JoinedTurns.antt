-- The turns of a diagram are those of a run of its chart, also if some of its lines are joined.
use Rattle.std.proofs.Common.{◌≡◌, ℕ, ◌+◌, ◌*◌, ◌<◌, ◌≤◌, ◌==◌, inl, inr, Bool, true, false, cond, List, [], ◌∷◌, ◌++◌, Option, None, Some, Result, Ok, Err, length, map, filter, refl, sym, ap, ap₂, ◌∙◌, subst, arith}
use Rattle.std.specs.Prelude.{nat_lt}
use Rattle.std.proofs.lemmas.Bool.{cases_lt}
use Rattle.std.proofs.lemmas.List.{length-map}
use Rattle.std.proofs.lemmas.Nat.{mul-le}
use Rattle.chart.specs.declared.event.Event.TheVariants as events
use Rattle.chart.specs.Charts.{chart_lines}
use Rattle.chart.specs.StableOrder.Order.{in_order_by}
use Rattle.chart_layout.specs.KeptTurns.Runs.{IsRun}
use Rattle.diagram_labels.specs.Labels.{Labelling, none}
use Rattle.diagrams.specs.Building.{◌>>=◌, DiagramChartView, chart_built, has_no_chart, built}
use Rattle.diagrams.specs.Collecting.{collected}
use Rattle.diagrams.specs.Crossing.{fault_from}
use Rattle.diagrams.specs.Diagrams.{ItemView, DiagramView}
use Rattle.diagrams.specs.Full.{full_from}
use Rattle.diagrams.specs.Messages.Each.{Each, Pairs}
use Rattle.diagrams.specs.Messages.Following.{AreBuildable}
use Rattle.diagrams.specs.Messages.Lines.{lines_from}
use Rattle.diagrams.specs.Messages.Turns.{send_end, receive_end, all_ends, own_ends, in_turn}
use Rattle.diagrams.specs.Naming.{names_from, named_from}
use Rattle.diagrams.specs.declared.built.BuildError.{BuildError}
use Rattle.diagrams.specs.declared.left_out.LeftOut.{LeftOut}
use Rattle.diagrams.specs.declared.message.Message.{Message}
use Rattle.diagrams.specs.declared.messages.end.End.{End}
use Rattle.diagrams.proofs.ChartLemmas.{items_sound, messages_built}
use Rattle.diagrams.proofs.MessagesLemmas.EachLemmas.{each_passing, each_filter, pairs_filter}
use Rattle.diagrams.proofs.MessagesLemmas.LinesLemmas.{length-lines}
use Rattle.diagrams.proofs.PlacedLemmas.{AreCollected}
use Rattle.diagrams.proofs.StayingLemmas.{none_overtakes, stay_built}
use Rattle.diagram_join.specs.Building.{JoinedChartView, alone, unless, checked, joined_chart_of, lines_joined, built_joined}
use Rattle.diagram_join.specs.Coregions.{place_in, cut, cut_from}
use Rattle.diagram_join.specs.Joined.{JoinedView, all_across, joined_of}
use Rattle.diagram_join.specs.Joins.{JoinView, process_of}
use Rattle.diagram_join.specs.Joins as instances
use Rattle.diagram_join.specs.Moves.{staying_from}
use Rattle.diagram_join.specs.Turns.Diagrams.{stay_of, messages_named, messages_of}
use Rattle.diagram_join.specs.Turns.Turns.{sends_in, turns_of}
use Rattle.diagram_join.specs.declared.error.JoinError.{JoinError}
use Rattle.diagram_join.specs.declared.error.JoinError.TheVariants.{Instances, NotPossible, LineFull}
use Rattle.diagram_join.proofs.StayingLemmas.{stays_collected, stays_sound}
use Rattle.diagram_laws.specs.Turns.{DiagramTurnsLaw}
use Rattle.diagram_laws.proofs.DiagramTurns.{Source, send_of, receive_of, sources, who, shown, plain, bare_line, view_line, after, after_one, moment}
use Rattle.diagram_laws.proofs.HistoryTurns.{bare}
use Rattle.diagram_laws.proofs.ImportLemmas.{built_is, stay_is, joined_is, joined_same}
use Rattle.diagram_laws.proofs.LaneLemmas.{line_events}
use Rattle.diagram_laws.proofs.Orders.{same_test, Agree, same_order}
use Rattle.diagram_laws.proofs.PlaceLemmas.{Placed, IsWithin, placed_all, within_all}
use Rattle.diagram_laws.proofs.RowTurns.{anon, unnamed_ends, unnamed_line, same_after, Own, members, owns, rows_run, plain_run}

-- Rows that are cut into as many as there are messages.

cut_less : (e f u v L : ℕ) → e < f → u < L → e * L + u < f * L + v
cut_less e f u v L less within =
    let up : (e + 1) * L ≤ f * L = mul-le (e + 1) L f L (omega (arith, less)) (omega arith) in
    let out : (e + 1) * L ≡ e * L + L = omega arith in
    omega (arith, up, out, within)

cut_up : (e f L : ℕ) → e ≤ f → e * L ≤ f * L
cut_up e f L le = mul-le e L f L le (omega arith)

pairs_with : {A : Type 0} (P : A → Type 0) (R S : A → A → Type 0) → ((x y : A) → P x → P y → R x y → S x y) → (xs : List A) → Each P xs → Pairs R xs → Pairs S xs
pairs_with P R S f [] each pairs = tt
pairs_with {A} P R S f (x ∷ xs) each pairs = (beside xs each.1 pairs.0, pairs_with P R S f xs each.1 pairs.1)
  where
    beside : (ys : List A) → Each P ys → Each (R x) ys → Each (S x) ys
    beside [] its all = tt
    beside (y ∷ ys) its all = (f x y each.0 its.0 all.0, beside ys its.1 all.1)

module _ (all : List Message) where
  abbrev cut_end : Source → End
  cut_end x = cond x.sends (send_end (anon (cut all x.number x.message))) (receive_end (anon (cut all x.number x.message)))

  abbrev cut_turn : Source → ℕ
  cut_turn x = cond x.sends (2 * (x.message.begins * length all)) (2 * (x.message.ends * length all + place_in all x.number x.message) + 1)

  cut_ends : (k : ℕ) (ms : List Message) → all_ends (map anon (cut_from all k ms)) ≡ map cut_end (sources k ms)
  unfolding all_ends cut_from
  cut_ends k [] = refl
  cut_ends k (m ∷ ms) = go m.is_lost (cut_ends (k + 1) ms)
    where
      go : (lost : Bool) → all_ends (map anon (cut_from all (k + 1) ms)) ≡ map cut_end (sources (k + 1) ms)
          → cond lost (send_end (anon (cut all k m)) ∷ []) (send_end (anon (cut all k m)) ∷ receive_end (anon (cut all k m)) ∷ []) ++ all_ends (map anon (cut_from all (k + 1) ms))
          ≡ map cut_end (cond lost (send_of k m ∷ []) (send_of k m ∷ receive_of k m ∷ []) ++ sources (k + 1) ms)
      go true rest = ap (λ l. send_end (anon (cut all k m)) ∷ l) rest
      go false rest = ap (λ l. send_end (anon (cut all k m)) ∷ receive_end (anon (cut all k m)) ∷ l) rest

  cut_turns : (x : Source) → (cut_end x).turn ≡ cut_turn x
  cut_turns x = go x.sends
    where
      go : (b : Bool) → (cond b (send_end (anon (cut all x.number x.message))) (receive_end (anon (cut all x.number x.message)))).turn
          ≡ cond b (2 * (x.message.begins * length all)) (2 * (x.message.ends * length all + place_in all x.number x.message) + 1)
      go true = refl
      go false = refl

  cut_instances : (x : Source) → (cut_end x).instance ≡ who x
  cut_instances x = go x.sends
    where
      go : (b : Bool) → (cond b (send_end (anon (cut all x.number x.message))) (receive_end (anon (cut all x.number x.message)))).instance ≡ cond b x.message.sender x.message.receiver
      go true = refl
      go false = refl

  cut_events : (x : Source) → plain (cut_end x) ≡ shown x
  cut_events x = go x.sends
    where
      go : (b : Bool) → plain (cond b (send_end (anon (cut all x.number x.message))) (receive_end (anon (cut all x.number x.message)))) ≡ cond b (events.Send x.message.receiver []) (events.Receive x.message.sender [] 0)
      go true = refl
      go false = refl

  -- what is known of an event of p
  record Known (p : ℕ) (x : Source) : Type 0 where
    pub own : Own all p x
    pub within : IsWithin all x

  module _ (p : ℕ) (m : Message) (i : ℕ) (k : Message) (j : ℕ) (some : 1 ≤ length all) where
    two_sends : nat_lt (2 * (k.begins * length all)) (2 * (m.begins * length all)) ≡ nat_lt (2 * k.begins) (2 * m.begins)
    two_sends = same_test (2 * (k.begins * length all)) (2 * (m.begins * length all)) (2 * k.begins) (2 * m.begins)
        (λ lt. elim (cases_lt k.begins m.begins) [
          | inl less ↦ omega (arith, less)
          | inr past ↦ let up = cut_up m.begins k.begins (length all) past in absurd (omega (arith, lt, up))
        ])
        (λ le. elim (cases_lt k.begins m.begins) [
          | inl less ↦ let more = cut_less k.begins m.begins 0 0 (length all) less some in absurd (omega (arith, le, more))
          | inr past ↦ omega (arith, past)
        ])

    then_receive : place_in all j k < length all
        → nat_lt (2 * (k.ends * length all + place_in all j k) + 1) (2 * (m.begins * length all)) ≡ nat_lt (2 * k.ends + after all k.ends k.receiver) (2 * m.begins)
    then_receive low = same_test (2 * (k.ends * length all + place_in all j k) + 1) (2 * (m.begins * length all)) (2 * k.ends + after all k.ends k.receiver) (2 * m.begins)
        (λ lt. elim (cases_lt k.ends m.begins) [
          | inl less ↦ omega (arith, less, after_one all k.ends k.receiver)
          | inr past ↦ let up = cut_up m.begins k.ends (length all) past in absurd (omega (arith, lt, up))
        ])
        (λ le. elim (cases_lt k.ends m.begins) [
          | inl less ↦ let more = cut_less k.ends m.begins (place_in all j k) 0 (length all) less low in absurd (omega (arith, le, more))
          | inr past ↦ omega (arith, past)
        ])

    then_send : place_in all i m < length all → m.receiver ≡ p → sends_in all k.begins p ≡ true
        → nat_lt (2 * (k.begins * length all)) (2 * (m.ends * length all + place_in all i m) + 1) ≡ nat_lt (2 * k.begins) (2 * m.ends + after all m.ends m.receiver)
    then_send low is known = same_test (2 * (k.begins * length all)) (2 * (m.ends * length all + place_in all i m) + 1) (2 * k.begins) (2 * m.ends + after all m.ends m.receiver)
        (λ lt. elim (cases_lt k.begins m.ends) [
          | inl less ↦ omega (arith, less)
          | inr past ↦ elim (cases_lt m.ends k.begins) [
            | inl less ↦ let more = cut_less m.ends k.begins (place_in all i m) 0 (length all) less low in absurd (omega (arith, lt, more))
            | inr past2 ↦
                let same : m.ends ≡ k.begins = omega (arith, past, past2) in
                let one : after all m.ends m.receiver ≡ 1 = ap {B = ℕ} (λ b. cond b 1 0) (ap₂ (sends_in all) same is ∙ known) in
                omega (arith, one, same)
          ]
        ])
        (λ le. elim (cases_lt m.ends k.begins) [
          | inl less ↦ omega (arith, less, after_one all m.ends m.receiver)
          | inr past ↦ let up = cut_up k.begins m.ends (length all) past in absurd (omega (arith, le, up))
        ])

    two_receives : place_in all i m < length all → place_in all j k < length all → m.receiver ≡ p → k.receiver ≡ p → (m.ends ≡ k.ends → place_in all i m ≤ place_in all j k)
        → nat_lt (2 * (k.ends * length all + place_in all j k) + 1) (2 * (m.ends * length all + place_in all i m) + 1) ≡ nat_lt (2 * k.ends + after all k.ends k.receiver) (2 * m.ends + after all m.ends m.receiver)
    two_receives low high is at placed = same_test (2 * (k.ends * length all + place_in all j k) + 1) (2 * (m.ends * length all + place_in all i m) + 1) (2 * k.ends + after all k.ends k.receiver) (2 * m.ends + after all m.ends m.receiver)
        (λ lt. elim (cases_lt k.ends m.ends) [
          | inl less ↦ omega (arith, less, after_one all k.ends k.receiver)
          | inr past ↦ elim (cases_lt m.ends k.ends) [
            | inl less ↦ let more = cut_less m.ends k.ends (place_in all i m) (place_in all j k) (length all) less low in absurd (omega (arith, lt, more))
            | inr past2 ↦
                let same : m.ends ≡ k.ends = omega (arith, past, past2) in
                let order = placed same in
                absurd (omega (arith, lt, order, cut_up m.ends k.ends (length all) past))
          ]
        ])
        (λ le. elim (cases_lt m.ends k.ends) [
          | inl less ↦ omega (arith, less, after_one all m.ends m.receiver)
          | inr past ↦ elim (cases_lt k.ends m.ends) [
            | inl less ↦ let more = cut_less k.ends m.ends (place_in all j k) (place_in all i m) (length all) less high in absurd (omega (arith, le, more))
            | inr past2 ↦ let same : m.ends ≡ k.ends = omega (arith, past, past2) in omega (arith, same, same_after all m.ends k.ends m.receiver k.receiver same (is ∙ sym at))
          ]
        ])

  by_kind : (p : ℕ) (one : Bool) (m : Message) (i : ℕ) (other : Bool) (k : Message) (j : ℕ) → 1 ≤ length all → cond one m.sender m.receiver ≡ p → cond other k.sender k.receiver ≡ p
      → (one ≡ false → place_in all i m < length all) → (other ≡ false → place_in all j k < length all) → (other ≡ true → sends_in all k.begins p ≡ true)
      → (one ≡ false → other ≡ false → m.ends ≡ k.ends → m.receiver ≡ k.receiver → place_in all i m ≤ place_in all j k)
      → nat_lt (cond other (2 * (k.begins * length all)) (2 * (k.ends * length all + place_in all j k) + 1)) (cond one (2 * (m.begins * length all)) (2 * (m.ends * length all + place_in all i m) + 1))
      ≡ nat_lt (cond other (2 * k.begins) (2 * k.ends + after all k.ends k.receiver)) (cond one (2 * m.begins) (2 * m.ends + after all m.ends m.receiver))
  by_kind p true m i true k j some is at low high known placed = two_sends p m i k j some
  by_kind p true m i false k j some is at low high known placed = then_receive p m i k j some (high refl)
  by_kind p false m i true k j some is at low high known placed = then_send p m i k j some (low refl) is (known refl)
  by_kind p false m i false k j some is at low high known placed = two_receives p m i k j some (low refl) (high refl) is at (λ rows. placed refl refl rows (is ∙ sym at))

  cut_order : (p : ℕ) → in_order_by cut_turn (filter (λ x. who x == p) (sources 0 all)) ≡ in_order_by (moment all) (filter (λ x. who x == p) (sources 0 all))
  cut_order p = same_order cut_turn (moment all) (filter (λ x. who x == p) (sources 0 all))
      (pairs_with (Known p) (Placed all) (Agree cut_turn (moment all))
      (λ x y one other placed. by_kind p x.sends x.message x.number y.sends y.message y.number (let low = one.within.number in omega (arith, low)) one.own.is other.own.is one.within.place other.within.place other.own.known placed)
      (filter (λ x. who x == p) (sources 0 all))
      (both (filter (λ x. who x == p) (sources 0 all)) (each_passing (Own all p) (λ x. who x == p) (sources 0 all) (owns all p 0 all (members all [] all refl))) (each_filter (IsWithin all) (λ x. who x == p) (sources 0 all) (within_all all [] all 0 refl refl)))
      (pairs_filter (Placed all) (λ x. who x == p) (sources 0 all) (placed_all all [] all 0 refl refl)))
    where
      both : (xs : List Source) → Each (Own all p) xs → Each (IsWithin all) xs → Each (Known p) xs
      both [] one other = tt
      both (x ∷ xs) one other = (record { own = one.0; within = other.0 }, both xs one.1 other.1)

  cut_line : (labels : Labelling) (items : List ItemView) (p : ℕ) → map plain (in_turn (own_ends p (all_ends (named_from labels items (cut_from all 0 all))))) ≡ map shown (in_order_by (moment all) (filter (λ x. who x == p) (sources 0 all)))
  cut_line labels items p =
      unnamed_line p (all_ends (named_from labels items (cut_from all 0 all)))
      ∙ ap (λ ends. map plain (in_turn (own_ends p ends))) (unnamed_ends labels items (cut_from all 0 all) ∙ cut_ends 0 all)
      ∙ view_line cut_end cut_turn cut_turns cut_instances cut_events p (sources 0 all)
      ∙ ap (map shown) (cut_order p)

  joined_run : (n : ℕ) (labels : Labelling) (items : List ItemView) → AreBuildable n (named_from labels items all)
      → IsRun (chart_lines (lines_from (all_ends (named_from labels items (cut_from all 0 all))) 1 n)) (turns_of all)
  joined_run n labels items are = rows_run all n labels items are (lines_from (all_ends (named_from labels items (cut_from all 0 all))) 1 n) (length-lines (all_ends (named_from labels items (cut_from all 0 all))) 1 n)
      (λ p low high. ap (map bare) (line_events (all_ends (named_from labels items (cut_from all 0 all))) n p low high) ∙ bare_line _ [] (in_turn (own_ends p (all_ends (named_from labels items (cut_from all 0 all))))) ∙ cut_line labels items p)

-- Diagrams.

has_chart : (b : Bool) {A : Type 0} {E : Type 0} (e : E) (r : Result A E) (v : A) → cond b (Err e) r ≡ Ok v → b ≡ false
has_chart true e r v is = absurd (cc is)
has_chart false e r v is = refl

alone_run : (d : DiagramView) (v : DiagramChartView) → built d ≡ Ok v → IsRun (chart_lines v.lines) (turns_of (messages_of d []))
unfolding chart_built messages_of built
alone_run d v is =
    let parts = built_is d v is in
    let lines = names_from [] d.participants in
    let c = collected lines d.items d.left_out in
    let so = stay_is c.fault c.messages c.left_out parts.stays parts.is in
    let same : messages_of d [] ≡ parts.stays.0 = ap (λ b. cond b [] (messages_named d [] lines)) (has_chart (has_no_chart (length d.participants)) _ _ v is) ∙ sym (ap (λ (s : List Message × List LeftOut). s.0) so.1) in
    let run = plain_run parts.stays.0 (length lines) none d.items (messages_built lines d.items d.left_out c parts.stays refl parts.is) in
    subst (λ ms. IsRun (chart_lines v.lines) (turns_of ms)) (sym same) (subst (λ (w : DiagramChartView). IsRun (chart_lines w.lines) (turns_of parts.stays.0)) (sym parts.chart) run)

checked_parts : (fault : Option ℕ) (messages : List Message) (j k : JoinedView) → checked fault messages j ≡ Ok k → (fault_from fault [] messages ≡ None) × (full_from [] j.messages ≡ None)
unfolding checked
checked_parts fault messages j k is = go (fault_from fault [] messages) refl (full_from [] j.messages) refl (nat_lt (length j.names) 2) is
  where
    go : (f : Option ℕ) → fault_from fault [] messages ≡ f → (g : Option ℕ) → full_from [] j.messages ≡ g → (one : Bool)
        → (unless NotPossible f j >>= (λ sound. unless LineFull g j >>= (λ few. cond one (Err Instances) (Ok j)))) ≡ Ok k → (fault_from fault [] messages ≡ None) × (full_from [] j.messages ≡ None)
    go (Some line) e g f one h = absurd (cc h)
    go None e (Some line) f one h = absurd (cc h)
    go None e None f one h = (e, f)

-- the messages of joined lines have a chart before their rows are cut
stays_built : (items : List ItemView) (processes : List (List ℕ)) (messages : List Message) (left_out : List LeftOut) (row : ℕ) → AreCollected (length processes) row messages → full_from [] (joined_of processes messages left_out).messages ≡ None
    → AreBuildable (length (joined_of processes messages left_out).names) (named_from none items (joined_of processes messages left_out).messages)
unfolding joined_of
stays_built items processes messages left_out row are few =
    stay_built (length (instances.names_from [] processes)) row none items (staying_from [] (all_across (instances.names_from [] processes) processes messages))
    (stays_collected processes row messages are) (stays_sound (all_across (instances.names_from [] processes) processes messages)) few

lines_run : (d : DiagramView) (first : JoinView) (others : List JoinView) (v : JoinedChartView) → lines_joined d (first ∷ others) ≡ Ok v → IsRun (chart_lines v.built.lines) (turns_of (messages_of d (first ∷ others)))
unfolding joined_chart_of messages_of lines_joined
lines_run d first others v is =
    let js : List JoinView = first ∷ others in
    let parts = joined_is d js v is in
    let lines = names_from [] d.participants in
    let c = collected lines d.items d.left_out in
    let checks = checked_parts c.fault c.messages parts.stays parts.stays parts.checks in
    let sound = items_sound lines d.items d.left_out (none_overtakes c.fault [] c.messages checks.0).fault_is in
    let whole = joined_same d.participants lines js c.messages c.left_out parts.stays parts.is in
    let many : length lines ≡ length (map (process_of js) lines) = sym (length-map lines (process_of js)) in
    let are : AreBuildable (length parts.stays.names) (named_from none d.items parts.stays.messages) =
    subst (λ (j : JoinedView). AreBuildable (length j.names) (named_from none d.items j.messages)) (sym whole)
    (stays_built d.items (map (process_of js) lines) c.messages c.left_out sound.0 (subst (λ n. AreCollected n sound.0 c.messages) many sound.1) (subst (λ (j : JoinedView). full_from [] j.messages ≡ None) whole checks.1)) in
    let same : messages_of d js ≡ parts.stays.messages = ap (λ b. cond b [] (messages_named d js lines)) (has_chart (has_no_chart (length d.participants)) _ _ v is) ∙ ap stay_of parts.is in
    let run = joined_run parts.stays.messages (length parts.stays.names) none d.items are in
    subst (λ ms. IsRun (chart_lines v.built.lines) (turns_of ms)) (sym same) (subst (λ (w : JoinedChartView). IsRun (chart_lines w.built.lines) (turns_of parts.stays.messages)) (sym parts.chart) run)

abbrev view_or : JoinedChartView → Result JoinedChartView JoinError → JoinedChartView
view_or u (Ok x) = x
view_or u (Err x) = u

pub diagram_run : DiagramTurnsLaw
unfolding built_joined
diagram_run d [] v is = go (built d) refl is
  where
    go : (r : Result DiagramChartView BuildError) → built d ≡ r → alone r ≡ Ok v → IsRun (chart_lines v.built.lines) (turns_of (messages_of d []))
    go (Err e) f is = absurd (cc is)
    go (Ok w) f is =
        let whole : record { built = w; overtaking = [] } ≡ v = ap (view_or v) is in
        subst (λ (u : JoinedChartView). IsRun (chart_lines u.built.lines) (turns_of (messages_of d []))) whole (alone_run d w f)
diagram_run d (first ∷ others) v is = lines_run d first others v is
