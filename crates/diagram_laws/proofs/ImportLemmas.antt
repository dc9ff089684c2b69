-- The chart of a diagram has its kept arrows, and counts the rest.
use Rattle.std.proofs.Common.{◌≡◌, ℕ, suc, ◌+◌, ◌^◌, ◌<◌, ◌≤◌, not, Bool, true, false, cond, List, [], ◌∷◌, Option, None, Some, Result, Ok, Err, length, map, filter, refl, sym, ap, ◌∙◌, subst, arith, ne_eqb}
use Rattle.std.proofs.lemmas.List.{length-map}
use Rattle.std.proofs.lemmas.List.Elements.{filter_agree}
use Rattle.std.specs.Prelude.{nat_lt}
use Rattle.diagram_labels.specs.Labels.{Labelling, none, with_label, name_of}
use Rattle.diagrams.specs.Building.{◌>>=◌, possible, within, staying, DiagramChartView, chart_built, built_by, has_no_chart, built}
use Rattle.diagrams.specs.Collecting.{CollectedView, nothing, collected}
use Rattle.diagrams.specs.Crossing.{fault_from}
use Rattle.diagrams.specs.Diagrams.{ArrowView, ItemView, ParticipantView, DiagramView}
use Rattle.diagrams.specs.Full.{full_from}
use Rattle.diagrams.specs.Losing.{kept, with_lost}
use Rattle.diagrams.specs.Messages.Each.{Each}
use Rattle.diagrams.specs.Messages.Following.{AreBuildable}
use Rattle.diagrams.specs.Naming.{names_from, label_at, named_as, named_from}
use Rattle.diagrams.specs.Placing.{first_misplaced}
use Rattle.diagrams.specs.declared.built.BuildError.{BuildError}
use Rattle.diagrams.specs.declared.built.BuildError.TheVariants as build
use Rattle.diagrams.specs.declared.left_out.Kind.{Kind}
use Rattle.diagrams.specs.declared.left_out.Kind.TheVariants as kinds
use Rattle.diagrams.specs.declared.left_out.LeftOut.{LeftOut}
use Rattle.diagrams.specs.declared.message.Message.{Message}
use Rattle.diagrams.specs.declared.messages.message.Named.{Named}
use Rattle.diagrams.proofs.ChartLemmas.{items_sound, messages_built}
use Rattle.diagrams.proofs.PlacedLemmas.{IsCollected}
use Rattle.diagrams.proofs.StayingLemmas.{none_overtakes}
use Rattle.diagram_join.specs.Building.{JoinedChartView, alone, unless, checked, joined_chart_of, joined_by, lines_joined, built_joined}
use Rattle.diagram_join.specs.Coregions.{cut, cut_from}
use Rattle.diagram_join.specs.Joined.{JoinedView, joined_of, unless_taken, joined}
use Rattle.diagram_join.specs.Joins.{JoinView, is_misnamed, process_of, taken_from}
use Rattle.diagram_join.specs.Joins as instances
use Rattle.diagram_join.specs.Moves.{is_across, moved, staying_from, overtaking_from, with_within}
use Rattle.diagram_join.specs.declared.error.JoinError.{JoinError}
use Rattle.diagram_join.specs.declared.error.JoinError.TheVariants.{NoSuchLine, Instances, NotPossible, LineFull}
use Rattle.diagram_join.specs.declared.moves.Overtaking.{Overtaking}
use Rattle.diagram_join.proofs.PossibleLemmas.{rows_built}
use Rattle.diagram_laws.specs.Arrows.{arrows_of, notes_in, across, in_order, overtaking, not_passed, passed, kept_arrows, named}
use Rattle.diagram_laws.specs.Arrows as arrows
use Rattle.diagram_laws.specs.Counts.{count_of, skipped}
use Rattle.diagram_laws.specs.Imports.{processes_in, instance_in, HasArrows, CountsRest, ImportLaw}
use Rattle.diagram_laws.specs.Plain.{StatesNone}
use Rattle.diagram_laws.proofs.CountLemmas.{Adds, adds_none, notes_added, lost_added, items_size, across_size, order_size, passed_size}
use Rattle.diagram_laws.proofs.KeptLemmas.{to, between, ordered, firsts, stay, order_arrows, stay_arrows, each_stay, firsts_messages, all_ordered}
use Rattle.diagram_laws.proofs.LaneLemmas.{goes, arrives, lane_sent, lane_received}
use Rattle.diagram_laws.proofs.Lists.{map_map, filter_map}
use Rattle.diagram_laws.proofs.MovedLemmas.{between_messages, ordered_messages, overtaking_places, within_added}
use Rattle.diagram_laws.proofs.NumberedLemmas.{Numbered, arrow, numbered, numbered_arrows, numbered_labels, message, noted, collected_arrows, named_all}

abbrev name_in : Named → List ℕ
name_in m = m.name

-- The names of a lane's messages.

lane_names : (at : ℕ → ℕ) (items : List ItemView) (test : Named → Bool) (own : ArrowView → Bool) → ((x : Numbered) (name : List ℕ) → test (named_as (to at x) name) ≡ own x.1)
    → (xs : List Numbered) → Each (λ x. label_at items x.0 ≡ x.1.label) xs
    → map name_in (filter test (named_from none items (map (to at) xs))) ≡ map (named (map arrow xs)) (filter own (map arrow xs))
lane_names at items test own same xs all =
    ap (λ l. map name_in (filter test l)) (named_all (to at) (λ x. refl) items [] xs all)
    ∙ ap (map name_in) (filter_map as_named test xs)
    ∙ map_map as_named name_in (filter (λ x. test (as_named x)) xs)
    ∙ ap (map (λ (x : Numbered). named (map arrow xs) x.1)) (filter_agree (λ x. test (as_named x)) (λ x. own x.1) (λ x. same x (named (map arrow xs) x.1)) xs)
    ∙ sym (map_map arrow (named (map arrow xs)) (filter (λ (x : Numbered). own x.1) xs))
    ∙ ap (map (named (map arrow xs))) (sym (filter_map arrow own xs))
  where
    as_named : Numbered → Named
    as_named x = named_as (to at x) (named (map arrow xs) x.1)

-- in cut rows
module _ (test : Named → Bool) (blind : (all : List Message) (i : ℕ) (m : Message) (name : List ℕ) → test (named_as (cut all i m) name) ≡ test (named_as m name)) (items : List ItemView) where
  cut_names : (labels : Labelling) (all : List Message) (i : ℕ) (ms : List Message)
      → map name_in (filter test (named_from labels items (cut_from all i ms))) ≡ map name_in (filter test (named_from labels items ms))
  unfolding named_from cut_from
  cut_names labels all i [] = refl
  cut_names labels all i (m ∷ ms) =
      ap (λ b. map name_in (cond b (named_as (cut all i m) own ∷ filter test (named_from more items (cut_from all (i + 1) ms))) (filter test (named_from more items (cut_from all (i + 1) ms))))) (blind all i m own)
      ∙ go (test (named_as m own)) _ _ (cut_names more all (i + 1) ms)
    where
      more : Labelling
      more = with_label labels (label_at items m.item)

      own : List ℕ
      own = name_of more (label_at items m.item)

      go : (its : Bool) (one other : List Named) → map name_in one ≡ map name_in other → map name_in (cond its (named_as (cut all i m) own ∷ one) one) ≡ map name_in (cond its (named_as m own ∷ other) other)
      go true one other rest = ap (λ l. own ∷ l) rest
      go false one other rest = rest

-- Counts.

none_left : {A : Type 0} (xs : List A) → length xs ≡ 0 → xs ≡ []
none_left [] e = refl
none_left (x ∷ xs) e = absurd (omega (arith, e))

module _ (at : ℕ → ℕ) (items : List ItemView) (first second third fourth : List LeftOut) (notes : Adds kinds.Note (notes_in items) first second)
    (inner : Adds kinds.MessageWithin (length (arrows.within at (arrows_of items))) second third)
    (lost : Adds kinds.LostMessage (length (passed at (in_order at [] (across at (arrows_of items))))) third fourth) where
  sizes : length (passed at (in_order at [] (across at (arrows_of items)))) + length (arrows.within at (arrows_of items)) ≤ length items
  sizes = omega (arith, items_size items, across_size at (arrows_of items), order_size at [] (across at (arrows_of items)), passed_size at (in_order at [] (across at (arrows_of items))))

  counts : (kind : Kind) → count_of kind first + length items < 2 ^ 64 → count_of kind fourth ≡ count_of kind first + skipped at items kind
  counts kinds.Note few = lost.other kinds.Note refl ∙ inner.other kinds.Note refl ∙ notes.own kinds.Note refl (omega (arith, few, items_size items))
  counts kinds.MessageWithin few =
      let same = notes.other kinds.MessageWithin refl in
      lost.other kinds.MessageWithin refl ∙ inner.own kinds.MessageWithin refl (omega (arith, few, same, sizes)) ∙ ap (λ c. c + length (arrows.within at (arrows_of items))) same
  counts kinds.LostMessage few =
      let same = inner.other kinds.LostMessage refl ∙ notes.other kinds.LostMessage refl in
      lost.own kinds.LostMessage refl (omega (arith, few, same, sizes)) ∙ ap (λ c. c + length (passed at (in_order at [] (across at (arrows_of items))))) same
  counts kind few = lost.other kind refl ∙ inner.other kind refl ∙ notes.other kind refl ∙ omega arith

-- each arrow is kept, or it isn't
all_told : (at : ℕ → ℕ) (told : List ArrowView) (reported : List Overtaking) → map (λ (o : Overtaking). o.place) reported ≡ map (λ (a : ArrowView). a.place) (overtaking at [] (across at told))
    → length told ≡ length (kept_arrows at told) + length (passed at (in_order at [] (across at told))) + length (arrows.within at told) + length reported
all_told at told reported same =
    let many : length reported ≡ length (overtaking at [] (across at told)) =
    sym (length-map reported (λ (o : Overtaking). o.place)) ∙ ap length same ∙ length-map (overtaking at [] (across at told)) (λ (a : ArrowView). a.place) in
    omega (arith, many, across_size at told, order_size at [] (across at told), passed_size at (in_order at [] (across at told)))

-- A diagram without joins, step by step.

abbrev value_or : {A E : Type 0} → A → Result A E → A
value_or d (Ok x) = x
value_or d (Err e) = d

pub record Built (d : DiagramView) (w : DiagramChartView) : Type 0 where
  pub stays : List Message × List LeftOut
  pub is : staying (collected (names_from [] d.participants) d.items d.left_out).fault (collected (names_from [] d.participants) d.items d.left_out).messages
      (collected (names_from [] d.participants) d.items d.left_out).left_out ≡ Ok stays
  pub chart : w ≡ chart_built d.participants d.items (names_from [] d.participants) stays

pub built_is : (d : DiagramView) (w : DiagramChartView) → built d ≡ Ok w → Built d w
unfolding built built_by
built_is d w is = go (has_no_chart (length d.participants)) (staying c.fault c.messages c.left_out) refl is
  where
    c : CollectedView
    c = collected (names_from [] d.participants) d.items d.left_out

    go : (b : Bool) (r : Result (List Message × List LeftOut) BuildError) → staying c.fault c.messages c.left_out ≡ r
        → cond b (Err build.Instances) (r >>= (λ s. Ok (chart_built d.participants d.items (names_from [] d.participants) s))) ≡ Ok w → Built d w
    go true r e f = absurd (cc f)
    go false (Err x) e f = absurd (cc f)
    go false (Ok s) e f = record { stays = s; is = e; chart = sym (ap (value_or w) f) }

pub stay_is : (fault : Option ℕ) (messages : List Message) (left_out : List LeftOut) (s : List Message × List LeftOut) → staying fault messages left_out ≡ Ok s
    → (fault_from fault [] messages ≡ None) × (s ≡ (kept messages, with_lost left_out messages))
unfolding staying
stay_is fault messages left_out s is = go (fault_from fault [] messages) refl (full_from [] (kept messages)) is
  where
    go : (f : Option ℕ) → fault_from fault [] messages ≡ f → (g : Option ℕ) → (possible f messages >>= (λ all. within g (kept messages, with_lost left_out messages))) ≡ Ok s
        → (fault_from fault [] messages ≡ None) × (s ≡ (kept messages, with_lost left_out messages))
    go (Some line) e g f = absurd (cc f)
    go None e (Some line) f = absurd (cc f)
    go None e None f = (e, sym (ap (value_or s) f))

all_between : (n row : ℕ) (xs : List Numbered) → Each (IsCollected n row) (map message xs) → between suc xs ≡ xs
all_between n row [] all = refl
all_between n row (x ∷ xs) all =
    ap (λ b. cond (not b) (x ∷ between suc xs) (between suc xs)) (ne_eqb (suc x.1.sender) (suc x.1.receiver) all.0.two.4) ∙ ap (λ l. x ∷ l) (all_between n row xs all.1)

-- A diagram with joins, step by step.

pub joined_same : (participants : List ParticipantView) (lines : List (List ℕ)) (js : List JoinView) (messages : List Message) (left_out : List LeftOut) (j : JoinedView)
    → joined participants lines js messages left_out ≡ Ok j → j ≡ joined_of (map (process_of js) lines) messages left_out
unfolding joined
joined_same participants lines js messages left_out j is = go (is_misnamed lines js) (taken_from js lines participants js) is
  where
    go : (misnamed : Bool) (taken : Option ℕ) → cond misnamed (Err NoSuchLine) (unless_taken taken (joined_of (map (process_of js) lines) messages left_out)) ≡ Ok j
        → j ≡ joined_of (map (process_of js) lines) messages left_out
    go true taken e = absurd (cc e)
    go false (Some line) e = absurd (cc e)
    go false None e = sym (ap (value_or j) e)

checked_same : (fault : Option ℕ) (messages : List Message) (j k : JoinedView) → checked fault messages j ≡ Ok k → j ≡ k
unfolding checked
checked_same fault messages j k is = go (fault_from fault [] messages) (full_from [] j.messages) (nat_lt (length j.names) 2) is
  where
    go : (f g : Option ℕ) (one : Bool) → (unless NotPossible f j >>= (λ sound. unless LineFull g j >>= (λ few. cond one (Err Instances) (Ok j)))) ≡ Ok k → j ≡ k
    go (Some line) g one e = absurd (cc e)
    go None (Some line) one e = absurd (cc e)
    go None None true e = absurd (cc e)
    go None None false e = ap (value_or k) e

pub record Joined (d : DiagramView) (js : List JoinView) (v : JoinedChartView) : Type 0 where
  pub stays : JoinedView
  pub is : joined d.participants (names_from [] d.participants) js (collected (names_from [] d.participants) d.items d.left_out).messages
      (collected (names_from [] d.participants) d.items d.left_out).left_out ≡ Ok stays
  pub checks : checked (collected (names_from [] d.participants) d.items d.left_out).fault (collected (names_from [] d.participants) d.items d.left_out).messages stays ≡ Ok stays
  pub chart : v ≡ joined_chart_of d.participants d.items (names_from [] d.participants) stays

pub joined_is : (d : DiagramView) (js : List JoinView) (v : JoinedChartView) → lines_joined d js ≡ Ok v → Joined d js v
unfolding lines_joined joined_by
joined_is d js v is = go (has_no_chart (length d.participants)) (joined d.participants lines js c.messages c.left_out) refl is
  where
    lines : List (List ℕ)
    lines = names_from [] d.participants

    c : CollectedView
    c = collected (names_from [] d.participants) d.items d.left_out

    last : (j : JoinedView) → joined d.participants lines js c.messages c.left_out ≡ Ok j → (s : Result JoinedView JoinError) → checked c.fault c.messages j ≡ s
        → (s >>= (λ all. Ok (joined_chart_of d.participants d.items lines all))) ≡ Ok v → Joined d js v
    last j e (Err x) g f = absurd (cc f)
    last j e (Ok k) g f =
        let same : j ≡ k = checked_same c.fault c.messages j k g in
        record { stays = j; is = e; checks = g ∙ ap (λ m. Ok m) (sym same); chart = sym (ap (value_or v) f) ∙ ap (joined_chart_of d.participants d.items lines) (sym same) }

    go : (b : Bool) (r : Result JoinedView JoinError) → joined d.participants lines js c.messages c.left_out ≡ r
        → cond b (Err Instances) (r >>= (λ j. checked c.fault c.messages j >>= (λ all. Ok (joined_chart_of d.participants d.items lines all)))) ≡ Ok v → Joined d js v
    go true r e f = absurd (cc f)
    go false (Err x) e f = absurd (cc f)
    go false (Ok j) e f = last j e (checked c.fault c.messages j) refl f

-- Both laws.

module _ (d : DiagramView) (plain : Each (StatesNone (names_from [] d.participants)) d.items) where
  abbrev lines : List (List ℕ)
  lines = names_from [] d.participants

  abbrev xs : List Numbered
  xs = numbered 0 d.items

  labels_there : Each (λ x. label_at d.items x.0 ≡ x.1.label) xs
  labels_there = numbered_labels d.items [] d.items 0 refl refl

  arrows_are : map arrow xs ≡ arrows_of d.items
  arrows_are = numbered_arrows 0 d.items

  abbrev placed : Option ℕ
  placed = first_misplaced (length lines) 0 d.items

  abbrev then : List LeftOut
  then = noted d.left_out d.items

  collected_is : collected lines d.items d.left_out ≡ record { messages = map message xs; waiting = []; left_out = then; fault = placed }
  unfolding collected
  collected_is = collected_arrows lines 0 d.items (nothing placed d.left_out) plain

  kept_are : (at : ℕ → ℕ) → kept_arrows at (arrows_of d.items) ≡ map arrow (stay at xs)
  kept_are at = ap (kept_arrows at) (sym arrows_are) ∙ stay_arrows at xs

  order_are : (at : ℕ → ℕ) → in_order at [] (across at (arrows_of d.items)) ≡ map arrow (ordered at [] (between at xs))
  order_are at = ap (λ l. in_order at [] (across at l)) (sym arrows_are) ∙ order_arrows at xs

  lane : (at : ℕ → ℕ) (test : Named → Bool) (own : ArrowView → Bool) → ((x : Numbered) (name : List ℕ) → test (named_as (to at x) name) ≡ own x.1) → (ms : List Message) → ms ≡ map (to at) (stay at xs)
      → map name_in (filter test (named_from none d.items ms)) ≡ map (named (kept_arrows at (arrows_of d.items))) (filter own (kept_arrows at (arrows_of d.items)))
  lane at test own same ms is =
      ap (λ l. map name_in (filter test (named_from none d.items l))) is
      ∙ lane_names at d.items test own same (stay at xs) (each_stay at (λ x. label_at d.items x.0 ≡ x.1.label) xs labels_there)
      ∙ ap (λ ks. map (named ks) (filter own ks)) (sym (kept_are at))

  module _ (w : DiagramChartView) (parts : Built d w) where
    so : (fault_from placed [] (map message xs) ≡ None) × (parts.stays ≡ (kept (map message xs), with_lost then (map message xs)))
    so = stay_is placed (map message xs) then parts.stays (subst (λ (c : CollectedView). staying c.fault c.messages c.left_out ≡ Ok parts.stays) collected_is parts.is)

    no_fault : (collected lines d.items d.left_out).fault ≡ None
    no_fault = ap (λ (c : CollectedView). c.fault) collected_is ∙ (none_overtakes placed [] (map message xs) so.0).fault_is

    between_all : between suc xs ≡ xs
    between_all =
        let sound = items_sound lines d.items d.left_out no_fault in
        all_between (length lines) sound.0 xs (subst (λ (c : CollectedView). Each (IsCollected (length lines) sound.0) c.messages) collected_is sound.1.each)

    ordered_all : ordered suc [] (between suc xs) ≡ xs
    ordered_all = ap (ordered suc []) between_all ∙ all_ordered suc placed [] xs so.0

    messages_are : parts.stays.0 ≡ map (to suc) (stay suc xs)
    messages_are = ap (λ (s : List Message × List LeftOut). s.0) so.1 ∙ firsts_messages suc xs ∙ ap (λ l. map (to suc) (firsts suc l)) (sym ordered_all)

    buildable : AreBuildable (length lines) (named_from none d.items parts.stays.0)
    buildable = messages_built lines d.items d.left_out (collected lines d.items d.left_out) parts.stays refl parts.is

    alone_arrows : HasArrows d [] (chart_built d.participants d.items lines parts.stays)
    unfolding chart_built
    alone_arrows = record {
      sent = λ q p low high. lane_sent (length lines) (named_from none d.items parts.stays.0) buildable q p low high
          ∙ lane suc (goes q p) (arrows.goes suc q p) (λ x name. refl) parts.stays.0 messages_are;
      received = λ q p low high. lane_received (length lines) (named_from none d.items parts.stays.0) buildable q p low high
          ∙ lane suc (arrives q p) (arrows.arrives suc q p) (λ x name. refl) parts.stays.0 messages_are;
    }

    in_order_all : in_order suc [] (across suc (arrows_of d.items)) ≡ map arrow xs
    in_order_all = order_are suc ∙ ap (map arrow) ordered_all

    few : (length (arrows.within suc (arrows_of d.items)) ≡ 0) × (length (overtaking suc [] (across suc (arrows_of d.items))) ≡ 0)
    few =
        let one = across_size suc (arrows_of d.items) in
        let two = order_size suc [] (across suc (arrows_of d.items)) in
        let all = ap length in_order_all in
        let same = ap length arrows_are in
        (omega (arith, one, two, all, same), omega (arith, one, two, all, same))

    left_is : parts.stays.1 ≡ with_lost then (map (to suc) xs)
    left_is = ap (λ (s : List Message × List LeftOut). s.1) so.1

    alone_rest : CountsRest d [] (record { built = chart_built d.participants d.items lines parts.stays; overtaking = [] })
    unfolding chart_built
    alone_rest = record {
      counted = counts suc d.items d.left_out then then parts.stays.1 (notes_added d.left_out d.items)
          (subst (λ n. Adds kinds.MessageWithin n then then) (sym few.0) (adds_none kinds.MessageWithin then))
          (subst (λ ls. Adds kinds.LostMessage (length (passed suc (in_order suc [] (across suc (arrows_of d.items))))) then ls) (sym left_is)
          (subst (λ l. Adds kinds.LostMessage (length (passed suc l)) then (with_lost then (map (to suc) xs))) (sym in_order_all) (lost_added suc then xs)));
      reported = sym (ap (map (λ (a : ArrowView). a.place)) (none_left (overtaking suc [] (across suc (arrows_of d.items))) few.1));
      all = all_told suc (arrows_of d.items) [] (sym (ap (map (λ (a : ArrowView). a.place)) (none_left (overtaking suc [] (across suc (arrows_of d.items))) few.1)));
    }

  module _ (first : JoinView) (others : List JoinView) (v : JoinedChartView) (parts : Joined d (first ∷ others) v) where
    abbrev js : List JoinView
    js = first ∷ others

    abbrev at : ℕ → ℕ
    at = instance_in d js

    abbrev processes : List (List ℕ)
    processes = processes_in d js

    stays_are : parts.stays ≡ joined_of processes (map message xs) then
    stays_are =
        joined_same d.participants lines js (collected lines d.items d.left_out).messages (collected lines d.items d.left_out).left_out parts.stays parts.is
        ∙ ap (λ (c : CollectedView). joined_of processes c.messages c.left_out) collected_is

    moved_all : map (moved (instances.names_from [] processes) processes) (map message xs) ≡ map (to at) xs
    moved_all = map_map message (moved (instances.names_from [] processes) processes) xs

    across_all : filter is_across (map (moved (instances.names_from [] processes) processes) (map message xs)) ≡ map (to at) (between at xs)
    across_all = ap (filter is_across) moved_all ∙ between_messages at xs

    staying_all : staying_from [] (filter is_across (map (moved (instances.names_from [] processes) processes) (map message xs))) ≡ map (to at) (ordered at [] (between at xs))
    staying_all = ap (staying_from []) across_all ∙ ordered_messages at [] (between at xs)

    join_messages : parts.stays.messages ≡ map (to at) (stay at xs)
    unfolding joined_of
    join_messages = ap (λ (j : JoinedView). j.messages) stays_are ∙ ap kept staying_all ∙ firsts_messages at (ordered at [] (between at xs))

    join_overtaking : map (λ (o : Overtaking). o.place) parts.stays.overtaking ≡ map (λ (a : ArrowView). a.place) (overtaking at [] (across at (arrows_of d.items)))
    unfolding joined_of
    join_overtaking =
        ap (λ (j : JoinedView). map (λ (o : Overtaking). o.place) j.overtaking) stays_are
        ∙ ap (λ l. map (λ (o : Overtaking). o.place) (overtaking_from [] l)) across_all
        ∙ overtaking_places at [] (between at xs)
        ∙ ap (λ l. map (λ (a : ArrowView). a.place) (overtaking at [] l)) (sym (filter_map arrow (λ a. not (arrows.is_within at a)) xs) ∙ ap (across at) arrows_are)

    join_left : parts.stays.left_out ≡ with_lost (with_within then (map (to at) xs)) (map (to at) (ordered at [] (between at xs)))
    unfolding joined_of
    join_left =
        ap (λ (j : JoinedView). j.left_out) stays_are
        ∙ ap (λ l. with_lost (with_within then l) (staying_from [] (filter is_across (map (moved (instances.names_from [] processes) processes) (map message xs))))) moved_all
        ∙ ap (with_lost (with_within then (map (to at) xs))) staying_all

    join_buildable : AreBuildable (length parts.stays.names) (named_from none d.items (cut_from parts.stays.messages 0 parts.stays.messages))
    join_buildable = rows_built d.participants d.items lines js d.left_out (collected lines d.items d.left_out) parts.stays refl parts.is parts.checks

    joined_arrows : HasArrows d js (joined_chart_of d.participants d.items lines parts.stays).built
    unfolding joined_chart_of
    joined_arrows = record {
      sent = λ q p low high. lane_sent (length parts.stays.names) (named_from none d.items (cut_from parts.stays.messages 0 parts.stays.messages)) join_buildable q p low high
          ∙ cut_names (goes q p) (λ all i m name. refl) d.items none parts.stays.messages 0 parts.stays.messages
          ∙ lane at (goes q p) (arrows.goes at q p) (λ x name. refl) parts.stays.messages join_messages;
      received = λ q p low high. lane_received (length parts.stays.names) (named_from none d.items (cut_from parts.stays.messages 0 parts.stays.messages)) join_buildable q p low high
          ∙ cut_names (arrives q p) (λ all i m name. refl) d.items none parts.stays.messages 0 parts.stays.messages
          ∙ lane at (arrives q p) (arrows.arrives at q p) (λ x name. refl) parts.stays.messages join_messages;
    }

    joined_rest : CountsRest d js (joined_chart_of d.participants d.items lines parts.stays)
    unfolding joined_chart_of
    joined_rest = record {
      counted = counts at d.items d.left_out then (with_within then (map (to at) xs)) parts.stays.left_out (notes_added d.left_out d.items)
          (subst (λ l. Adds kinds.MessageWithin (length (arrows.within at l)) then (with_within then (map (to at) xs))) arrows_are (within_added at then xs))
          (subst (λ ls. Adds kinds.LostMessage (length (passed at (in_order at [] (across at (arrows_of d.items))))) (with_within then (map (to at) xs)) ls) (sym join_left)
          (subst (λ l. Adds kinds.LostMessage (length (passed at l)) (with_within then (map (to at) xs)) (with_lost (with_within then (map (to at) xs)) (map (to at) (ordered at [] (between at xs))))) (sym (order_are at))
          (lost_added at (with_within then (map (to at) xs)) (ordered at [] (between at xs)))));
      reported = join_overtaking;
      all = all_told at (arrows_of d.items) parts.stays.overtaking join_overtaking;
    }

pub import_law : ImportLaw
unfolding built_joined
import_law d [] v is plain = go (built d) refl is
  where
    go : (r : Result DiagramChartView BuildError) → built d ≡ r → alone r ≡ Ok v → HasArrows d [] v.built × CountsRest d [] v
    go (Err e) f is = absurd (cc is)
    go (Ok w) f is =
        let parts = built_is d w f in
        let whole : record { built = chart_built d.participants d.items (names_from [] d.participants) parts.stays; overtaking = [] } ≡ v = ap (λ x. record { built = x; overtaking = [] }) (sym parts.chart) ∙ ap (value_or v) is in
        (subst (λ (u : JoinedChartView). HasArrows d [] u.built) whole (alone_arrows d plain w parts), subst (CountsRest d []) whole (alone_rest d plain w parts))
import_law d (j ∷ others) v is plain =
    let parts = joined_is d (j ∷ others) v is in
    (subst (λ (u : JoinedChartView). HasArrows d (j ∷ others) u.built) (sym parts.chart) (joined_arrows d plain j others v parts), subst (CountsRest d (j ∷ others)) (sym parts.chart) (joined_rest d plain j others v parts))
