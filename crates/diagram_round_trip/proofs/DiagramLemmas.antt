-- The diagram that is read from an export.
use Rattle.std.proofs.Common.{◌≡◌, ℕ, zero, suc, ◌+◌, ◌-◌, ◌<◌, ◌≤◌, ◌==◌, min, Bool, true, false, List, [], ◌∷◌, ◌++◌, None, Some, Ok, length, map, nat_lt, lt-ltb, ne_eqb, refl, sym, ap, ◌∙◌, append_assoc, arith}
use Rattle.std.specs.Prelude.{slice_get, bytes_eq}
use Rattle.std.proofs.lemmas.Bool.Decides.{nat_tests}
use Rattle.std.proofs.lemmas.List.{length-append, append-nil}
use Rattle.std.proofs.lemmas.Option.{slice_get_within}
use Rattle.std.proofs.lemmas.Slice.Eq.{bytes_eq-Decides}
use Rattle.chart.specs.NameSets.{AreNames}
use Rattle.chart.specs.Names.{IsName}
use Rattle.chart.specs.declared.instance.TheConstants.{MAX_INSTANCES}
use Rattle.diagrams.specs.Diagrams.{ParticipantView, ArrowView, ItemView, AnArrow, ANote}
use Rattle.diagrams.specs.Messages.Each.{Each}
use Rattle.texts.specs.Instances.{name_at}
use Rattle.diagram_mscgen.specs.Reading.Arcs.{RowsView, with_arc, with_arcs, last_row, rows_of}
use Rattle.diagram_mscgen.specs.Reading.Entities.{known_at, participant_of, with_entity, with_entities, known_of, place_of}
use Rattle.diagram_mscgen.specs.Reading.Reading.{diagram_by}
use Rattle.texts.specs.declared.bytes.place.Place.{Place}
use Rattle.diagram_round_trip.proofs.Lists.{get_front, get_seam, no_place, its_place}
use Rattle.diagram_round_trip.proofs.MscLemmas.{Placed, arc_by, arc_of, arcs_of, Entity, entity_of}
use Rattle.diagram_round_trip.proofs.PlainBytes.{ArePlain, says_itself, plain_both}
use Rattle.diagram_round_trip.proofs.ExportedRows.{ExportedRow, Sent, RaceNote, race_words}

-- a row has participants among the first n; a message has two
abbrev pub IsExported : ℕ → ExportedRow → Type 0
IsExported n (Sent is_lost from to name) = (from < n) × (to < n) × (from ≡ to → ⊥) × IsName name × ArePlain name
IsExported n (RaceNote at words) = (at < n) × ArePlain words

-- different names
differ : (names : List (List ℕ)) (i j : ℕ) (one other : List ℕ) → AreNames names → slice_get names i ≡ Some one → slice_get names j ≡ Some other → (i ≡ j → ⊥) → bytes_eq one other ≡ false
differ names i j one other are e f apart = go (bytes_eq one other) refl
  where
    go : (its : Bool) → bytes_eq one other ≡ its → bytes_eq one other ≡ false
    go true same = absurd (apart (are.distinct i j other (e ∙ ap Some ((bytes_eq-Decides one other).0 same)) f))
    go false same = same

-- the name at a place
pub named_at : (names : List (List ℕ)) (p : ℕ) → p < length names → slice_get names p ≡ Some (name_at names (suc p))
named_at [] p l = absurd (omega arith)
named_at (name ∷ names) zero l = refl
named_at (name ∷ names) (suc p) l = named_at names p (omega arith)

known : (names : List (List ℕ)) (p : ℕ) → AreNames names → p < length names → known_at names (name_at names (suc p)) ≡ Some p
known names p are within =
    let here = named_at names p within in
    its_place (λ name. bytes_eq name (name_at names (suc p))) names p (name_at names (suc p)) here ((bytes_eq-Decides (name_at names (suc p)) (name_at names (suc p))).1 refl)
    (λ j other less e. differ names j p other (name_at names (suc p)) are e here (λ same. omega arith))

unknown : (names done : List (List ℕ)) (name : List ℕ) (rest : List (List ℕ)) → AreNames names → names ≡ done ++ name ∷ rest → known_at done name ≡ None
unknown names done name rest are is =
    no_place (λ other. bytes_eq other name) done (λ i other e. differ names i (length done) other name are
    (ap (λ l. slice_get l i) is ∙ get_front done (name ∷ rest) i other e) (ap (λ l. slice_get l (length done)) is ∙ get_seam done name rest) (λ same. let within = slice_get_within done i other e in omega arith))

abbrev pub participants_of : List Entity → List ParticipantView
participants_of entities = map (λ (e : Entity). participant_of (entity_of e)) entities

abbrev pub names_in : List Entity → List (List ℕ)
names_in entities = map (λ (e : Entity). e.name) entities

known_all : (names done : List (List ℕ)) (participants : List ParticipantView) (entities : List Entity) → AreNames names → names ≡ done ++ names_in entities
    → with_entities (map entity_of entities) (record { words = done; participants = participants; left_out = [] })
    ≡ Some (record { words = done ++ names_in entities; participants = participants ++ participants_of entities; left_out = [] })
unfolding with_entity
known_all names done participants [] are is = rw (append-nil done, append-nil participants) refl
known_all names done participants (e ∷ entities) are is =
    let limit = are.limit in
    let long : length names ≡ length done + suc (length (names_in entities)) = ap length is ∙ length-append done (e.name ∷ names_in entities) in
    let room : nat_lt (length done) MAX_INSTANCES ≡ true = lt-ltb _ _ (omega (arith, limit, long)) in
    rw (unknown names done e.name (names_in entities) are is, room)
    (known_all names (done ++ e.name ∷ []) (participants ++ participant_of (entity_of e) ∷ []) entities are (is ∙ sym (append_assoc done (e.name ∷ []) (names_in entities)))
    ∙ ap (λ l. Some (record { words = l; participants = (participants ++ participant_of (entity_of e) ∷ []) ++ participants_of entities; left_out = [] })) (append_assoc done (e.name ∷ []) (names_in entities))
    ∙ ap (λ l. Some (record { words = done ++ e.name ∷ names_in entities; participants = l; left_out = [] })) (append_assoc participants (participant_of (entity_of e) ∷ []) (participants_of entities)))

-- the item of a row
abbrev pub arrow_by : ℕ → Bool → ℕ → ℕ → List ℕ → Place → ArrowView
arrow_by row is_lost from to name place = record {
  place = place_of place;
  begins = row;
  ends = row;
  sender = from;
  receiver = to;
  label = name;
  is_lost = is_lost;
}

abbrev pub item_by : ℕ → ExportedRow → Place → ItemView
item_by row (Sent is_lost from to name) place = AnArrow (arrow_by row is_lost from to name place)
item_by row (RaceNote at words) place = ANote (record { place = place_of place; row = row; participant = at; text = race_words words })

abbrev pub items_from : ℕ → List Placed → List ItemView
items_from row [] = []
items_from row (t ∷ placed) = item_by row t.0 t.1 ∷ items_from (row + 1) placed

arc_built : (names : List (List ℕ)) (last : ℕ) (s : ExportedRow) (place : Place) (st : RowsView) → AreNames names → IsExported (length names) s
    → with_arc names last (arc_by names s place) st ≡ Ok (record { row = st.row + 1; items = st.items ++ item_by st.row s place ∷ []; left_out = st.left_out })
unfolding with_arc
arc_built names last (Sent true from to name) place st are is =
    let level : st.row + min 0 (last - st.row) ≡ st.row = omega arith in
    rw (known names from are is.0, known names to are is.1, ne_eqb from to is.2, says_itself name is.4, level) refl
arc_built names last (Sent false from to name) place st are is =
    let level : st.row + min 0 (last - st.row) ≡ st.row = omega arith in
    rw (known names from are is.0, known names to are is.1, ne_eqb from to is.2, says_itself name is.4, level) refl
arc_built names last (RaceNote at words) place st are is =
    let same : (at == at) ≡ true = grind (arith, nat_tests) in
    rw (known names at are is.0, same, says_itself (race_words words) (plain_both (race_words []) words refl is.1)) refl

arcs_built : (names : List (List ℕ)) (last : ℕ) (placed : List Placed) (st : RowsView) → AreNames names → Each (λ (t : Placed). IsExported (length names) t.0) placed
    → with_arcs names last (map (arc_of names) placed) st ≡ Ok (record { row = st.row + length placed; items = st.items ++ items_from st.row placed; left_out = st.left_out })
arcs_built names last [] st are all =
    let level : st.row + 0 ≡ st.row = omega arith in
    rw (append-nil st.items, level) refl
arcs_built names last (t ∷ placed) st are all =
    let far : st.row + 1 + length placed ≡ st.row + suc (length placed) = omega arith in
    rw (arc_built names last t.0 t.1 st are all.0)
    (arcs_built names last placed (record { row = st.row + 1; items = st.items ++ item_by st.row t.0 t.1 ∷ []; left_out = st.left_out }) are all.1
    ∙ ap (λ l. Ok (record { row = st.row + 1 + length placed; items = l; left_out = st.left_out })) (append_assoc st.items (item_by st.row t.0 t.1 ∷ []) (items_from (st.row + 1) placed))
    ∙ ap (λ n. Ok (record { row = n; items = st.items ++ item_by st.row t.0 t.1 ∷ items_from (st.row + 1) placed; left_out = st.left_out })) far)

abbrev pub rows_behind : List Placed → ℕ
rows_behind [] = 1
rows_behind (t ∷ placed) = 0 + length (t ∷ placed)

rows_built : (names : List (List ℕ)) (place : Place) (placed : List Placed) → AreNames names → Each (λ (t : Placed). IsExported (length names) t.0) placed
    → rows_of names [] (arcs_of names place placed) ≡ Ok (record { row = rows_behind placed; items = items_from 0 placed; left_out = [] })
unfolding rows_of with_arc
rows_built names place [] are all = refl
rows_built names place (t ∷ placed) are all =
    arcs_built names (last_row (map (arc_of names) (t ∷ placed))) (t ∷ placed) (record { row = 0; items = []; left_out = [] }) are all

-- the diagram of an export
pub diagram_built : (names : List (List ℕ)) (place : Place) (entities : List Entity) (placed : List Placed) → AreNames names → 2 ≤ length names → names_in entities ≡ names
    → Each (λ (t : Placed). IsExported (length names) t.0) placed
    → diagram_by (Ok (record { entities = map entity_of entities; arcs = arcs_of names place placed }))
    ≡ Ok (record { participants = participants_of entities; items = items_from 0 placed; left_out = [] })
unfolding known_of
diagram_built names place entities placed are several named all =
    let many : nat_lt (length names) 2 ≡ false = grind (arith, nat_tests) in
    rw (known_all names [] [] entities are (sym named), named, many, rows_built names place placed are all) refl
