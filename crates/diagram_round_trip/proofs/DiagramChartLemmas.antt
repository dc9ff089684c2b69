-- The messages of an exported diagram, and the lines of its chart.
use Rattle.std.proofs.Common.{◌≡◌, ℕ, zero, suc, ◌+◌, ◌<◌, ◌≤◌, ◌==◌, Bool, true, false, List, [], ◌∷◌, ◌++◌, None, Some, length, nat_lt, lt-ltb, ne_eqb, codes, drop, take, get_or, refl, sym, ap, ◌∙◌, subst, append_assoc, arith}
use Rattle.std.specs.Prelude.{slice_get, position, bytes_eq}
use Rattle.std.specs.List.{position_or_len}
use Rattle.std.proofs.lemmas.Bool.Decides.{nat_tests}
use Rattle.std.proofs.lemmas.List.{append-nil}
use Rattle.std.proofs.lemmas.List.Sums.{passes_at_first}
use Rattle.std.proofs.lemmas.Option.{same_Some, slice_get_within}
use Rattle.std.proofs.Math.Seq.{take-append_seam, drop-append-add}
use Rattle.std.proofs.lemmas.Slice.Eq.{bytes_eq-Decides}
use Rattle.chart.specs.NameSets.{AreNames}
use Rattle.chart.specs.Names.{IsName}
use Rattle.diagram_labels.specs.Giving.{is_given, called}
use Rattle.diagram_labels.specs.Spelling.{spelled}
use Rattle.diagram_labels.specs.Labels.{Labelling, has_label, with_label, name_of}
use Rattle.diagram_labels.proofs.Kept.{name_kept}
use Rattle.diagram_labels.proofs.Tables.{any_placed}
use Rattle.diagram_labels.proofs.Labellings.{label_kept, label_added, new_name}
use Rattle.diagrams.specs.Collecting.{CollectedView, message_of, with_event, with_item, with_items, collected}
use Rattle.diagrams.specs.Diagrams.{NoteView}
use Rattle.diagrams.specs.LeftOuts.{with_one}
use Rattle.diagrams.specs.Naming.{names_from}
use Rattle.diagrams.specs.NoteEvents.{cut, direction, words_in, note_event}
use Rattle.diagrams.specs.Placing.{row_of, is_placed, may_stand, first_misplaced}
use Rattle.diagrams.specs.declared.left_out.LeftOut.{LeftOut}
use Rattle.diagrams.specs.declared.left_out.Kind.TheVariants as kinds
use Rattle.diagrams.specs.declared.message.Message.{Message}
use Rattle.diagrams.specs.Messages.Each.{Each}
use Rattle.diagram_mscgen.specs.Reading.Entities.{place_of}
use Rattle.texts.specs.declared.bytes.place.Place.{Place}
use Rattle.diagram_round_trip.proofs.Lists.{get_front, get_seam, its_place}
use Rattle.diagram_round_trip.proofs.MscLemmas.{Placed, Entity}
use Rattle.diagram_round_trip.proofs.DiagramLemmas.{IsExported, names_in, participants_of, arrow_by, item_by, items_from}
use Rattle.diagram_round_trip.proofs.PlainBytes.{ArePlain, says_itself}
use Rattle.diagram_round_trip.proofs.ExportedRows.{ExportedRow, Sent, RaceNote, race_words}

-- Names.

-- a name that no earlier name equals stays as it is
not_given : (done : List (List ℕ)) (name : List ℕ) → ((i : ℕ) (other : List ℕ) → slice_get done i ≡ Some other → bytes_eq name other ≡ false) → is_given done name ≡ false
not_given [] name apart = refl
not_given (other ∷ done) name apart = rw (apart 0 other refl) (not_given done name (λ i another e. apart (suc i) another e))

pub called_itself : (done : List (List ℕ)) (name : List ℕ) → IsName name → is_given done name ≡ false → called done (spelled name) ≡ name
unfolding called
called_itself done name is fresh = rw (name_kept name is, fresh) refl

apart_from : (names done : List (List ℕ)) (name : List ℕ) (rest : List (List ℕ)) → AreNames names → names ≡ done ++ name ∷ rest → (i : ℕ) (other : List ℕ) → slice_get done i ≡ Some other → bytes_eq name other ≡ false
apart_from names done name rest are is i other e = go (bytes_eq name other) refl
  where
    go : (its : Bool) → bytes_eq name other ≡ its → bytes_eq name other ≡ false
    go false same = same
    go true same =
        let here = ap (λ l. slice_get l i) is ∙ get_front done (name ∷ rest) i other e ∙ ap Some (sym ((bytes_eq-Decides name other).0 same)) in
        let there = ap (λ l. slice_get l (length done)) is ∙ get_seam done name rest in
        let one = are.distinct i (length done) name here there in
        let within = slice_get_within done i other e in
        absurd (omega arith)

-- the participants keep their names
pub names_kept : (names done : List (List ℕ)) (entities : List Entity) → AreNames names → names ≡ done ++ names_in entities → Each (λ (e : Entity). IsName e.name × ArePlain e.name) entities
    → names_from done (participants_of entities) ≡ names
unfolding names_from
names_kept names done [] are is all = sym (is ∙ append-nil done)
names_kept names done (e ∷ entities) are is all =
    rw (says_itself e.name all.0.1, called_itself done e.name all.0.0 (not_given done e.name (apart_from names done e.name (names_in entities) are is)))
    (names_kept names (done ++ e.name ∷ []) entities are (is ∙ sym (append_assoc done (e.name ∷ []) (names_in entities))) all.1)

-- Labels.

-- labels that are their own names
abbrev pub Own : Labelling → Type 0
Own l = l.names ≡ l.labels

pub still_own : (l : Labelling) (name : List ℕ) → Own l → IsName name → Own (with_label l name)
still_own l name own is = go (has_label l.labels name) refl
  where
    go : (came : Bool) → has_label l.labels name ≡ came → Own (with_label l name)
    go true e = subst Own (sym (label_kept l name e)) own
    go false e =
        subst Own (sym (label_added l name e))
        (rw (called_itself l.names name is (ap (λ names. is_given names name) own ∙ e)) (ap (λ names. names ++ name ∷ []) own))

pub named_itself : (l : Labelling) (name : List ℕ) → Own l → IsName name → name_of (with_label l name) name ≡ name
unfolding name_of
named_itself l name own is = go (has_label l.labels name) refl
  where
    go : (came : Bool) → has_label l.labels name ≡ came → name_of (with_label l name) name ≡ name
    go true e =
        let within = any_placed (bytes_eq name) l.labels e in
        ap (λ m. name_of m name) (label_kept l name e) ∙ ap (λ names. get_or names (position_or_len (bytes_eq name) l.labels) []) own
        ∙ sym ((bytes_eq-Decides name _).0 (passes_at_first (bytes_eq name) l.labels [] within))
    go false e =
        ap (λ m. name_of m name) (label_added l name e) ∙ new_name l name (ap length (sym own)) e
        ∙ called_itself l.names name is (ap (λ names. is_given names name) own ∙ e)

-- Messages.

abbrev pub message_by : ℕ → ExportedRow → Place → List Message → List Message
message_by k (Sent is_lost from to name) place rest = message_of k (arrow_by k is_lost from to name place) ∷ rest
message_by k (RaceNote at words) place rest = rest

abbrev pub messages_from : ℕ → List Placed → List Message
messages_from k [] = []
messages_from k (t ∷ placed) = message_by k t.0 t.1 (messages_from (k + 1) placed)

-- the notes of races are skipped
abbrev pub note_by : ExportedRow → Place → List LeftOut → List LeftOut
note_by (Sent is_lost from to name) place left_out = left_out
note_by (RaceNote at words) place left_out = with_one left_out kinds.Note (place_of place)

abbrev pub notes_in : List Placed → List LeftOut → List LeftOut
notes_in [] left_out = left_out
notes_in (t ∷ placed) left_out = notes_in placed (note_by t.0 t.1 left_out)

-- the words of races state no event
blank_behind : (word : List ℕ) (rest : List ℕ) → Each (λ b. (b == 32) ≡ false) word → position (λ b. b == 32) (word ++ 32 ∷ rest) ≡ Some (length word)
blank_behind word rest all = its_place (λ b. b == 32) (word ++ 32 ∷ rest) (length word) 32 (get_seam word 32 rest) refl (before word all)
  where
    before : (bytes : List ℕ) → Each (λ b. (b == 32) ≡ false) bytes → (j : ℕ) (y : ℕ) → j < length bytes → slice_get (bytes ++ 32 ∷ rest) j ≡ Some y → (y == 32) ≡ false
    before [] each j y l e = absurd (omega arith)
    before (b ∷ bytes) each zero y l e = ap (λ x. x == 32) (sym (same_Some b y e)) ∙ each.0
    before (b ∷ bytes) each (suc j) y l e = before bytes each.1 j y (omega arith) e

cut_off : (word : List ℕ) (rest : List ℕ) → Each (λ b. (b == 32) ≡ false) word → cut (word ++ 32 ∷ rest) ≡ Some (word, rest)
unfolding cut
cut_off word rest all =
    let front : take (length word) (word ++ 32 ∷ rest) ≡ word = take-append_seam word (32 ∷ rest) in
    let back : drop (length word + 1) (word ++ 32 ∷ rest) ≡ rest = drop-append-add word (32 ∷ rest) 1 in
    rw (blank_behind word rest all, front, back) refl

no_event : (names : List (List ℕ)) (own : ℕ) (words : List ℕ) → note_event names own (race_words words) ≡ None
unfolding note_event words_in direction
no_event names own words =
    rw (
      cut_off (codes "may") (codes "come before " ++ words) (refl, (refl, (refl, tt))),
      cut_off (codes "come") (codes "before " ++ words) (refl, (refl, (refl, (refl, tt)))),
      cut_off (codes "before") words (refl, (refl, (refl, (refl, (refl, (refl, tt)))))),
    )
    refl

-- the collected messages of the items
abbrev so_far : List Message → List LeftOut → CollectedView
so_far messages left_out = record { messages = messages; waiting = []; left_out = left_out; fault = None }

items_collected : (names : List (List ℕ)) (k : ℕ) (placed : List Placed) (messages : List Message) (left_out : List LeftOut)
    → with_items names k (items_from k placed) (so_far messages left_out) ≡ so_far (messages ++ messages_from k placed) (notes_in placed left_out)
unfolding with_items with_item
items_collected names k [] messages left_out = rw (append-nil messages) refl
items_collected names k ((Sent is_lost from to name, place) ∷ placed) messages left_out =
    items_collected names (k + 1) placed (messages ++ message_of k (arrow_by k is_lost from to name place) ∷ []) left_out
    ∙ ap (λ l. so_far l (notes_in placed left_out)) (append_assoc messages (message_of k (arrow_by k is_lost from to name place) ∷ []) (messages_from (k + 1) placed))
items_collected names k ((RaceNote at words, place) ∷ placed) messages left_out =
    let n : NoteView = record { place = place_of place; row = k; participant = at; text = race_words words } in
    ap (λ e. with_items names (k + 1) (items_from (k + 1) placed) (with_event k n e (so_far messages left_out))) (no_event names (suc at) words)
    ∙ items_collected names (k + 1) placed messages (with_one left_out kinds.Note (place_of place))

-- no item is misplaced
stand_here : (n row k : ℕ) (s : ExportedRow) (place : Place) → row ≤ k → IsExported n s → may_stand n row (item_by k s place) ≡ true
unfolding may_stand is_placed row_of
stand_here n row k (Sent is_lost from to name) place le is =
    let one : nat_lt k row ≡ false = grind (arith, nat_tests) in
    let two : nat_lt from n ≡ true = lt-ltb from n is.0 in
    let three : nat_lt to n ≡ true = lt-ltb to n is.1 in
    let four : nat_lt k k ≡ false = grind (arith, nat_tests) in
    rw (one, two, three, ne_eqb from to is.2, four) refl
stand_here n row k (RaceNote at words) place le is =
    let one : nat_lt k row ≡ false = grind (arith, nat_tests) in
    let two : nat_lt at n ≡ true = lt-ltb at n is.0 in
    rw (one, two) refl

row_is : (k : ℕ) (s : ExportedRow) (place : Place) → row_of (item_by k s place) ≡ k
unfolding row_of
row_is k (Sent is_lost from to name) place = refl
row_is k (RaceNote at words) place = refl

none_misplaced : (n row k : ℕ) (placed : List Placed) → row ≤ k → Each (λ (t : Placed). IsExported n t.0) placed → first_misplaced n row (items_from k placed) ≡ None
unfolding first_misplaced
none_misplaced n row k [] le all = refl
none_misplaced n row k (t ∷ placed) le all = rw (stand_here n row k t.0 t.1 le all.0, row_is k t.0 t.1) (none_misplaced n k (k + 1) placed (omega arith) all.1)

pub all_collected : (names : List (List ℕ)) (placed : List Placed) → Each (λ (t : Placed). IsExported (length names) t.0) placed
    → collected names (items_from 0 placed) [] ≡ so_far (messages_from 0 placed) (notes_in placed [])
unfolding collected
all_collected names placed all = rw (none_misplaced (length names) 0 0 placed (omega arith) all) (items_collected names 0 placed [] [])
