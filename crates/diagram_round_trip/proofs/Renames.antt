-- No name is reported if all stay as they are, and only notes are skipped.
use Rattle.std.proofs.Common.{◌≡◌, ℕ, zero, suc, ◌+◌, ◌==◌, Bool, true, false, List, [], ◌∷◌, ◌++◌, Option, None, Some, length, map, ne_eqb, refl, sym, ap, ◌∙◌, subst, append_assoc, arith}
use Rattle.std.specs.Prelude.{slice_set, slice_index_or}
use Rattle.std.specs.List.{list_all}
use Rattle.std.proofs.lemmas.Bool.{false≢true, and_parts}
use Rattle.std.proofs.lemmas.List.{length-append}
use Rattle.std.proofs.lemmas.Slice.Eq.{bytes_eq-Decides}
use Rattle.chart.specs.Names.{IsName, is_name_byte}
use Rattle.chart.proofs.NameBytes.{name_bytes}
use Rattle.diagram_labels.specs.Labels.{Labelling, has_label, with_label, none, line_for_blank, is_renamed}
use Rattle.diagram_labels.proofs.Labellings.{label_kept, label_added}
use Rattle.diagrams.specs.Diagrams.{ParticipantView, ItemView}
use Rattle.diagram_labels.specs.Renaming.{renamed_from}
use Rattle.diagrams.specs.LeftOuts.{with_one, with_one_at, one, and_one}
use Rattle.diagrams.specs.Naming.{label_of, labels_from}
use Rattle.diagrams.specs.declared.left_out.Kind.TheVariants as kinds
use Rattle.diagrams.specs.declared.left_out.LeftOut.{LeftOut}
use Rattle.diagrams.specs.declared.place.Place.{Place}
use Rattle.diagrams.specs.Messages.Each.{Each}
use Rattle.diagram_mscgen.specs.Reading.Entities.{place_of}
use Rattle.diagram_round_trip.proofs.DiagramLemmas.{IsExported, participants_of, item_by, items_from}
use Rattle.diagram_round_trip.proofs.DiagramChartLemmas.{Own, still_own, messages_from, notes_in}
use Rattle.diagram_round_trip.proofs.LineLemmas.{labelled_here}
use Rattle.diagram_round_trip.proofs.Lists.{each_append}
use Rattle.diagram_round_trip.proofs.MscLemmas.{Placed, Entity}
use Rattle.diagram_round_trip.proofs.PlainBytes.{ArePlain, says_itself}
use Rattle.diagram_round_trip.proofs.ExportedRows.{Sent, RaceNote}

-- Names.

no_blank : (b : ℕ) → is_name_byte b ≡ true → (b == 32) ≡ false
no_blank b its = ne_eqb b 32 (λ e. false≢true (ap is_name_byte (sym e) ∙ its))

no_blanks : (bytes : List ℕ) → list_all is_name_byte bytes ≡ true → map line_for_blank bytes ≡ bytes
no_blanks [] all = refl
no_blanks (b ∷ bytes) all =
    let parts = and_parts (is_name_byte b) (list_all is_name_byte bytes) all in
    rw (no_blank b parts.0) (ap (λ l. b ∷ l) (no_blanks bytes parts.1))

not_renamed : (name : List ℕ) → IsName name → is_renamed name name ≡ false
not_renamed name is = rw (no_blanks name (name_bytes name is).1, (bytes_eq-Decides name name).1 refl) refl

-- a label that is its own name isn't reported
no_renames : (renames : List (List ℕ × List ℕ)) (names : List (List ℕ)) → Each IsName names → renamed_from renames names names ≡ renames
unfolding renamed_from
no_renames renames [] all = refl
no_renames renames (name ∷ names) all = rw (not_renamed name all.0) (no_renames renames names all.1)

labels_are : (entities : List Entity) → Each (λ (e : Entity). IsName e.name × ArePlain e.name) entities → map (λ (p : ParticipantView). p.label) (participants_of entities) ≡ map (λ (e : Entity). e.name) entities
labels_are [] all = refl
labels_are (e ∷ entities) all = rw (says_itself e.name all.0.1) (ap (λ l. e.name ∷ l) (labels_are entities all.1))

record OwnNames (l : Labelling) : Type 0 where
  pub own : Own l
  pub each : Each IsName l.labels

with_own : (l : Labelling) (name : List ℕ) → OwnNames l → IsName name → OwnNames (with_label l name)
with_own l name are is = record { own = still_own l name are.own is; each = go (has_label l.labels name) refl }
  where
    go : (came : Bool) → has_label l.labels name ≡ came → Each IsName (with_label l name).labels
    go true e = subst (λ (m : Labelling). Each IsName m.labels) (sym (label_kept l name e)) are.each
    go false e = subst (λ (m : Labelling). Each IsName m.labels) (sym (label_added l name e)) (each_append IsName l.labels (name ∷ []) are.each (is, tt))

own_labels : (n : ℕ) (items : List ItemView) (k : ℕ) (front : List ItemView) (labels : Labelling) (placed : List Placed) → items ≡ front ++ items_from k placed → length front ≡ k → OwnNames labels
    → Each (λ (t : Placed). IsExported n t.0) placed → OwnNames (labels_from labels items (messages_from k placed))
unfolding labels_from label_of
own_labels n items k front labels [] is long own all = own
own_labels n items k front labels ((Sent is_lost from to name, place) ∷ placed) is long own all =
    let label = labelled_here items k front (items_from (k + 1) placed) (Sent is_lost from to name) place is long in
    subst (λ x. OwnNames (labels_from (with_label labels x) items (messages_from (k + 1) placed))) (sym label)
    (own_labels n items (k + 1) (front ++ item_by k (Sent is_lost from to name) place ∷ []) (with_label labels name) placed
    (is ∙ sym (append_assoc front (item_by k (Sent is_lost from to name) place ∷ []) (items_from (k + 1) placed)))
    (omega (arith, long, length-append front (item_by k (Sent is_lost from to name) place ∷ []))) (with_own labels name own all.0.3) all.1)
own_labels n items k front labels ((RaceNote at words, place) ∷ placed) is long own all =
    own_labels n items (k + 1) (front ++ item_by k (RaceNote at words) place ∷ []) labels placed
    (is ∙ sym (append_assoc front (item_by k (RaceNote at words) place ∷ []) (items_from (k + 1) placed)))
    (omega (arith, long, length-append front (item_by k (RaceNote at words) place ∷ []))) own all.1

-- none of an export's names and labels is reported
pub none_renamed : (n : ℕ) (names : List (List ℕ)) (entities : List Entity) (placed : List Placed) → map (λ (e : Entity). e.name) entities ≡ names
    → Each (λ (e : Entity). IsName e.name × ArePlain e.name) entities → Each IsName names → Each (λ (t : Placed). IsExported n t.0) placed
    → renamed_from (renamed_from [] (map (λ (p : ParticipantView). p.label) (participants_of entities)) names)
    (labels_from none (items_from 0 placed) (messages_from 0 placed)).labels (labels_from none (items_from 0 placed) (messages_from 0 placed)).names ≡ []
none_renamed n names entities placed named plain each all =
    let l = labels_from none (items_from 0 placed) (messages_from 0 placed) in
    let own = own_labels n (items_from 0 placed) 0 [] none placed refl refl (record { own = refl; each = tt }) all in
    ap (λ x. renamed_from (renamed_from [] x names) l.labels l.names) (labels_are entities plain ∙ named)
    ∙ ap (λ x. renamed_from x l.labels l.names) (no_renames [] names each)
    ∙ ap (λ x. renamed_from [] l.labels x) own.own
    ∙ no_renames [] l.labels own.each

-- Notes.

abbrev pub IsNote : LeftOut → Type 0
IsNote l = l.kind ≡ kinds.Note

set_notes : (left_out : List LeftOut) (i : ℕ) (l : LeftOut) → Each IsNote left_out → IsNote l → Each IsNote (slice_set left_out i l)
set_notes [] i l all its = tt
set_notes (x ∷ left_out) zero l all its = (its, all.1)
set_notes (x ∷ left_out) (suc i) l all its = (all.0, set_notes left_out i l all.1 its)

note_at : (left_out : List LeftOut) (i : ℕ) (l : LeftOut) → Each IsNote left_out → IsNote l → IsNote (slice_index_or left_out i l)
note_at [] i l all its = its
note_at (x ∷ left_out) zero l all its = all.0
note_at (x ∷ left_out) (suc i) l all its = note_at left_out i l all.1 its

one_more : (left_out : List LeftOut) (place : Place) (at : Option ℕ) → Each IsNote left_out → Each IsNote (with_one_at left_out kinds.Note place at)
one_more left_out place None all = each_append IsNote left_out (one kinds.Note place ∷ []) all (refl, tt)
one_more left_out place (Some i) all =
    set_notes left_out i (and_one (slice_index_or left_out i (one kinds.Note place)) place) all (note_at left_out i (one kinds.Note place) all refl)

-- only notes are skipped
pub only_notes : (placed : List Placed) (left_out : List LeftOut) → Each IsNote left_out → Each IsNote (notes_in placed left_out)
unfolding with_one
only_notes [] left_out all = all
only_notes ((Sent is_lost from to name, place) ∷ placed) left_out all = only_notes placed left_out all
only_notes ((RaceNote at words, place) ∷ placed) left_out all = only_notes placed (with_one left_out kinds.Note (place_of place)) (one_more left_out (place_of place) _ all)
