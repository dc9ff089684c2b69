-- The arrows of a diagram with their items' numbers, and the messages that they are.
use Rattle.std.proofs.Common.{◌≡◌, ℕ, ◌+◌, ◌||◌, Bool, true, false, List, [], ◌∷◌, ◌++◌, length, map, Some, refl, sym, ap, ◌∙◌, arith, append_assoc, append-nil}
use Rattle.std.specs.Prelude.{slice_get, bytes_eq}
use Rattle.std.proofs.lemmas.List.{length_push}
use Rattle.std.proofs.lemmas.List.Folds.{list_any-append}
use Rattle.std.proofs.lemmas.Slice.Eq.{bytes_eq-Decides}
use Rattle.std.specs.List.{list_any}
use Rattle.diagram_labels.specs.Labels.{labelled, none, with_label, name_of, has_label}
use Rattle.diagram_labels.proofs.Labelled.{labels_keep}
use Rattle.diagrams.specs.Collecting.{CollectedView, message_of, with_event, with_item, with_items}
use Rattle.diagrams.specs.Diagrams.{ArrowView, ItemView, AnArrow, ANote}
use Rattle.diagrams.specs.LeftOuts.{with_one}
use Rattle.diagrams.specs.Naming.{label_of, label_by, label_at, named_as, named_from}
use Rattle.diagrams.specs.declared.left_out.Kind.TheVariants as kinds
use Rattle.diagrams.specs.declared.left_out.LeftOut.{LeftOut}
use Rattle.diagrams.specs.declared.message.Message.{Message}
use Rattle.diagrams.specs.Messages.Each.{Each}
use Rattle.diagram_laws.specs.Arrows.{arrows_of}
use Rattle.diagram_laws.specs.Plain.{StatesNone}
use Rattle.diagram_laws.proofs.Lists.{fold_push, get_seam}

-- an arrow, with the number of its item
abbrev pub Numbered : Type 0
Numbered = ℕ × ArrowView

abbrev pub arrow : Numbered → ArrowView
arrow x = x.1

-- the arrows of these items, the first of which has this number
abbrev pub numbered : ℕ → List ItemView → List Numbered
numbered k [] = []
numbered k (AnArrow a ∷ items) = (k, a) ∷ numbered (k + 1) items
numbered k (ANote n ∷ items) = numbered (k + 1) items

pub numbered_arrows : (k : ℕ) (items : List ItemView) → map arrow (numbered k items) ≡ arrows_of items
unfolding arrows_of
numbered_arrows k [] = refl
numbered_arrows k (AnArrow a ∷ items) = ap (λ l. a ∷ l) (numbered_arrows (k + 1) items)
numbered_arrows k (ANote n ∷ items) = numbered_arrows (k + 1) items

-- each has the label of its item
label_there : (all : List ItemView) (k : ℕ) (a : ArrowView) → slice_get all k ≡ Some (AnArrow a) → label_at all k ≡ a.label
unfolding label_of
label_there all k a is = ap label_by is

pub numbered_labels : (all pre items : List ItemView) (k : ℕ) → all ≡ pre ++ items → k ≡ length pre → Each (λ x. label_at all x.0 ≡ x.1.label) (numbered k items)
numbered_labels all pre [] k is at_k = tt
numbered_labels all pre (AnArrow a ∷ items) k is at_k = (
  label_there all k a (ap (λ l. slice_get l k) is ∙ ap (slice_get (pre ++ AnArrow a ∷ items)) at_k ∙ get_seam pre (AnArrow a) items),
  numbered_labels all (pre ++ AnArrow a ∷ []) items (k + 1) (is ∙ sym (append_assoc pre (AnArrow a ∷ []) items)) (omega (arith, at_k, length_push pre (AnArrow a))),
)
numbered_labels all pre (ANote n ∷ items) k is at_k =
    numbered_labels all (pre ++ ANote n ∷ []) items (k + 1) (is ∙ sym (append_assoc pre (ANote n ∷ []) items)) (omega (arith, at_k, length_push pre (ANote n)))

-- the messages that are collected
abbrev pub message : Numbered → Message
message x = message_of x.0 x.1

-- the skipped constructs, with these items' notes
abbrev pub noted : List LeftOut → List ItemView → List LeftOut
noted left_out [] = left_out
noted left_out (AnArrow a ∷ items) = noted left_out items
noted left_out (ANote n ∷ items) = noted (with_one left_out kinds.Note n.place) items

pub collected_arrows : (names : List (List ℕ)) (k : ℕ) (items : List ItemView) (c : CollectedView) → Each (StatesNone names) items
    → with_items names k items c ≡ record { messages = c.messages ++ map message (numbered k items); waiting = c.waiting; left_out = noted c.left_out items; fault = c.fault }
unfolding with_item with_items
collected_arrows names k [] c all = ap (λ l. record { messages = l; waiting = c.waiting; left_out = c.left_out; fault = c.fault }) (sym (append-nil c.messages))
collected_arrows names k (AnArrow a ∷ items) c all =
    collected_arrows names (k + 1) items (record c { messages = c.messages ++ message_of k a ∷ [] }) all.1
    ∙ ap (λ l. record { messages = l; waiting = c.waiting; left_out = noted c.left_out items; fault = c.fault }) (append_assoc c.messages (message_of k a ∷ []) (map message (numbered (k + 1) items)))
collected_arrows names k (ANote n ∷ items) c all =
    ap (λ o. with_items names (k + 1) items (with_event k n o c)) all.0
    ∙ collected_arrows names (k + 1) items (record c { left_out = with_one c.left_out kinds.Note n.place }) all.1

-- Their names.

has_last : (labels : List (List ℕ)) (label : List ℕ) → has_label (labels ++ label ∷ []) label ≡ true
has_last labels label = list_any-append (bytes_eq label) labels (label ∷ []) ∙ last (list_any (bytes_eq label) labels)
  where
    last : (b : Bool) → (b || (bytes_eq label label || false)) ≡ true
    last true = refl
    last false = ap (λ c. c || false) ((bytes_eq-Decides label label).1 refl)

-- each message has the name that its label has in the end
pub named_all : (to : Numbered → Message) → ((x : Numbered) → (to x).item ≡ x.0) → (items : List ItemView) (before : List (List ℕ)) (xs : List Numbered) → Each (λ x. label_at items x.0 ≡ x.1.label) xs
    → named_from (labelled before) items (map to xs) ≡ map (λ x. named_as (to x) (name_of (labelled (before ++ map (λ (a : ArrowView). a.label) (map arrow xs))) x.1.label)) xs
unfolding named_from
named_all to item items before [] all = refl
named_all to item items before (x ∷ xs) all =
    ap (λ label. named_as (to x) (name_of (with_label (labelled before) label) label) ∷ named_from (with_label (labelled before) label) items (map to xs)) label_is
    ∙ ap (λ l. named_as (to x) (name_of l own) ∷ named_from l items (map to xs)) (sym (fold_push with_label none before own))
    ∙ ap (λ n. named_as (to x) n ∷ named_from (labelled (before ++ own ∷ [])) items (map to xs)) (sym (labels_keep (before ++ own ∷ []) (map (λ (a : ArrowView). a.label) (map arrow xs)) own (has_last before own)))
    ∙ ap (λ l. named_as (to x) (name_of (labelled ((before ++ own ∷ []) ++ map (λ (a : ArrowView). a.label) (map arrow xs))) own) ∷ l) (named_all to item items (before ++ own ∷ []) xs all.1)
    ∙ ap (λ labels. map (λ y. named_as (to y) (name_of (labelled labels) y.1.label)) (x ∷ xs)) (append_assoc before (own ∷ []) (map (λ (a : ArrowView). a.label) (map arrow xs)))
  where
    own : List ℕ
    own = x.1.label

    label_is : label_at items (to x).item ≡ own
    label_is = ap (label_at items) (item x) ∙ all.0
