-- Names of participants and of messages, one after the other.
use Rattle.std.proofs.Common.{◌≡◌, ℕ, ◌+◌, ◌<◌, ◌≤◌, Bool, true, false, List, [], ◌∷◌, ◌++◌, length, map, drop, get_or, refl, ap, ◌∙◌, append_assoc}
use Rattle.std.proofs.lemmas.List.{drop_all, append-nil}
use Rattle.std.specs.Prelude.{MatchBool, Contains}
use Rattle.chart.proofs.NameLists.{not_there}
use Rattle.diagram_labels.specs.Giving.{is_given, called, IsFreeNumbered, IsCalled}
use Rattle.diagram_labels.specs.Labels.{Labelling, with_label, name_of}
use Rattle.diagram_labels.specs.Spelling.{spelled}
use Rattle.diagrams.specs.Diagrams.{ItemView, participant_view}
use Rattle.diagrams.specs.Naming.{names_from, label_at, named_as, labels_from, named_from}
use Rattle.diagrams.specs.declared.diagram.Participant.{Participant}
use Rattle.diagrams.specs.declared.message.Message.{Message}
use Rattle.diagrams.specs.declared.messages.message.Named.{Named}
use Rattle.diagrams.proofs.MessagesLemmas.ListLemmas.{from_here}

-- the name for a new label is none of the given names
pub not_among : (names : List (List ℕ)) (word name : List ℕ) → IsCalled names word name → Contains names name → ⊥
not_among names word name called among =
    not_there names name (fresh (is_given names word) refl called) among
  where
    fresh : (b : Bool) → is_given names word ≡ b → MatchBool b (IsFreeNumbered names word name) (name ≡ word) → is_given names name ≡ false
    fresh true e h = ap (is_given names) h.1 ∙ h.2.free
    fresh false e h = ap (is_given names) h ∙ e

-- one more participant
pub name_more : (names more : List (List ℕ)) (n : ℕ) (participants : List Participant) (p : Participant) → n < length participants → p ≡ get_or participants n p
    → more ≡ names ++ called names (spelled p.label.items) ∷ []
    → names_from more (map participant_view (drop (n + 1) participants)) ≡ names_from names (map participant_view (drop n participants))
unfolding names_from
name_more names more n participants p within is e = rw (from_here participants n p within is, e) refl

pub names_end : (names : List (List ℕ)) (n : ℕ) (participants : List Participant) → length participants ≤ n → names_from names (map participant_view (drop n participants)) ≡ names
unfolding names_from
names_end names n participants past = rw (drop_all n participants past) refl

-- one more message
pub labels_more : (labels more : Labelling) (items : List ItemView) (n : ℕ) (messages : List Message) (m : Message) → n < length messages → m ≡ get_or messages n m
    → more ≡ with_label labels (label_at items m.item)
    → labels_from more items (drop (n + 1) messages) ≡ labels_from labels items (drop n messages)
unfolding labels_from
labels_more labels more items n messages m within is e = rw (from_here messages n m within is, e) refl

pub labels_end : (labels : Labelling) (items : List ItemView) (n : ℕ) (messages : List Message) → length messages ≤ n → labels_from labels items (drop n messages) ≡ labels
unfolding labels_from
labels_end labels items n messages past = rw (drop_all n messages past) refl

pub named_more : (labels more : Labelling) (items : List ItemView) (n : ℕ) (messages : List Message) (m : Message) (done next : List Named) (named : Named) → n < length messages → m ≡ get_or messages n m
    → more ≡ with_label labels (label_at items m.item)
    → named ≡ named_as m (name_of (with_label labels (label_at items m.item)) (label_at items m.item))
    → next ≡ done ++ named ∷ []
    → next ++ named_from more items (drop (n + 1) messages) ≡ done ++ named_from labels items (drop n messages)
unfolding named_from
named_more labels more items n messages m done next named within is e f g = rw (from_here messages n m within is, e, g, f) (append_assoc done (_ ∷ []) _)

pub named_end : (labels : Labelling) (items : List ItemView) (n : ℕ) (messages : List Message) (done : List Named) → length messages ≤ n → done ++ named_from labels items (drop n messages) ≡ done
unfolding named_from
named_end labels items n messages done past = rw (drop_all n messages past) (append-nil done)
