-- Arcs, one after the other, and their rows.
use Rattle.std.proofs.Common.{◌≡◌, ℕ, zero, suc, ◌+◌, ◌-◌, ◌<◌, ◌≤◌, arith, Bool, true, false, List, [], ◌∷◌, length, refl, sym, ap, ◌∙◌, Option, None, Some, Result, Ok, Err, if◌then◌else◌}
use Rattle.std.specs.Prelude.{◌==◌}
use Rattle.diagram_mscgen.specs.Grammar.Arcs.{ArcView}
use Rattle.diagram_mscgen.specs.declared.grammar.arc.ArcKind.{ArcKind}
use Rattle.diagram_mscgen.specs.declared.grammar.arc.ArcKind.TheVariants as arcs
use Rattle.diagram_mscgen.specs.Reading.Arcs.{RowsView, with_message, with_text, with_note, with_pair, with_other, with_others, with_spacer, with_all_by, with_ends, rows_by, ended_row, label_of}
use Rattle.diagram_mscgen.specs.Reading.Entities.{known_at}

-- either of two with the same row
either_row : (b : Bool) (x y : RowsView) (row : ℕ) → x.row ≡ row → y.row ≡ row → (if b then x else y).row ≡ row
either_row true x y row first second = first
either_row false x y row first second = second

message_row : (last : ℕ) (is_lost : Bool) (from to : ℕ) (a : ArcView) (s : RowsView) → (with_message last is_lost from to a s).row ≡ s.row
message_row last is_lost from to a s = either_row (from == to) _ _ s.row refl refl

text_row : (p : ℕ) (a : ArcView) (text : List ℕ) (s : RowsView) → (with_text p a text s).row ≡ s.row
text_row p a [] s = refl
text_row p a (b ∷ bs) s = refl

note_row : (from to : ℕ) (a : ArcView) (s : RowsView) → (with_note from to a s).row ≡ s.row
note_row from to a s = either_row (from == to) _ _ s.row (text_row from a (label_of a) s) refl

pair_row : (last : ℕ) (kind : ArcKind) (from to : ℕ) (a : ArcView) (s : RowsView) → (with_pair last kind from to a s).row ≡ s.row
pair_row last arcs.Message from to a s = message_row last false from to a s
pair_row last arcs.Lost from to a s = message_row last true from to a s
pair_row last arcs.Both from to a s = refl
pair_row last arcs.Line from to a s = refl
pair_row last arcs.Box from to a s = refl
pair_row last arcs.Note from to a s = note_row from to a s
pair_row last arcs.Spacer from to a s = refl
pair_row last arcs.Broadcast from to a s = refl
pair_row last arcs.LostBroadcast from to a s = refl

other_row : (last : ℕ) (is_lost : Bool) (from : ℕ) (a : ArcView) (to : ℕ) (s : RowsView) → (with_other last is_lost from a to s).row ≡ s.row
other_row last is_lost from a to s = either_row (to == from) _ _ s.row refl refl

others_row : (last : ℕ) (is_lost : Bool) (from : ℕ) (a : ArcView) (to n : ℕ) (s : RowsView) → (with_others last is_lost from a to n s).row ≡ s.row
others_row last is_lost from a to zero s = refl
others_row last is_lost from a to (suc n) s = others_row last is_lost from a (to + 1) n (with_other last is_lost from a to s) ∙ other_row last is_lost from a to s

spacer_row : (a : ArcView) (label : Option (List ℕ)) (s : RowsView) → (with_spacer a label s).row ≡ s.row
spacer_row a None s = refl
spacer_row a (Some label) s = refl

-- the row is the same after the items are added
abbrev Stays : ℕ → Result RowsView ℕ → Type 0
Stays row (Ok s) = s.row ≡ row
Stays row (Err line) = Unit {0}

all_row : (words : List (List ℕ)) (last : ℕ) (is_lost : Bool) (a : ArcView) (s : RowsView) (known : Option ℕ) → Stays s.row (with_all_by words last is_lost a s known)
all_row words last is_lost a s None = tt
all_row words last is_lost a s (Some from) = others_row last is_lost from a 0 (length words) s

ends_row : (last : ℕ) (a : ArcView) (s : RowsView) (from to : Option ℕ) → Stays s.row (with_ends last a s from to)
ends_row last a s None to = tt
ends_row last a s (Some from) None = tt
ends_row last a s (Some from) (Some to) = pair_row last a.kind from to a s

row_by : (words : List (List ℕ)) (last : ℕ) (a : ArcView) (s : RowsView) (kind : ArcKind) → Stays s.row (rows_by words last a s kind)
row_by words last a s arcs.Spacer = spacer_row a a.label s
row_by words last a s arcs.Broadcast = all_row words last false a s (known_at words a.from)
row_by words last a s arcs.LostBroadcast = all_row words last true a s (known_at words a.from)
row_by words last a s arcs.Message = ends_row last a s (known_at words a.from) (known_at words a.to)
row_by words last a s arcs.Lost = ends_row last a s (known_at words a.from) (known_at words a.to)
row_by words last a s arcs.Both = ends_row last a s (known_at words a.from) (known_at words a.to)
row_by words last a s arcs.Line = ends_row last a s (known_at words a.from) (known_at words a.to)
row_by words last a s arcs.Box = ends_row last a s (known_at words a.from) (known_at words a.to)
row_by words last a s arcs.Note = ends_row last a s (known_at words a.from) (known_at words a.to)

stayed : (row : ℕ) (built : Result RowsView ℕ) (s : RowsView) → Stays row built → built ≡ Ok s → s.row ≡ row
stayed row (Ok x) s stays e = let same : x ≡ s = cc in ap (λ (r : RowsView). r.row) (sym same) ∙ stays
stayed row (Err line) s stays e = absurd (cc)

-- the items of an arc leave the row as it is
pub row_stays : (words : List (List ℕ)) (last : ℕ) (a : ArcView) (s more : RowsView) → rows_by words last a s a.kind ≡ Ok more → more.row ≡ s.row
row_stays words last a s more e = stayed s.row (rows_by words last a s a.kind) more (row_by words last a s a.kind) e

-- after an arc the row is at most one further down
pub ended_most : (ends : Bool) (s : RowsView) → (ended_row ends s).row ≤ s.row + 1
ended_most true s = omega arith
ended_most false s = omega arith

-- one more participant to which an arrow goes
pub other_more : (last : ℕ) (is_lost : Bool) (from : ℕ) (a : ArcView) (to count : ℕ) (s more : RowsView) → to < count → more ≡ with_other last is_lost from a to s
    → with_others last is_lost from a (to + 1) (count - (to + 1)) more ≡ with_others last is_lost from a to (count - to) s
other_more last is_lost from a to count s more within is =
    let left : count - to ≡ suc (count - (to + 1)) = omega arith in
    rw (left, is) refl
