-- The text of a receive's ranges, with one more range.
use Rattle.std.proofs.Common.{◌≡◌, ℕ, List, [], ◌∷◌, ◌++◌, Bool, true, false, cond, ◌||◌, Result, Ok, Err, refl, sym, ap, ◌∙◌, subst, append_assoc, append-nil}
use Rattle.std.specs.Result.{is_err}
use Rattle.std.specs.List.{flat_map}
use Rattle.std.proofs.lemmas.List.{flat_map_more}
use Rattle.std.proofs.lemmas.List.Elements.{filter-append}
use Rattle.chart.specs.declared.event.Event.{Event}
use Rattle.chart.specs.declared.instance.EventNo.{EventNo}
use Rattle.texts.specs.Outs.{Sink}
use Rattle.texts.specs.Writing.{Buffers, Stops, Adds}
use Rattle.texts.specs.declared.text_buffer.TextBuffer.{TextBuffer}
use Rattle.texts.proofs.Writes.{adds_then}
use Rattle.races_text.specs.declared.named.listing.Form.{Form}
use Rattle.races_text.specs.declared.judged.part.Part.{Part}
use Rattle.races_text.specs.Judged.Parts.{is_shown, shown_parts, has_parts}
use Rattle.races_text.specs.Judged.Listing.{first_text, later_text, begun_text, added_text}

-- an early return by `?` at the last part
pub adds_failed : {S T E : Type 0} {sink : S → Sink} {a b : TextBuffer S} {text : List ℕ} (r : Result T E) → is_err r ≡ true → Stops sink a b text → Adds sink a b r text
adds_failed (Ok x) failed stops = cc
adds_failed (Err e) failed stops = stops

-- the part if it is shown, or nothing
abbrev shown_if : Bool → Part → List Part
shown_if b p = cond b (p ∷ []) []

shown_push : (luck : Bool) (parts : List Part) (p : Part) → shown_parts luck (parts ++ p ∷ []) ≡ shown_parts luck parts ++ shown_if (is_shown luck p) p
shown_push luck parts p = filter-append (is_shown luck) parts (p ∷ [])

has_if : (parts : List Part) (b : Bool) (p : Part) → has_parts (parts ++ shown_if b p) ≡ (has_parts parts || b)
has_if [] true p = refl
has_if [] false p = refl
has_if (x ∷ parts) b p = refl

-- whether one is shown, with one more part
pub has_more : (luck : Bool) (parts : List Part) (p : Part) → has_parts (shown_parts luck (parts ++ p ∷ [])) ≡ (has_parts (shown_parts luck parts) || is_shown luck p)
has_more luck parts p = ap has_parts (shown_push luck parts p) ∙ has_if (shown_parts luck parts) (is_shown luck p) p

module _ (form : Form) (names : List (List ℕ)) (events : List Event) (receive : EventNo) where
  begun_if : (parts : List Part) (b : Bool) (p : Part) → begun_text form names events receive (parts ++ shown_if b p)
      ≡ begun_text form names events receive parts ++ cond b (cond (has_parts parts) (later_text form names events receive p) (first_text form names events receive p)) []
  begun_if [] true p = append-nil (first_text form names events receive p)
  begun_if [] false p = refl
  begun_if (x ∷ parts) true p =
      ap (λ t. first_text form names events receive x ++ t) (sym (flat_map_more (later_text form names events receive) [] parts p))
      ∙ sym (append_assoc (first_text form names events receive x) (flat_map (later_text form names events receive) parts) (later_text form names events receive p))
  begun_if (x ∷ parts) false p =
      ap (λ (ps : List Part). begun_text form names events receive (x ∷ ps)) (append-nil parts) ∙ sym (append-nil (begun_text form names events receive (x ∷ parts)))

  -- the text with one more part
  pub begun_more : (luck : Bool) (parts : List Part) (p : Part) → begun_text form names events receive (shown_parts luck (parts ++ p ∷ []))
      ≡ begun_text form names events receive (shown_parts luck parts) ++ added_text form names events receive luck (has_parts (shown_parts luck parts)) p
  begun_more luck parts p = ap (begun_text form names events receive) (shown_push luck parts p) ∙ begun_if (shown_parts luck parts) (is_shown luck p) p

  -- one more part was added
  pub adds_part : {S T E : Type 0} {sink : S → Sink} {a b : TextBuffer S} (c : TextBuffer S) (r : Result T E) (luck has : Bool) (parts : List Part) (p : Part) → has ≡ has_parts (shown_parts luck parts)
      → Buffers sink a b (begun_text form names events receive (shown_parts luck parts)) → Adds sink b c r (added_text form names events receive luck has p)
      → Adds sink a c r (begun_text form names events receive (shown_parts luck (parts ++ p ∷ [])))
  adds_part {sink = sink} {a} {b} c r luck has parts p same so_far added =
      let text = added_text form names events receive luck in
      subst (Adds sink a c r) (sym (begun_more luck parts p)) (adds_then c r (text (has_parts (shown_parts luck parts)) p) so_far (subst (λ h. Adds sink b c r (text h p)) same added))
