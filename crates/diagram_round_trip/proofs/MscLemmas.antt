-- The chart that is read from the tokens of an export.
use Rattle.std.proofs.Common.{◌≡◌, ℕ, zero, suc, ◌<◌, Bool, true, false, cond, List, [], ◌∷◌, ◌++◌, None, Some, Ok, length, map, codes, refl, sym, ap, ◌∙◌, append_assoc, arith}
use Rattle.texts.specs.Instances.{name_at}
use Rattle.diagram_mscgen.specs.Grammar.Arcs.{ArcView, arc_in, ends_in, pair_in, relation_in, partner_in}
use Rattle.diagram_mscgen.specs.Grammar.Attributes.{attributes_in, attributes_at, attribute_in, attribute_name_in}
use Rattle.diagram_mscgen.specs.Grammar.Charts.{EntityView, entity_in, entities_from, entities_in, arcs_from, arcs_in, is_last, msc_in, head_in, body_in, options_in, end_of}
use Rattle.diagram_mscgen.specs.Grammar.Reading.{Tokens, behind_mark, skip_mark, name_in, next_word, skip_spacer, end_in}
use Rattle.diagram_mscgen.specs.Grammar.Tokens.{KindView, Word, Text, Sign, Spacer, Mark}
use Rattle.diagram_mscgen.specs.Grammar.Words.{box_of, attribute_name, is_one_of}
use Rattle.texts.specs.Bytes.Words.{is_spelled}
use Rattle.diagram_mscgen.specs.declared.grammar.arc.ArcKind.TheVariants as arcs
use Rattle.texts.specs.declared.bytes.place.Place.{Place}
use Rattle.diagram_round_trip.proofs.ExportedRows.{ExportedRow, Sent, RaceNote, race_words, relation, label_kinds, exported_kinds, all_kinds, rows_kinds, others_kinds, whole_kinds}
use Rattle.diagram_round_trip.proofs.TokenLemmas.{AreKinds}

-- the content of a row, at its place
abbrev pub Placed : Type 0
Placed = ExportedRow × Place

abbrev pub arc_by : List (List ℕ) → ExportedRow → Place → ArcView
arc_by names (Sent is_lost from to name) place = record {
  kind = cond is_lost arcs.Lost arcs.Message;
  from = name_at names (suc from);
  to = name_at names (suc to);
  label = Some name;
  skip = 0;
  ends_row = true;
  place = place;
}
arc_by names (RaceNote at words) place = record {
  kind = arcs.Note;
  from = name_at names (suc at);
  to = name_at names (suc at);
  label = Some (race_words words);
  skip = 0;
  ends_row = true;
  place = place;
}

-- the arc of a row
abbrev pub arc_of : List (List ℕ) → Placed → ArcView
arc_of names t = arc_by names t.0 t.1

-- a row without an arc
abbrev pub space_at : Place → ArcView
space_at place = record { kind = arcs.Spacer; from = []; to = []; label = None; skip = 0; ends_row = true; place = place }

-- an entity, at its place
pub record Entity : Type 0 where
  pub name : List ℕ
  pub place : Place

abbrev pub entity_of : Entity → EntityView
entity_of e = record { word = e.name; label = None; place = e.place }

-- the arc that is read, and the tokens after it
record ReadsArc (names : List (List ℕ)) (s : ExportedRow) (more : List KindView) (tokens : Tokens) : Type 0 where
  pub place : Place
  pub rest : Tokens
  pub behind : AreKinds more rest
  pub shorter : length rest < length tokens
  pub read : arc_in tokens ≡ Ok (arc_of names ((s, place)), rest)

sent_read : (is_lost : Bool) (from to name : List ℕ) (p q r s t u v w x : Place) (a b c d e f g h i : List ℕ) (rest : Tokens)
    → arc_in (record { kind = Text from; place = p; rest = a } ∷ record { kind = Sign (relation is_lost); place = q; rest = b } ∷ record { kind = Text to; place = r; rest = c }
    ∷ record { kind = Mark 91; place = s; rest = d } ∷ record { kind = Word (codes "label"); place = t; rest = e } ∷ record { kind = Mark 61; place = u; rest = f }
    ∷ record { kind = Text name; place = v; rest = g } ∷ record { kind = Mark 93; place = w; rest = h } ∷ record { kind = Mark 59; place = x; rest = i } ∷ rest)
    ≡ Ok (record { kind = cond is_lost arcs.Lost arcs.Message; from = from; to = to; label = Some name; skip = 0; ends_row = true; place = p }, rest)
unfolding arc_in ends_in pair_in relation_in partner_in attributes_in attributes_at attribute_in attribute_name_in behind_mark skip_mark name_in next_word skip_spacer end_in attribute_name is_spelled
sent_read true from to name p q r s t u v w x a b c d e f g h i rest = refl
sent_read false from to name p q r s t u v w x a b c d e f g h i rest = refl

noted_read : (at words : List ℕ) (p q r s t u v w x : Place) (a b c d e f g h i : List ℕ) (rest : Tokens)
    → arc_in (record { kind = Text at; place = p; rest = a } ∷ record { kind = Word (codes "note"); place = q; rest = b } ∷ record { kind = Text at; place = r; rest = c }
    ∷ record { kind = Mark 91; place = s; rest = d } ∷ record { kind = Word (codes "label"); place = t; rest = e } ∷ record { kind = Mark 61; place = u; rest = f }
    ∷ record { kind = Text words; place = v; rest = g } ∷ record { kind = Mark 93; place = w; rest = h } ∷ record { kind = Mark 59; place = x; rest = i } ∷ rest)
    ≡ Ok (record { kind = arcs.Note; from = at; to = at; label = Some words; skip = 0; ends_row = true; place = p }, rest)
unfolding arc_in ends_in pair_in relation_in partner_in attributes_in attributes_at attribute_in attribute_name_in behind_mark skip_mark name_in next_word skip_spacer end_in attribute_name box_of is_one_of is_spelled
noted_read at words p q r s t u v w x a b c d e f g h i rest = refl

reads_arc : (names : List (List ℕ)) (s : ExportedRow) (more : List KindView) (tokens : Tokens) → AreKinds (exported_kinds names s more) tokens → ReadsArc names s more tokens
reads_arc names (Sent is_lost from to name) more tokens (p, a, t1, e1, (q, b, t2, e2, (r, c, t3, e3, (s, d, t4, e4, (t, e, t5, e5, (u, f, t6, e6, (v, g, t7, e7, (w, h, t8, e8, (x, i, rest, e9, are))))))))) =
    rw (e1, e2, e3, e4, e5, e6, e7, e8, e9) (record { place = p; rest = rest; behind = are; shorter = omega arith; read = sent_read is_lost (name_at names (suc from)) (name_at names (suc to)) name p q r s t u v w x a b c d e f g h i rest })
reads_arc names (RaceNote at words) more tokens (p, a, t1, e1, (q, b, t2, e2, (r, c, t3, e3, (s, d, t4, e4, (t, e, t5, e5, (u, f, t6, e6, (v, g, t7, e7, (w, h, t8, e8, (x, i, rest, e9, are))))))))) =
    rw (e1, e2, e3, e4, e5, e6, e7, e8, e9) (record { place = p; rest = rest; behind = are; shorter = omega arith; read = noted_read (name_at names (suc at)) (race_words words) p q r s t u v w x a b c d e f g h i rest })

-- the brace comes next, or it doesn't
brace_next : (rest : Tokens) → AreKinds (Mark 125 ∷ []) rest → is_last true rest ≡ true
unfolding skip_mark
brace_next rest (p, t, us, e, are) = rw e refl

text_next : (bytes : List ℕ) (more : List KindView) (rest : Tokens) → AreKinds (Text bytes ∷ more) rest → is_last true rest ≡ false
unfolding skip_mark
text_next bytes more rest (p, t, us, e, are) = rw e refl

exported_next : (names : List (List ℕ)) (s : ExportedRow) (more : List KindView) (rest : Tokens) → AreKinds (exported_kinds names s more) rest → is_last true rest ≡ false
exported_next names (Sent is_lost from to name) more rest are = text_next (name_at names (suc from)) (Sign (relation is_lost) ∷ Text (name_at names (suc to)) ∷ label_kinds name more) rest are
exported_next names (RaceNote at words) more rest are = text_next (name_at names (suc at)) (Word (codes "note") ∷ Text (name_at names (suc at)) ∷ label_kinds (race_words words) more) rest are

always : (names : List (List ℕ)) (s : ExportedRow) (place : Place) → (arc_by names s place).ends_row ≡ true
always names (Sent is_lost from to name) place = refl
always names (RaceNote at words) place = refl

-- the arcs that are read, and the brace after them
record ReadsArcs (names : List (List ℕ)) (exported : List ExportedRow) (n : ℕ) (so_far : List ArcView) (tokens : Tokens) : Type 0 where
  pub placed : List Placed
  pub last : Tokens
  pub brace : AreKinds (Mark 125 ∷ []) last
  pub same : map (λ (t : Placed). t.0) placed ≡ exported
  pub read : arcs_from n so_far tokens ≡ Ok (so_far ++ map (arc_of names) placed, last)

arc_last : (n : ℕ) (so_far : List ArcView) (tokens rest : Tokens) (a : ArcView) → arc_in tokens ≡ Ok (a, rest) → a.ends_row ≡ true → is_last true rest ≡ true
    → arcs_from (suc n) so_far tokens ≡ Ok (so_far ++ a ∷ [], rest)
arc_last n so_far tokens rest a e ends last = rw (e, ends, last) refl

arc_on : (n : ℕ) (so_far : List ArcView) (tokens rest : Tokens) (a : ArcView) → arc_in tokens ≡ Ok (a, rest) → a.ends_row ≡ true → is_last true rest ≡ false
    → arcs_from (suc n) so_far tokens ≡ arcs_from n (so_far ++ a ∷ []) rest
arc_on n so_far tokens rest a e ends last = rw (e, ends, last) refl

reads_arcs : (names : List (List ℕ)) (s : ExportedRow) (exported : List ExportedRow) (n : ℕ) (so_far : List ArcView) (tokens : Tokens) → length tokens < n
    → AreKinds (all_kinds names (s ∷ exported) (Mark 125 ∷ [])) tokens → ReadsArcs names (s ∷ exported) n so_far tokens
reads_arcs names s exported zero so_far tokens enough are = absurd (omega arith)
reads_arcs names s [] (suc n) so_far tokens enough are =
    let first = reads_arc names s (Mark 125 ∷ []) tokens are in
    let t : Placed = (s, first.place) in
    record {
      placed = t ∷ [];
      last = first.rest;
      brace = first.behind;
      same = refl;
      read = arc_last n so_far tokens first.rest (arc_of names t) first.read (always names s first.place) (brace_next first.rest first.behind);
    }
reads_arcs names s (u ∷ exported) (suc n) so_far tokens enough are =
    let first = reads_arc names s (all_kinds names (u ∷ exported) (Mark 125 ∷ [])) tokens are in
    let t : Placed = (s, first.place) in
    let shorter = first.shorter in
    let others = reads_arcs names u exported n (so_far ++ arc_of names t ∷ []) first.rest (omega arith) first.behind in
    record {
      placed = t ∷ others.placed;
      last = others.last;
      brace = others.brace;
      same = ap (λ l. s ∷ l) others.same;
      read = arc_on n so_far tokens first.rest (arc_of names t) first.read (always names s first.place) (exported_next names u (all_kinds names exported (Mark 125 ∷ [])) first.rest first.behind)
          ∙ others.read ∙ ap (λ l. Ok (l, others.last)) (append_assoc so_far (arc_of names t ∷ []) (map (arc_of names) others.placed));
    }

-- entities
record ReadsEntity (name : List ℕ) (is_last : Bool) (more : List KindView) (tokens : Tokens) : Type 0 where
  pub place : Place
  pub rest : Tokens
  pub behind : AreKinds more rest
  pub shorter : length rest < length tokens
  pub read : entity_in tokens ≡ Ok ((entity_of (record { name = name; place = place }), is_last), rest)

reads_last : (name : List ℕ) (more : List KindView) (tokens : Tokens) → AreKinds (Text name ∷ Mark 59 ∷ more) tokens → ReadsEntity name true more tokens
unfolding entity_in attributes_in behind_mark skip_mark name_in end_in
reads_last name more tokens (p, a, t1, e1, (q, b, rest, e2, are)) =
    rw (e1, e2) (record { place = p; rest = rest; behind = are; shorter = omega arith; read = refl })

reads_next : (name : List ℕ) (more : List KindView) (tokens : Tokens) → AreKinds (Text name ∷ Mark 44 ∷ more) tokens → ReadsEntity name false more tokens
unfolding entity_in attributes_in behind_mark skip_mark name_in end_in
reads_next name more tokens (p, a, t1, e1, (q, b, rest, e2, are)) =
    rw (e1, e2) (record { place = p; rest = rest; behind = are; shorter = omega arith; read = refl })

record ReadsEntities (names : List (List ℕ)) (more : List KindView) (n : ℕ) (so_far : List EntityView) (tokens : Tokens) : Type 0 where
  pub entities : List Entity
  pub rest : Tokens
  pub behind : AreKinds more rest
  pub same : map (λ (e : Entity). e.name) entities ≡ names
  pub read : entities_from n so_far tokens ≡ Ok (so_far ++ map entity_of entities, rest)

reads_entities : (name : List ℕ) (names : List (List ℕ)) (more : List KindView) (n : ℕ) (so_far : List EntityView) (tokens : Tokens) → length tokens < n
    → AreKinds (Text name ∷ others_kinds names more) tokens → ReadsEntities (name ∷ names) more n so_far tokens
reads_entities name names more zero so_far tokens enough are = absurd (omega arith)
reads_entities name [] more (suc n) so_far tokens enough are =
    let first = reads_last name more tokens are in
    record { entities = record { name = name; place = first.place } ∷ []; rest = first.rest; behind = first.behind; same = refl; read = rw first.read refl }
reads_entities name (other ∷ names) more (suc n) so_far tokens enough are =
    let first = reads_next name (Text other ∷ others_kinds names more) tokens are in
    let e : Entity = record { name = name; place = first.place } in
    let shorter = first.shorter in
    let others = reads_entities other names more n (so_far ++ entity_of e ∷ []) first.rest (omega arith) first.behind in
    record {
      entities = e ∷ others.entities;
      rest = others.rest;
      behind = others.behind;
      same = ap (λ l. name ∷ l) others.same;
      read = rw first.read (others.read ∙ ap (λ l. Ok (l, others.rest)) (append_assoc so_far (entity_of e ∷ []) (map entity_of others.entities)));
    }

-- the arcs of the rows: an empty row if there are none
abbrev pub arcs_of : List (List ℕ) → Place → List Placed → List ArcView
arcs_of names place [] = space_at place ∷ []
arcs_of names place (t ∷ placed) = map (arc_of names) (t ∷ placed)

record ReadsRows (names : List (List ℕ)) (exported : List ExportedRow) (tokens : Tokens) : Type 0 where
  pub placed : List Placed
  pub place : Place
  pub last : Tokens
  pub brace : AreKinds (Mark 125 ∷ []) last
  pub same : map (λ (t : Placed). t.0) placed ≡ exported
  pub read : arcs_in tokens ≡ Ok (arcs_of names place placed, last)

space_read : (tokens : Tokens) → AreKinds (Spacer ∷ Mark 59 ∷ Mark 125 ∷ []) tokens → (place : Place) × (last : Tokens) × AreKinds (Mark 125 ∷ []) last × (arcs_in tokens ≡ Ok (space_at place ∷ [], last))
unfolding arcs_in arc_in ends_in attributes_in behind_mark skip_mark name_in skip_spacer end_in
space_read tokens (p, a, t1, e1, (q, b, t2, e2, (r, c, rest, e3, are))) =
    rw (e1, e2, e3) (p, record { kind = Mark 125; place = r; rest = c } ∷ rest, (r, c, rest, refl, are), refl)

rows_by : (names : List (List ℕ)) (tokens : Tokens) (s : ExportedRow) (exported : List ExportedRow) (n : ℕ) → arcs_in tokens ≡ arcs_from n [] tokens → ReadsArcs names (s ∷ exported) n [] tokens → ReadsRows names (s ∷ exported) tokens
rows_by names tokens s exported n e reads = go reads.placed refl
  where
    go : (placed : List Placed) → reads.placed ≡ placed → ReadsRows names (s ∷ exported) tokens
    go [] is = absurd (cc (ap (map (λ (t : Placed). t.0)) (sym is) ∙ reads.same))
    go (t ∷ placed) is = record {
      placed = t ∷ placed;
      place = t.1;
      last = reads.last;
      brace = reads.brace;
      same = ap (map (λ (t : Placed). t.0)) (sym is) ∙ reads.same;
      read = e ∙ reads.read ∙ ap (λ l. Ok (map (arc_of names) l, reads.last)) is;
    }

reads_rows : (names : List (List ℕ)) (exported : List ExportedRow) (tokens : Tokens) → AreKinds (rows_kinds names exported (Mark 125 ∷ [])) tokens → ReadsRows names exported tokens
unfolding arcs_in
reads_rows names [] tokens are =
    let r = space_read tokens are in
    record { placed = []; place = r.0; last = r.1; brace = r.2; same = refl; read = r.3 }
reads_rows names (s ∷ exported) tokens are =
    rows_by names tokens s exported (suc (length tokens)) refl (reads_arcs names s exported (suc (length tokens)) [] tokens (omega arith) are)

-- the chart that is read from the whole text
pub record ReadsWhole (names : List (List ℕ)) (exported : List ExportedRow) (tokens : Tokens) : Type 0 where
  pub entities : List Entity
  pub placed : List Placed
  pub place : Place
  pub named : map (λ (e : Entity). e.name) entities ≡ names
  pub same : map (λ (t : Placed). t.0) placed ≡ exported
  pub read : msc_in tokens ≡ Ok (record { entities = map entity_of entities; arcs = arcs_of names place placed })

end_read : (tokens : Tokens) → AreKinds (Mark 125 ∷ []) tokens → end_of tokens ≡ Ok tt
unfolding end_of behind_mark skip_mark
end_read tokens (p, a, rest, e1, none) = rw (e1, none) refl

head_read : (first : List ℕ) (names : List (List ℕ)) (more : List KindView) (tokens : Tokens) → AreKinds (Word (codes "msc") ∷ Mark 123 ∷ Text first ∷ others_kinds names more) tokens
    → (rest : Tokens) × AreKinds (Text first ∷ others_kinds names more) rest × (head_in tokens ≡ Ok rest)
unfolding head_in body_in options_in behind_mark skip_mark next_word
head_read first [] more tokens (p, a, t1, e1, (q, b, t2, e2, (r, c, t3, e3, (s, d, rest, e4, are)))) =
    rw (e1, e2, e3, e4) (_, (r, c, _, refl, (s, d, rest, refl, are)), refl)
head_read first (name ∷ names) more tokens (p, a, t1, e1, (q, b, t2, e2, (r, c, t3, e3, (s, d, rest, e4, are)))) =
    rw (e1, e2, e3, e4) (_, (r, c, _, refl, (s, d, rest, refl, are)), refl)

pub reads_whole : (first : List ℕ) (others : List (List ℕ)) (exported : List ExportedRow) (tokens : Tokens) → AreKinds (whole_kinds first others exported) tokens → ReadsWhole (first ∷ others) exported tokens
unfolding msc_in entities_in
reads_whole first others exported tokens are =
    let head = head_read first others (rows_kinds (first ∷ others) exported (Mark 125 ∷ [])) tokens are in
    let entities = reads_entities first others (rows_kinds (first ∷ others) exported (Mark 125 ∷ [])) (suc (length head.0)) [] head.0 (omega arith) head.1 in
    let rows = reads_rows (first ∷ others) exported entities.rest entities.behind in
    record {
      entities = entities.entities;
      placed = rows.placed;
      place = rows.place;
      named = entities.same;
      same = rows.same;
      read = rw (head.2, entities.read, rows.read, end_read rows.last rows.brace) refl;
    }
