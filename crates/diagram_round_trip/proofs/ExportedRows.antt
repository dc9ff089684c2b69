-- The text of an export for mscgen whose messages are level, piece by piece, and its tokens.
use Rattle.std.proofs.Common.{ℕ, zero, suc, Bool, true, false, List, [], ◌∷◌, ◌++◌, codes, refl}
use Rattle.diagrams.specs.Messages.Each.{Each}
use Rattle.diagram_mscgen.specs.Grammar.Tokens.{KindView, Word, Text, Sign, Spacer, Mark}
use Rattle.diagram_mscgen.specs.declared.grammar.relation.Relation.{Relation}
use Rattle.diagram_mscgen.specs.declared.grammar.relation.Relation.TheVariants.{To, LostTo}
use Rattle.texts.specs.Instances.{name_at}
use Rattle.diagram_round_trip.proofs.PlainBytes.{ArePlain, plain_both}
use Rattle.diagram_round_trip.proofs.TokenLemmas.{HasTokens, quoted, msc_word, indented, to_next, to_end, brace, arrow, cross, note, row_without, label}

-- the content of a row of an export
pub data ExportedRow : Type 0 where
  -- a message between two participants, by their places, and whether nobody receives it
  Sent : (is_lost : Bool) (from to : ℕ) (name : List ℕ) → ExportedRow
  -- the races of a receive, at a participant
  RaceNote : (at : ℕ) (words : List ℕ) → ExportedRow

abbrev pub quote : List ℕ → List ℕ → List ℕ
quote bytes rest = 34 ∷ bytes ++ 34 ∷ rest

abbrev pub labelled : List ℕ → List ℕ → List ℕ
labelled bytes rest = codes " [label=\"" ++ (bytes ++ (codes "\"];\n" ++ rest))

abbrev pub race_words : List ℕ → List ℕ
race_words words = codes "may come before " ++ words

abbrev pub signed : Bool → List ℕ → List ℕ
signed true rest = codes " -x " ++ rest
signed false rest = codes " -> " ++ rest

abbrev pub relation : Bool → Relation
relation true = LostTo
relation false = To

-- the text of a row, before the rest of the text
abbrev pub exported_text : List (List ℕ) → ExportedRow → List ℕ → List ℕ
exported_text names (Sent is_lost from to name) rest =
    codes "  " ++ quote (name_at names (suc from)) (signed is_lost (quote (name_at names (suc to)) (labelled name rest)))
exported_text names (RaceNote at words) rest =
    codes "  " ++ quote (name_at names (suc at)) (codes " note " ++ quote (name_at names (suc at)) (labelled (race_words words) rest))

abbrev pub all_text : List (List ℕ) → List ExportedRow → List ℕ → List ℕ
all_text names [] rest = rest
all_text names (s ∷ exported) rest = exported_text names s (all_text names exported rest)

abbrev pub rows_text : List (List ℕ) → List ExportedRow → List ℕ → List ℕ
rows_text names [] rest = codes "  |||;\n" ++ rest
rows_text names (s ∷ exported) rest = all_text names (s ∷ exported) rest

-- the entities after the first
abbrev pub others_text : List (List ℕ) → List ℕ → List ℕ
others_text [] rest = codes ";\n" ++ rest
others_text (name ∷ names) rest = codes ",\n  " ++ quote name (others_text names rest)

abbrev pub whole_text : List ℕ → List (List ℕ) → List ExportedRow → List ℕ
whole_text first others exported =
    codes "msc {\n" ++ (codes "  " ++ quote first (others_text others (rows_text (first ∷ others) exported (codes "}\n"))))

-- the tokens of the same text
abbrev pub label_kinds : List ℕ → List KindView → List KindView
label_kinds bytes more = Mark 91 ∷ Word (codes "label") ∷ Mark 61 ∷ Text bytes ∷ Mark 93 ∷ Mark 59 ∷ more

abbrev pub exported_kinds : List (List ℕ) → ExportedRow → List KindView → List KindView
exported_kinds names (Sent is_lost from to name) more =
    Text (name_at names (suc from)) ∷ Sign (relation is_lost) ∷ Text (name_at names (suc to)) ∷ label_kinds name more
exported_kinds names (RaceNote at words) more =
    Text (name_at names (suc at)) ∷ Word (codes "note") ∷ Text (name_at names (suc at)) ∷ label_kinds (race_words words) more

abbrev pub all_kinds : List (List ℕ) → List ExportedRow → List KindView → List KindView
all_kinds names [] more = more
all_kinds names (s ∷ exported) more = exported_kinds names s (all_kinds names exported more)

abbrev pub rows_kinds : List (List ℕ) → List ExportedRow → List KindView → List KindView
rows_kinds names [] more = Spacer ∷ Mark 59 ∷ more
rows_kinds names (s ∷ exported) more = all_kinds names (s ∷ exported) more

abbrev pub others_kinds : List (List ℕ) → List KindView → List KindView
others_kinds [] more = Mark 59 ∷ more
others_kinds (name ∷ names) more = Mark 44 ∷ Text name ∷ others_kinds names more

abbrev pub whole_kinds : List ℕ → List (List ℕ) → List ExportedRow → List KindView
whole_kinds first others exported =
    Word (codes "msc") ∷ Mark 123 ∷ Text first ∷ others_kinds others (rows_kinds (first ∷ others) exported (Mark 125 ∷ []))

-- the names and words of a row have plain bytes
abbrev pub IsPlain : ExportedRow → Type 0
IsPlain (Sent is_lost from to name) = ArePlain name
IsPlain (RaceNote at words) = ArePlain words

pub name_is_plain : (names : List (List ℕ)) (p : ℕ) → Each ArePlain names → ArePlain (name_at names (suc p))
name_is_plain [] p all = refl
name_is_plain (name ∷ names) zero all = all.0
name_is_plain (name ∷ names) (suc p) all = name_is_plain names p all.1

signed_tokens : (is_lost : Bool) (rest : List ℕ) (more : List KindView) → HasTokens rest more → HasTokens (signed is_lost rest) (Sign (relation is_lost) ∷ more)
signed_tokens true rest more behind_it = cross rest more behind_it
signed_tokens false rest more behind_it = arrow rest more behind_it

exported_tokens : (names : List (List ℕ)) (s : ExportedRow) (rest : List ℕ) (more : List KindView) → Each ArePlain names → IsPlain s → HasTokens rest more → HasTokens (exported_text names s rest) (exported_kinds names s more)
exported_tokens names (Sent is_lost from to name) rest more all plain behind_it =
    indented _ _ (quoted (name_at names (suc from)) _ _ (name_is_plain names from all)
    (signed_tokens is_lost _ _ (quoted (name_at names (suc to)) _ _ (name_is_plain names to all) (label name rest more plain behind_it))))
exported_tokens names (RaceNote at words) rest more all plain behind_it =
    indented _ _ (quoted (name_at names (suc at)) _ _ (name_is_plain names at all)
    (note _ _ (quoted (name_at names (suc at)) _ _ (name_is_plain names at all) (label (race_words words) rest more (plain_both (codes "may come before ") words refl plain) behind_it))))

all_tokens : (names : List (List ℕ)) (exported : List ExportedRow) (rest : List ℕ) (more : List KindView) → Each ArePlain names → Each IsPlain exported → HasTokens rest more → HasTokens (all_text names exported rest) (all_kinds names exported more)
all_tokens names [] rest more all plain behind_it = behind_it
all_tokens names (s ∷ exported) rest more all plain behind_it = exported_tokens names s (all_text names exported rest) (all_kinds names exported more) all plain.0 (all_tokens names exported rest more all plain.1 behind_it)

rows_tokens : (names : List (List ℕ)) (exported : List ExportedRow) (rest : List ℕ) (more : List KindView) → Each ArePlain names → Each IsPlain exported → HasTokens rest more → HasTokens (rows_text names exported rest) (rows_kinds names exported more)
rows_tokens names [] rest more all plain behind_it = row_without rest more behind_it
rows_tokens names (s ∷ exported) rest more all plain behind_it = all_tokens names (s ∷ exported) rest more all plain behind_it

others_tokens : (names : List (List ℕ)) (rest : List ℕ) (more : List KindView) → Each ArePlain names → HasTokens rest more → HasTokens (others_text names rest) (others_kinds names more)
others_tokens [] rest more all behind_it = to_end rest more behind_it
others_tokens (name ∷ names) rest more all behind_it = to_next _ _ (quoted name _ _ all.0 (others_tokens names rest more all.1 behind_it))

-- the tokens of the whole text
pub whole_tokens : (first : List ℕ) (others : List (List ℕ)) (exported : List ExportedRow) → Each ArePlain (first ∷ others) → Each IsPlain exported → HasTokens (whole_text first others exported) (whole_kinds first others exported)
whole_tokens first others exported all plain =
    msc_word _ _ (indented _ _ (quoted first _ _ all.0 (others_tokens others _ _ all.1 (rows_tokens (first ∷ others) exported (codes "}\n") (Mark 125 ∷ []) all plain brace))))
