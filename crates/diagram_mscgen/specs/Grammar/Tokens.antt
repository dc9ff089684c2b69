-- The words, texts and signs of an mscgen text, each with its place (mscgen 0.20's documentation of its language).
use Rattle.std.specs.Prelude.{ℕ, zero, suc, ◌-◌, List, [], ◌∷◌, ◌++◌, length, take, drop, Option, None, Some, if◌then◌else◌}
use Rattle.diagram_mscgen.specs.Grammar.Pieces.{piece_at}
use Rattle.texts.specs.Bytes.Words.{begins}
use Rattle.texts.specs.Bytes.Places.{start, behind}
use Rattle.diagram_mscgen.specs.declared.grammar.piece.Shape.{Shape}
use Rattle.diagram_mscgen.specs.declared.grammar.piece.Shape.TheVariants as shapes
use Rattle.texts.specs.declared.bytes.place.Place.{Place}
use Rattle.diagram_mscgen.specs.declared.grammar.relation.Relation.{Relation}
use Rattle.diagram_mscgen.specs.declared.grammar.token.Kind.{Kind}
use Rattle.diagram_mscgen.specs.declared.grammar.token.Kind.TheVariants as kinds
use Rattle.diagram_mscgen.specs.declared.grammar.token.Token.{Token}

-- the kind of a token
pub data KindView : Type 0 where
  -- a word
  Word : (bytes : List ℕ) → KindView
  -- the bytes between two quotation marks
  Text : (bytes : List ℕ) → KindView
  -- an arc's sign
  Sign : (relation : Relation) → KindView
  -- a row without an arc
  Spacer : KindView
  -- punctuation
  Mark : (byte : ℕ) → KindView
  -- bytes that can't be read
  Unknown : KindView

-- a token, its place, and the text from there on
pub record TokenView : Type 0 where
  pub kind : KindView
  pub place : Place
  pub rest : List ℕ

abbrev pub kind_view : Kind → KindView
kind_view (kinds.Word bytes) = Word bytes.now
kind_view (kinds.Text bytes) = Text bytes.now
kind_view (kinds.Sign relation) = Sign relation
kind_view kinds.Spacer = Spacer
kind_view (kinds.Mark byte) = Mark byte
kind_view kinds.Unknown = Unknown

abbrev pub seen : Token → TokenView
seen t = record { kind = kind_view t.kind; place = t.place; rest = t.rest.now }

abbrev pub first_byte : List ℕ → ℕ
first_byte [] = 0
first_byte (b ∷ bs) = b

-- the bytes between the first one and the last one
unfoldable pub inner : List ℕ → List ℕ
inner bytes = take (length bytes - 2) (drop 1 bytes)

-- the kind of token that a piece with these bytes is, if it is one
abbrev pub kind_of : Shape → List ℕ → Option KindView
kind_of shapes.Gap bytes = None
kind_of shapes.Word bytes = Some (Word bytes)
kind_of shapes.Text bytes = Some (Text (inner bytes))
kind_of (shapes.Sign relation) bytes = Some (Sign relation)
kind_of shapes.Spacer bytes = Some Spacer
kind_of shapes.Mark bytes = Some (Mark (first_byte bytes))
kind_of shapes.Unknown bytes = Some Unknown

abbrev pub listed : Place → List ℕ → Option KindView → List TokenView
listed place bytes None = []
listed place bytes (Some kind) = record { kind = kind; place = place; rest = bytes } ∷ []

-- the token with which the bytes begin, if their first piece is one
unfoldable pub first_token : Place → List ℕ → List TokenView
first_token place bytes =
    listed place bytes (kind_of (piece_at bytes).shape (take (piece_at bytes).length bytes))

-- the tokens of at most this many pieces, the first of which begins here
abbrev pub tokens_from : ℕ → Place → List ℕ → List TokenView
tokens_from zero place bytes = []
tokens_from (suc n) place [] = []
tokens_from (suc n) place (b ∷ bs) =
    first_token place (b ∷ bs)
    ++ tokens_from n (behind place (take (piece_at (b ∷ bs)).length (b ∷ bs))) (drop (piece_at (b ∷ bs)).length (b ∷ bs))

-- the length of the byte order mark, or 0 if the text begins with none
unfoldable pub mark_length : List ℕ → ℕ
mark_length text = if begins text (239 ∷ 187 ∷ 191 ∷ []) then 3 else 0

-- the tokens of a text: each piece has at least one byte
unfoldable pub tokens_of : List ℕ → List TokenView
tokens_of text = tokens_from (length text) (behind start (take (mark_length text) text)) (drop (mark_length text) text)
