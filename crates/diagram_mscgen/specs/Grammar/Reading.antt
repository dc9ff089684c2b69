-- The results of readers of tokens: the item with the tokens after it, or the tokens at which reading stops.
use Rattle.std.specs.Prelude.{◌≡◌, ℕ, Bool, true, false, ◌==◌, List, [], ◌∷◌, map, Option, None, Some, Result, Ok, Err, if◌then◌else◌}
use Rattle.std.specs.Borrow.{Bor}
use Rattle.diagram_mscgen.specs.Grammar.Tokens.{KindView, Word, Text, Sign, Spacer, Mark, Unknown, TokenView, seen}
use Rattle.diagram_mscgen.specs.declared.grammar.token.Token.{Token}

abbrev pub Tokens : Type 0
Tokens = List TokenView

infixl 10 ◌>>=◌
-- the next step, unless reading stopped
abbrev pub ◌>>=◌ : {A B E : Type 0} → Result A E → (A → Result B E) → Result B E
(Ok x) >>= f = f x
(Err e) >>= f = Err e

-- a required item; without it reading stops at these tokens
abbrev pub or_stop : {X : Type 0} → Tokens → Option X → Result X Tokens
or_stop tokens None = Err tokens
or_stop tokens (Some x) = Ok x

-- the result of a call, seen through view, is the defined one
abbrev pub Sees : {X Y : Type 0} → (X → Y) → Result X (Bor (List Token)) → Result Y Tokens → Type 0
Sees view (Ok x) read = read ≡ Ok (view x)
Sees view (Err stop) read = read ≡ Err (map seen stop.now)

-- the result of a search, seen through view, is the defined one
abbrev pub Finds : {X Y : Type 0} → (X → Y) → Option X → Option Y → Type 0
Finds view None found = found ≡ None
Finds view (Some x) found = found ≡ Some (view x)

-- the token is this mark
abbrev pub is_mark : ℕ → KindView → Bool
is_mark mark (Mark byte) = byte == mark
is_mark mark (Word bytes) = false
is_mark mark (Text bytes) = false
is_mark mark (Sign relation) = false
is_mark mark Spacer = false
is_mark mark Unknown = false

-- the tokens after this mark, if it comes next
unfoldable pub skip_mark : ℕ → Tokens → Option Tokens
skip_mark mark [] = None
skip_mark mark (t ∷ ts) = if is_mark mark t.kind then Some ts else None

-- the tokens after this mark, which has to come next
unfoldable pub behind_mark : ℕ → Tokens → Result Tokens Tokens
behind_mark mark tokens = or_stop tokens (skip_mark mark tokens)

-- the name of a token, if it is a word or a text
abbrev pub name_of : KindView → Option (List ℕ)
name_of (Word bytes) = Some bytes
name_of (Text bytes) = Some bytes
name_of (Mark byte) = None
name_of (Sign relation) = None
name_of Spacer = None
name_of Unknown = None

abbrev pub name_by : Option (List ℕ) → TokenView → Tokens → Result (List ℕ × Tokens) Tokens
name_by None t ts = Err (t ∷ ts)
name_by (Some name) t ts = Ok (name, ts)

-- the name that has to come next
unfoldable pub name_in : Tokens → Result (List ℕ × Tokens) Tokens
name_in [] = Err []
name_in (t ∷ ts) = name_by (name_of t.kind) t ts

-- the word of a token, if it is one
abbrev pub word_of : KindView → Option (List ℕ)
word_of (Word bytes) = Some bytes
word_of (Text bytes) = None
word_of (Mark byte) = None
word_of (Sign relation) = None
word_of Spacer = None
word_of Unknown = None

abbrev pub word_by : Option (List ℕ) → Tokens → Option (List ℕ × Tokens)
word_by None ts = None
word_by (Some word) ts = Some (word, ts)

-- the word that comes next, if there is one
unfoldable pub next_word : Tokens → Option (List ℕ × Tokens)
next_word [] = None
next_word (t ∷ ts) = word_by (word_of t.kind) ts

abbrev pub is_spacer : KindView → Bool
is_spacer Spacer = true
is_spacer (Word bytes) = false
is_spacer (Text bytes) = false
is_spacer (Mark byte) = false
is_spacer (Sign relation) = false
is_spacer Unknown = false

-- the tokens after a row without an arc, if it comes next
unfoldable pub skip_spacer : Tokens → Option Tokens
skip_spacer [] = None
skip_spacer (t ∷ ts) = if is_spacer t.kind then Some ts else None

-- the end of an item: a comma, or a semicolon, which ends the list too
unfoldable pub end_in : Tokens → Result (Bool × Tokens) Tokens
end_in tokens = end_by tokens (skip_mark 44 tokens)
  where
    end_by : Tokens → Option Tokens → Result (Bool × Tokens) Tokens
    end_by tokens (Some rest) = Ok (false, rest)
    end_by tokens None = do
      rest ← behind_mark 59 tokens
      Ok (true, rest)
