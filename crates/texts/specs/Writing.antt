-- The effect of a writer on its output: S is the output, and sink is what is known of it.
use Rattle.std.specs.Prelude.{◌≡◌, [], ◌++◌, Result, Ok, Err}
use Rattle.std.specs.Io.KnownBytes.{Appends}
use Rattle.chart.specs.Words.{Text}
use Rattle.texts.specs.Outs.{Sink, one_more}
use Rattle.texts.specs.declared.text_buffer.TextBuffer.{TextBuffer}

-- the text was appended, and no put failed
pub record Puts {S : Type 0} (sink : S → Sink) (old new : S) (text : Text) : Type 0 where
  pub appends : Appends (sink old).contents (sink new).contents text
  pub none_failed : (sink new).failures ≡ (sink old).failures

-- a beginning of the text was appended, and one put failed
pub record Breaks {S : Type 0} (sink : S → Sink) (old new : S) (text : Text) : Type 0 where
  pub put : Text
  pub rest : Text
  pub splits : text ≡ put ++ rest
  pub appends : Appends (sink old).contents (sink new).contents put
  pub one_failed : (sink new).failures ≡ one_more (sink old).failures

-- a whole write: all of the text was put, or a beginning of it
abbrev pub Wrote : {S T E : Type 0} → (S → Sink) → S → S → Result T E → Text → Type 0
Wrote sink old new (Ok x) text = Puts sink old new text
Wrote sink old new (Err e) text = Breaks sink old new text

-- the text was added to the held bytes: all bytes that are no longer held were put, and no put failed
pub record Buffers {S : Type 0} (sink : S → Sink) (old new : TextBuffer S)
    (text : Text) : Type 0 where
  pub put : Text
  pub splits : old.held ++ text ≡ put ++ new.held
  pub puts : Puts sink old.out.now new.out.now put
  pub same_out : new.out.ghost_name ≡ old.out.ghost_name

-- a beginning of the held bytes and the text was put, one put failed, and nothing is held now
pub record Stops {S : Type 0} (sink : S → Sink) (old new : TextBuffer S)
    (text : Text) : Type 0 where
  pub breaks : Breaks sink old.out.now new.out.now (old.held ++ text)
  pub empty : new.held ≡ []
  pub same_out : new.out.ghost_name ≡ old.out.ghost_name

-- a part of a write: the text is put or held, or the write stops
abbrev pub Adds : {S T E : Type 0} → (S → Sink) → TextBuffer S → TextBuffer S → Result T E → Text
    → Type 0
Adds sink old new (Ok x) text = Buffers sink old new text
Adds sink old new (Err e) text = Stops sink old new text
