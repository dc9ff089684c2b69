-- Turns that were passed over, one after another.
use Rattle.std.proofs.Common.{◌≡◌, ℕ, zero, suc, ◌+◌, false, List, [], ◌∷◌, ◌++◌, Some, None, length, replicate, refl, sym, ap, ◌∙◌, append_assoc, append-nil, arith}
use Rattle.std.specs.Prelude.{slice_get}
use Rattle.behaviour.specs.declared.bare_answer.BareAnswer.{BareAnswer}
use Rattle.behaviour.specs.Scripts.{script_next}
use Rattle.instances.specs.declared.turn.Turn.{Turn}
use Rattle.schedule.specs.declared.command.Note.{Note}
use Rattle.schedule_threads.specs.Passing.{Passes}
use Rattle.schedule_threads.specs.RunNotes.{word_of, is_memory, note_of, notes_from}
use Rattle.schedule_threads.specs.RunOutcomes.{lacked_memory}

pub passes-none : (lines : List ℕ) (notes : List Note) (place : ℕ) → Passes lines notes place [] notes place
passes-none lines notes place = record { notes = λ rest. refl; memory = λ rest. refl }

-- the turn of an act of stopping
pub passes-stop : (lines : List ℕ) (notes : List Note) (place : ℕ) (turn : Turn) → turn.answer ≡ None
    → Passes lines notes place (turn ∷ []) notes place
passes-stop lines notes place turn none = record { notes = λ rest. rw none refl; memory = λ rest. rw none refl }

-- a turn with an answer other than that memory was refused
pub passes-answered : (lines : List ℕ) (old new : List Note) (place : ℕ) (turn : Turn) (answer : BareAnswer)
    → turn.answer ≡ Some answer → is_memory answer ≡ false → new ≡ old ++ note_of (slice_get lines place) (word_of answer)
    → Passes lines old place (turn ∷ []) new (script_next (length lines) place answer)
passes-answered lines old new place turn answer some memory noted = record {
  notes = λ rest. rw (some, noted) (append_assoc old (note_of (slice_get lines place) (word_of answer)) (notes_from lines (script_next (length lines) place answer) rest));
  memory = λ rest. rw (some, memory) refl;
}

pub passes-then : (lines : List ℕ) (a b c : List Note) (p q r : ℕ) (turns more : List Turn)
    → Passes lines a p turns b q → Passes lines b q more c r → Passes lines a p (turns ++ more) c r
passes-then lines a b c p q r turns more first second = record {
  notes = λ rest. second.notes rest ∙ first.notes (more ++ rest) ∙ ap (λ all. a ++ notes_from lines p all) (sym (append_assoc turns more rest));
  memory = λ rest. ap lacked_memory (append_assoc turns more rest) ∙ first.memory (more ++ rest) ∙ second.memory rest;
}

-- all turns, from the first to the last
pub passes-all : (lines : List ℕ) (old new : List Note) (next : ℕ) (turns : List Turn) → Passes lines old 0 turns new next
    → (new ≡ old ++ notes_from lines 0 turns) × (lacked_memory turns ≡ false)
passes-all lines old new next turns passed = (
  sym (append-nil new) ∙ passed.notes [] ∙ ap (λ all. old ++ notes_from lines 0 all) (append-nil turns),
  ap lacked_memory (sym (append-nil turns)) ∙ passed.memory [],
)

pub replicate-more : (n : ℕ) (turn : Turn) → replicate (n + 1) turn ≡ replicate n turn ++ turn ∷ []
replicate-more zero turn = refl
replicate-more (suc n) turn = rw (add-suc-one n) (ap (λ turns. turn ∷ turns) (replicate-more n turn))
  where
    add-suc-one : (n : ℕ) → suc n + 1 ≡ suc (n + 1)
    add-suc-one n = omega arith
