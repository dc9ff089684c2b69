-- What commands leave, one after another, and the next send of each lane.
use Rattle.std.proofs.Common.{◌≡◌, ℕ, suc, ◌+◌, ◌≤◌, ◌==◌, ◌&&◌, false, cond, List, [], ◌∷◌, ◌++◌, length, drop, get_or, reverse, fold, Option, None, Some, Result, Ok, Err, refl, sym, ap, ◌∙◌, subst, arith, append-nil, drop-cons}
use Rattle.std.proofs.lemmas.List.{drop_all, reverse-append}
use Rattle.schedule.specs.Meaning.{Run, State, step, acts, noted}
use Rattle.schedule.specs.declared.command.Command.{Command}
use Rattle.schedule.specs.declared.command.Word.{Word}
use Rattle.schedule.specs.Outcomes.Performed.{HasDone}
use Rattle.schedule_replay.specs.declared.notes.notes.Noted.{Noted}
use Rattle.schedule_replay.specs.Notes.Notes as notes
use Rattle.schedule_replay.specs.Notes.Notes.{word_of, words_from, is_send_to, later_send, note_if, AreNext}
use Rattle.schedule_replay.specs.Notes.Lanes.{AreLanes}

-- one more command
pub words_from-push : (n k : ℕ) (s : State) (commands : List Command) (command : Command) → words_from n k s (commands ++ command ∷ []) ≡ words_from n k s commands ++ word_of (acts n k (fold (step n k) s commands).run command.actor command.action) ∷ []
words_from-push n k s [] command = refl
words_from-push n k s (c ∷ commands) command = ap (λ ws. word_of (acts n k s.run c.actor c.action) ∷ ws) (words_from-push n k (step n k s c) commands command)

pub length-words_from : (n k : ℕ) (s : State) (commands : List Command) → length (words_from n k s commands) ≡ length commands
length-words_from n k s [] = refl
length-words_from n k s (c ∷ commands) = ap suc (length-words_from n k (step n k s c) commands)

-- the answer is what the command leaves, and the run goes on from there
pub left_by : (IsFar : Run → Type 0) (s : State) (line : ℕ) (answer : Option Word) (acted : Result Run Word) → HasDone IsFar s.run (Ok answer) acted → (answer ≡ word_of acted) × IsFar (noted s line acted).run
left_by IsFar s line None (Ok r) done = (refl, done)
left_by IsFar s line None (Err word) done = absurd done
left_by IsFar s line (Some word) (Ok r) done = absurd done
left_by IsFar s line (Some word) (Err w) done = (ap (λ x. Some x) done.0, done.1)

-- The next send of each lane.

-- no command follows
pub none_next : (table : List (Option ℕ)) (commands : List Command) (n : ℕ) (left : List (Option Word)) → n ≡ length commands → AreLanes table (λ q p. None) → AreNext table (drop n commands) left
none_next table commands n left all are = rw (drop_all n commands (omega arith)) are

-- a command that is done and sends nothing changes nothing
pub other_next : (table : List (Option ℕ)) (commands : List Command) (left : List (Option Word)) (command : Command) → ((to : ℕ) → is_send_to to command.action ≡ false) → AreNext table commands left → AreNext table (command ∷ commands) (None ∷ left)
other_next table commands left command none are q p begun within =
    are q p begun within ∙ ap (λ t. cond (t && (command.actor == q)) (Some command.line) (later_send q p commands left)) (sym (none p))

-- The notes from a place on.

-- those from one command on
pub one_before : {A : Type 0} (commands : List A) (n k : ℕ) (command d : A) → n ≤ length commands → k + 1 ≡ n → command ≡ get_or commands k d → drop k commands ≡ command ∷ drop n commands
one_before commands n k command d within less is = (let next : suc k ≡ n = omega arith in subst (λ l. drop k commands ≡ command ∷ drop l commands) next (drop-cons commands k d (omega arith) ∙ ap (λ x. x ∷ drop (suc k) commands) (sym is)))

-- after the last command there is no note
pub none_noted : (commands : List Command) (n : ℕ) (left : List (Option Word)) → n ≡ length commands → notes.noted (drop n commands) left ≡ []
none_noted commands n left all = rw (drop_all n commands (omega arith)) refl

-- one more command above
pub noted_above : (xs : List Noted) (commands : List Command) (left : List (Option Word)) (command : Command) (word : Option Word) → reverse xs ≡ notes.noted commands left → reverse (xs ++ note_if command word commands left) ≡ notes.noted (command ∷ commands) (word ∷ left)
noted_above xs commands left command None are = ap reverse (append-nil xs) ∙ are
noted_above xs commands left command (Some word) are = reverse-append xs (note_if command (Some word) commands left) ∙ ap (λ l. note_if command (Some word) commands left ++ l) are
