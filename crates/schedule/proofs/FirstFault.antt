-- The first faulty line decides: nothing that follows it changes the answer. A law only about lists.
use Rattle.std.proofs.Common.{◌≡◌, ℕ, ◌+◌, Bool, true, false, cond, eqb, List, [], ◌∷◌, ◌++◌, length, Ok, Err, ap, ◌∙◌, inl, inr}
use Rattle.texts.proofs.Parts.{lines_onto}
use Rattle.texts.proofs.Results.{bind_err, bind_at, stops}
use Rattle.texts.specs.Faults.{◌>>=◌, in_line}
use Rattle.texts.specs.Lines.{lines_of, end_of}
use Rattle.texts.specs.declared.fault.Cause.{Cause}
use Rattle.texts.specs.declared.fault.Fault.TheVariants.{Line, Unfinished}
use Rattle.schedule.specs.FirstLines.{names_of, capacity_of}
use Rattle.schedule.specs.Reading.{command_at, commands_from, commands_of, with_end, schedule_of}
use Rattle.schedule.proofs.Read.{after_second, after_first, read_lines}

commands_stop : (names : List (List ℕ)) (m : ℕ) (lines more : List (List ℕ)) (n : ℕ) (c : Cause) → commands_from names m lines ≡ Err (Line n c) → commands_from names m (lines ++ more) ≡ Err (Line n c)
unfolding commands_from
commands_stop names m [] more n c e = absurd cc
commands_stop names m (line ∷ lines) more n c e =
    elim (bind_err (command_at names m line) (λ command. commands_from names (m + 1) lines >>= λ commands. Ok (command ∷ commands)) (Line n c) e) [
      | inl one ↦ stops (command_at names m line) (λ command. commands_from names (m + 1) (lines ++ more) >>= λ commands. Ok (command ∷ commands)) (Line n c) one
      | inr later ↦ bind_at (command_at names m line) (λ command. commands_from names (m + 1) (lines ++ more) >>= λ commands. Ok (command ∷ commands)) later.0 later.1
          ∙ elim (bind_err (commands_from names (m + 1) lines) (λ commands. Ok (later.0 ∷ commands)) (Line n c) later.2) [
            | inl others ↦ stops (commands_from names (m + 1) (lines ++ more)) (λ commands. Ok (later.0 ∷ commands)) (Line n c) (commands_stop names (m + 1) lines more n c others)
            | inr read ↦ absurd (let good = read.2 in cc)
          ]
    ]

-- the end of a text is no fault of a line
no_line : {A : Type 0} (b : Bool) (read : A) (n : ℕ) (c : Cause) → cond b (Ok read) (Err Unfinished) ≡ Err (Line n c) → ⊥
no_line true read n c e = absurd cc
no_line false read n c e = absurd cc

commands_of-stop : (names lines more : List (List ℕ)) (rest rest' : List ℕ) (n : ℕ) (c : Cause) → commands_of names lines rest ≡ Err (Line n c) → commands_of names (lines ++ more) rest' ≡ Err (Line n c)
unfolding commands_of
commands_of-stop names lines more rest rest' n c e =
    elim (bind_err (commands_from names 3 lines) (with_end rest) (Line n c) e) [
      | inl some ↦ stops (commands_from names 3 (lines ++ more)) (with_end rest') (Line n c) (commands_stop names 3 lines more n c some)
      | inr all ↦ absurd (no_line (eqb (length rest) 0) all.0 n c all.2)
    ]

after_second-stop : (names : List (List ℕ)) (second : List ℕ) (lines more : List (List ℕ)) (rest rest' : List ℕ) (n : ℕ) (c : Cause) → after_second names second lines rest ≡ Err (Line n c)
    → after_second names second (lines ++ more) rest' ≡ Err (Line n c)
after_second-stop names second lines more rest rest' n c e =
    elim (bind_err (in_line 2 (capacity_of second)) (λ capacity. commands_of names lines rest >>= λ commands. Ok (record { names = names; capacity = capacity; commands = commands })) (Line n c) e) [
      | inl faulty ↦ stops (in_line 2 (capacity_of second)) (λ capacity. commands_of names (lines ++ more) rest' >>= λ commands. Ok (record { names = names; capacity = capacity; commands = commands })) (Line n c) faulty
      | inr later ↦ bind_at (in_line 2 (capacity_of second)) (λ capacity. commands_of names (lines ++ more) rest' >>= λ commands. Ok (record { names = names; capacity = capacity; commands = commands })) later.0 later.1
          ∙ elim (bind_err (commands_of names lines rest) (λ commands. Ok (record { names = names; capacity = later.0; commands = commands })) (Line n c) later.2) [
            | inl others ↦ stops (commands_of names (lines ++ more) rest') (λ commands. Ok (record { names = names; capacity = later.0; commands = commands })) (Line n c) (commands_of-stop names lines more rest rest' n c others)
            | inr read ↦ absurd (let good = read.2 in cc)
          ]
    ]

after_first-stop : (names lines more : List (List ℕ)) (rest rest' : List ℕ) (n : ℕ) (c : Cause) → after_first names lines rest ≡ Err (Line n c) → after_first names (lines ++ more) rest' ≡ Err (Line n c)
after_first-stop names [] more rest rest' n c e = absurd cc
after_first-stop names (second ∷ lines) more rest rest' n c e = after_second-stop names second lines more rest rest' n c e

lines_stop : (lines more : List (List ℕ)) (rest rest' : List ℕ) (n : ℕ) (c : Cause) → read_lines lines rest ≡ Err (Line n c) → read_lines (lines ++ more) rest' ≡ Err (Line n c)
lines_stop [] more rest rest' n c e = absurd cc
lines_stop (first ∷ lines) more rest rest' n c e =
    elim (bind_err (in_line 1 (names_of first)) (λ names. after_first names lines rest) (Line n c) e) [
      | inl faulty ↦ stops (in_line 1 (names_of first)) (λ names. after_first names (lines ++ more) rest') (Line n c) faulty
      | inr later ↦ bind_at (in_line 1 (names_of first)) (λ names. after_first names (lines ++ more) rest') later.0 later.1 ∙ after_first-stop later.0 lines more rest rest' n c later.2
    ]

pub first_fault : (a b : List ℕ) (n : ℕ) (c : Cause) → schedule_of a ≡ Err (Line n c) → schedule_of (a ++ b) ≡ Err (Line n c)
unfolding schedule_of
first_fault a b n c e =
    ap (λ lines. read_lines lines (end_of (a ++ b))) (lines_onto a b) ∙ lines_stop (lines_of a) (lines_of (end_of a ++ b)) (end_of a) (end_of (a ++ b)) n c e
