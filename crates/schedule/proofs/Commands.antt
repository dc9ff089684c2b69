-- Reading commands one after another, as a loop does.
use Rattle.std.proofs.Common.{◌≡◌, ℕ, ◌+◌, List, [], ◌∷◌, ◌++◌, length, Result, Ok, Err, refl, sym, ap, ◌∙◌, append_assoc, append-nil, eq-eqb}
use Rattle.std.proofs.lemmas.Bool.{ne_eqb}
use Rattle.texts.specs.Faults.{◌>>=◌, in_line, Fails}
use Rattle.texts.specs.declared.fault.Fault.{Fault}
use Rattle.texts.specs.declared.fault.Fault.TheVariants.{Unfinished}
use Rattle.texts.specs.declared.fault.TextError.{TextError}
use Rattle.texts.specs.declared.fault.TextError.TheVariants as errors
use Rattle.schedule.specs.ActionLines.{ActorAction, action_of}
use Rattle.schedule.specs.Reading.{command_at, commands_from, commands_of, with_end}
use Rattle.schedule.specs.declared.command.Command.{Command}
use Rattle.texts.proofs.Results.{bind_at, fails_then}

-- the commands that were read before, and those that are still read
abbrev pub with_front : List Command → Result (List Command) Fault → Result (List Command) Fault
with_front front read = read >>= λ commands. Ok (front ++ commands)

-- the next command joins those that were read before
regroup : (front : List Command) (command : Command) (read : Result (List Command) Fault) → with_front front (read >>= λ commands. Ok (command ∷ commands)) ≡ with_front (front ++ command ∷ []) read
regroup front command (Ok commands) = ap Ok (sym (append_assoc front (command ∷ []) commands))
regroup front command (Err fault) = refl

-- the command of a line that is read
command_is : (names : List (List ℕ)) (n : ℕ) (line : List ℕ) (acting : ActorAction) → in_line n (action_of names line) ≡ Ok acting → command_at names n line ≡ Ok (record { line = n; actor = acting.0; action = acting.1 })
unfolding command_at
command_is names n line acting e = bind_at _ (λ d. Ok (record { line = n; actor = d.0; action = d.1 })) acting e

-- a line that is read continues the list
pub goes_on : (front : List Command) (names : List (List ℕ)) (n : ℕ) (line : List ℕ) (lines : List (List ℕ)) (acting : ActorAction) (total : Result (List Command) Fault) → in_line n (action_of names line) ≡ Ok acting
    → with_front front (commands_from names n (line ∷ lines)) ≡ total → with_front (front ++ record { line = n; actor = acting.0; action = acting.1 } ∷ []) (commands_from names (n + 1) lines) ≡ total
unfolding commands_from
goes_on front names n line lines acting total e so_far =
    let command : Command = record { line = n; actor = acting.0; action = acting.1 } in
    let one = bind_at (command_at names n line) (λ command. commands_from names (n + 1) lines >>= λ commands. Ok (command ∷ commands)) command (command_is names n line acting e) in
    sym (regroup front command (commands_from names (n + 1) lines)) ∙ sym (ap (with_front front) one) ∙ so_far

-- a line that is not read decides
pub ends : (error : TextError) (front : List Command) (names : List (List ℕ)) (n : ℕ) (line : List ℕ) (lines : List (List ℕ)) (total : Result (List Command) Fault) → Fails error (in_line n (action_of names line))
    → with_front front (commands_from names n (line ∷ lines)) ≡ total → Fails error total
unfolding commands_from command_at
ends errors.Memory front names n line lines total h so_far = tt
ends (errors.Fault fault) front names n line lines total h so_far =
    sym so_far ∙ fails_then (errors.Fault fault) _ (λ commands. Ok (front ++ commands))
    (fails_then (errors.Fault fault) _ (λ command. commands_from names (n + 1) lines >>= λ commands. Ok (command ∷ commands))
    (fails_then (errors.Fault fault) _ (λ acting. Ok (record { line = n; actor = acting.0; action = acting.1 })) h))

-- no line is left
pub is_done : (front : List Command) (names : List (List ℕ)) (n : ℕ) (total : Result (List Command) Fault) → with_front front (commands_from names n []) ≡ total → total ≡ Ok front
unfolding commands_from
is_done front names n total so_far = sym so_far ∙ ap Ok (append-nil front)

-- all lines are read, and the last has its line feed
pub all_read : (front : List Command) (names : List (List ℕ)) (lines : List (List ℕ)) (rest : List ℕ) → commands_from names 3 lines ≡ Ok front → length rest ≡ 0 → commands_of names lines rest ≡ Ok front
unfolding commands_of
all_read front names lines rest e ended = bind_at _ (with_end rest) front e ∙ rw (eq-eqb (length rest) 0 ended) refl

-- the last line has no line feed
pub not_ended : (front : List Command) (names : List (List ℕ)) (lines : List (List ℕ)) (rest : List ℕ) → commands_from names 3 lines ≡ Ok front → (length rest ≡ 0 → ⊥) → commands_of names lines rest ≡ Err Unfinished
unfolding commands_of
not_ended front names lines rest e open_end = bind_at _ (with_end rest) front e ∙ rw (ne_eqb (length rest) 0 open_end) refl

-- the end of a text doesn't matter if a line is not read
pub line_fails : (error : TextError) (names : List (List ℕ)) (lines : List (List ℕ)) (rest : List ℕ) → Fails error (commands_from names 3 lines) → Fails error (commands_of names lines rest)
unfolding commands_of
line_fails error names lines rest h = fails_then error (commands_from names 3 lines) (with_end rest) h
