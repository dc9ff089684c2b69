-- The first fault of a schedule's text is what the readers of its lines find in the first faulty line.
use Rattle.std.proofs.Common.{◌≡◌, ℕ, zero, suc, ◌+◌, ◌<◌, Bool, true, false, cond, eqb, List, [], ◌∷◌, length, Result, Ok, Err, refl, sym, ap, ◌∙◌, subst, inl, inr, arith}
use Rattle.std.specs.Prelude.{None, Some, slice_get}
use Rattle.std.proofs.lemmas.Bool.{ne_eqb}
use Rattle.std.proofs.lemmas.Option.{none-some, same_Some}
use Rattle.chart.specs.Events.{ith}
use Rattle.fault_places.proofs.ChartReads.{line_err}
use Rattle.fault_places.specs.Carets.{fault_of, schedule_fault}
use Rattle.fault_places.specs.ScheduleCarets.{IsScheduleFault}
use Rattle.schedule.specs.ActionLines.{ActorAction, action_by, action_of}
use Rattle.schedule.specs.FirstLines.{instances_by, names_of, capacity_by, capacity_of}
use Rattle.schedule.specs.Plans.{Plan}
use Rattle.schedule.specs.Reading.{next_of, command_at, commands_from, with_end, commands_of, schedule_of}
use Rattle.schedule.specs.declared.command.Command.{Command}
use Rattle.texts.proofs.Results.{bind_ok, bind_err, in_line_ok}
use Rattle.texts.specs.Faults.{◌>>=◌, in_line}
use Rattle.texts.specs.Lines.{lines_of, end_of, words_of}
use Rattle.texts.specs.declared.fault.Cause.{Cause}
use Rattle.texts.specs.declared.fault.Fault.{Fault}
use Rattle.texts.specs.declared.fault.Fault.TheVariants.{Line, Unfinished}

-- ---- commands

-- the first faulty one of these lines, the first of which has the number n
record IsCommandFault (names : List (List ℕ)) (n : ℕ) (lines : List (List ℕ)) (number : ℕ) (cause : Cause) : Type 0 where
  k : ℕ
  number_is : number ≡ n + k
  line : List ℕ
  there : slice_get lines k ≡ Some line
  fault : fault_of (action_by names (words_of line)) ≡ Some cause
  above : (i : ℕ) (other : List ℕ) → i < k → slice_get lines i ≡ Some other → fault_of (action_by names (words_of other)) ≡ None

no_value : {A : Type 0} (x : A) (fault : Fault) → Ok x ≡ Err fault → ⊥
no_value x fault e = absurd (cc e)

command_here : (names : List (List ℕ)) (n : ℕ) (line : List ℕ) (lines : List (List ℕ)) (number : ℕ) (cause : Cause) → (n ≡ number) × (action_by names (words_of line) ≡ Err cause) → IsCommandFault names n (line ∷ lines) number cause
command_here names n line lines number cause its = record {
  k = 0;
  number_is = omega (arith, its.0);
  line = line;
  there = refl;
  fault = ap fault_of its.1;
  above = λ i other less is. absurd (omega (arith, less));
}

command_later : (names : List (List ℕ)) (n : ℕ) (line : List ℕ) (lines : List (List ℕ)) (number : ℕ) (cause : Cause) (read : ActorAction) → action_by names (words_of line) ≡ Ok read → IsCommandFault names (n + 1) lines number cause → IsCommandFault names n (line ∷ lines) number cause
command_later names n line lines number cause read is f = record {
  k = suc f.k;
  number_is = let later = f.number_is in omega (arith, later);
  line = f.line;
  there = f.there;
  fault = f.fault;
  above = above;
}
  where
    above : (i : ℕ) (other : List ℕ) → i < suc f.k → slice_get (line ∷ lines) i ≡ Some other → fault_of (action_by names (words_of other)) ≡ None
    above zero other less here = ap (λ l. fault_of (action_by names (words_of l))) (sym (same_Some line other here)) ∙ ap fault_of is
    above (suc i) other less here = f.above i other (omega (arith, less)) here

command_fault : (names : List (List ℕ)) (n : ℕ) (lines : List (List ℕ)) (number : ℕ) (cause : Cause) → commands_from names n lines ≡ Err (Line number cause) → IsCommandFault names n lines number cause
unfolding commands_from command_at action_of
command_fault names n [] number cause e = absurd (cc e)
command_fault names n (line ∷ lines) number cause e =
    elim (bind_err (in_line n (action_by names (words_of line)) >>= λ sound. read sound) (λ command. commands_from names (n + 1) lines >>= λ commands. Ok (command ∷ commands)) (Line number cause) e) [
      | inl fails ↦
          elim (bind_err (in_line n (action_by names (words_of line))) read (Line number cause) fails) [
            | inl own ↦ command_here names n line lines number cause (line_err n number cause (action_by names (words_of line)) own)
            | inr (sound, _, none) ↦ absurd (no_value _ (Line number cause) none)
          ]
      | inr (command, reads, then) ↦
          elim (bind_err (commands_from names (n + 1) lines) (λ commands. Ok (command ∷ commands)) (Line number cause) then) [
            | inl later ↦
                (let its = bind_ok (in_line n (action_by names (words_of line))) read command reads in
                command_later names n line lines number cause its.0 (in_line_ok n (action_by names (words_of line)) its.0 its.1) (command_fault names (n + 1) lines number cause later))
            | inr (commands, _, none) ↦ absurd (no_value _ (Line number cause) none)
          ]
    ]
  where
    read : ActorAction → Result Command Fault
    read sound = Ok (record { line = n; actor = sound.0; action = sound.1 })

-- ---- the text

abbrev plan_of : List (List ℕ) → ℕ → List Command → Result Plan Fault
plan_of names capacity commands = Ok (record { names = names; capacity = capacity; commands = commands })

module _ (bytes : List ℕ) (number : ℕ) (cause : Cause) where
  -- the first line has the fault
  in_first : (first : List ℕ) (rest : List (List ℕ)) → lines_of bytes ≡ first ∷ rest → (1 ≡ number) × (instances_by (words_of first) ≡ Err cause) → IsScheduleFault bytes number cause
  in_first first rest are its = record {
    names = [];
    named = inl (sym its.0);
    line = first;
    there = ap (ith (lines_of bytes)) (sym its.0) ∙ ap (λ lines. ith lines 1) are;
    fault = ap (λ n. schedule_fault [] n (words_of first)) (sym its.0) ∙ ap fault_of its.1;
    above = above;
  }
    where
      above : (i : ℕ) (other : List ℕ) → i < number → ith (lines_of bytes) i ≡ Some other → schedule_fault [] i (words_of other) ≡ None
      above zero other less is = absurd (none-some other is)
      above (suc i) other less is = absurd (omega (arith, less, its.0))

  first_passes : (names : List (List ℕ)) (first : List ℕ) → names_of first ≡ Ok names → schedule_fault names 1 (words_of first) ≡ None
  unfolding names_of
  first_passes names first is = ap fault_of is

  -- the second line has it
  in_second : (names : List (List ℕ)) (first second : List ℕ) (rest : List (List ℕ)) → lines_of bytes ≡ first ∷ second ∷ rest → names_of first ≡ Ok names → (2 ≡ number) × (capacity_by (words_of second) ≡ Err cause) → IsScheduleFault bytes number cause
  in_second names first second rest are named its = record {
    names = names;
    named = inr (first, ap (λ lines. ith lines 1) are, named);
    line = second;
    there = ap (ith (lines_of bytes)) (sym its.0) ∙ ap (λ lines. ith lines 2) are;
    fault = ap (λ n. schedule_fault names n (words_of second)) (sym its.0) ∙ ap fault_of its.1;
    above = above;
  }
    where
      above : (i : ℕ) (other : List ℕ) → i < number → ith (lines_of bytes) i ≡ Some other → schedule_fault names i (words_of other) ≡ None
      above zero other less is = absurd (none-some other is)
      above (suc zero) other less is =
          let same : first ≡ other = same_Some first other (sym (ap (λ lines. ith lines 1) are) ∙ is) in
          subst (λ l. schedule_fault names 1 (words_of l) ≡ None) same (first_passes names first named)
      above (suc (suc i)) other less is = absurd (omega (arith, less, its.0))

  -- a later line is a command
  command_line : (names : List (List ℕ)) (i : ℕ) (words : List (List ℕ)) → schedule_fault names (suc (suc (suc i))) words ≡ fault_of (action_by names words)
  command_line names i words =
      ap (λ b. cond b (fault_of (instances_by words)) (cond (eqb (suc (suc (suc i))) 2) (fault_of (capacity_by words)) (fault_of (action_by names words)))) (ne_eqb (suc (suc (suc i))) 1 (λ same. omega arith))
      ∙ ap (λ b. cond b (fault_of (capacity_by words)) (fault_of (action_by names words))) (ne_eqb (suc (suc (suc i))) 2 (λ same. omega arith))

  in_command : (names : List (List ℕ)) (capacity : ℕ) (first second : List ℕ) (rest : List (List ℕ)) → lines_of bytes ≡ first ∷ second ∷ rest → names_of first ≡ Ok names → capacity_of second ≡ Ok capacity → IsCommandFault names 3 rest number cause → IsScheduleFault bytes number cause
  unfolding capacity_of
  in_command names capacity first second rest are named slots f = record {
    names = names;
    named = inr (first, ap (λ lines. ith lines 1) are, named);
    line = f.line;
    there = ap (ith (lines_of bytes)) number_is ∙ ap (λ lines. ith lines (suc (suc (suc f.k)))) are ∙ f.there;
    fault = ap (λ n. schedule_fault names n (words_of f.line)) number_is ∙ command_line names f.k (words_of f.line) ∙ f.fault;
    above = above;
  }
    where
      number_is : number ≡ suc (suc (suc f.k))
      number_is = let later = f.number_is in omega (arith, later)

      above : (i : ℕ) (other : List ℕ) → i < number → ith (lines_of bytes) i ≡ Some other → schedule_fault names i (words_of other) ≡ None
      above zero other less is = absurd (none-some other is)
      above (suc zero) other less is =
          let same : first ≡ other = same_Some first other (sym (ap (λ lines. ith lines 1) are) ∙ is) in
          subst (λ l. schedule_fault names 1 (words_of l) ≡ None) same (first_passes names first named)
      above (suc (suc zero)) other less is =
          let same : second ≡ other = same_Some second other (sym (ap (λ lines. ith lines 2) are) ∙ is) in
          subst (λ l. schedule_fault names 2 (words_of l) ≡ None) same (ap fault_of slots)
      above (suc (suc (suc i))) other less is =
          command_line names i (words_of other)
          ∙ f.above i other (let count = number_is in omega (arith, less, count)) (sym (ap (λ lines. ith lines (suc (suc (suc i)))) are) ∙ is)

  by_end : (names : List (List ℕ)) (lines : List (List ℕ)) (rest : List ℕ) → commands_of names lines rest ≡ Err (Line number cause) → commands_from names 3 lines ≡ Err (Line number cause)
  unfolding commands_of
  by_end names lines rest e =
      elim (bind_err (commands_from names 3 lines) (with_end rest) (Line number cause) e) [
        | inl fails ↦ fails
        | inr (commands, _, none) ↦ absurd (by (eqb (length rest) 0) commands none)
      ]
    where
      by : (b : Bool) (commands : List Command) → cond b (Ok commands) (Err Unfinished) ≡ Err (Line number cause) → ⊥
      by true commands e = no_value commands (Line number cause) e
      by false commands e = absurd (cc e)

  from_second : (names : List (List ℕ)) (first second : List ℕ) (rest : List (List ℕ)) → lines_of bytes ≡ first ∷ second ∷ rest → names_of first ≡ Ok names
      → (in_line 2 (capacity_of second) >>= λ capacity. commands_of names rest (end_of bytes) >>= λ commands. plan_of names capacity commands) ≡ Err (Line number cause)
      → IsScheduleFault bytes number cause
  unfolding capacity_of
  from_second names first second rest are named e =
      elim (bind_err (in_line 2 (capacity_of second)) (λ capacity. commands_of names rest (end_of bytes) >>= λ commands. plan_of names capacity commands) (Line number cause) e) [
        | inl fails ↦ in_second names first second rest are named (line_err 2 number cause (capacity_by (words_of second)) fails)
        | inr (capacity, slots, then) ↦
            elim (bind_err (commands_of names rest (end_of bytes)) (λ commands. plan_of names capacity commands) (Line number cause) then) [
              | inl fails ↦
                  in_command names capacity first second rest are named (in_line_ok 2 (capacity_of second) capacity slots)
                  (command_fault names 3 rest number cause (by_end names rest (end_of bytes) fails))
              | inr (commands, _, none) ↦ absurd (no_value _ (Line number cause) none)
            ]
      ]

  from_first : (first : List ℕ) (rest : List (List ℕ)) → lines_of bytes ≡ first ∷ rest
      → (in_line 1 (names_of first) >>= λ names. next_of rest >>= λ second. in_line 2 (capacity_of second.0) >>= λ capacity. commands_of names second.1 (end_of bytes) >>= λ commands. plan_of names capacity commands) ≡ Err (Line number cause)
      → IsScheduleFault bytes number cause
  unfolding names_of
  from_first first rest are e =
      elim (bind_err (in_line 1 (names_of first)) (λ names. next_of rest >>= λ second. in_line 2 (capacity_of second.0) >>= λ capacity. commands_of names second.1 (end_of bytes) >>= λ commands. plan_of names capacity commands) (Line number cause) e) [
        | inl fails ↦ in_first first rest are (line_err 1 number cause (instances_by (words_of first)) fails)
        | inr (names, reads, then) ↦ by rest are (in_line_ok 1 (names_of first) names reads) then
      ]
    where
      by : {names : List (List ℕ)} (rest : List (List ℕ)) → lines_of bytes ≡ first ∷ rest → names_of first ≡ Ok names
          → (next_of rest >>= λ second. in_line 2 (capacity_of second.0) >>= λ capacity. commands_of names second.1 (end_of bytes) >>= λ commands. plan_of names capacity commands) ≡ Err (Line number cause)
          → IsScheduleFault bytes number cause
      by [] is named e = absurd (cc e)
      by {names} (second ∷ others) is named e = from_second names first second others is named e

  pub schedule_fault_law : schedule_of bytes ≡ Err (Line number cause) → IsScheduleFault bytes number cause
  unfolding schedule_of
  schedule_fault_law e = by (lines_of bytes) refl e
    where
      by : (lines : List (List ℕ)) → lines_of bytes ≡ lines
          → (next_of lines >>= λ first. in_line 1 (names_of first.0) >>= λ names. next_of first.1 >>= λ second. in_line 2 (capacity_of second.0) >>= λ capacity. commands_of names second.1 (end_of bytes) >>= λ commands. plan_of names capacity commands) ≡ Err (Line number cause)
          → IsScheduleFault bytes number cause
      by [] are e = absurd (cc e)
      by (first ∷ rest) are e = from_first first rest are e
