-- A whole text: a schedule that is read has this text, such a text is read, and the first faulty line decides. Laws
-- only about lists.
use Rattle.std.proofs.Common.{◌≡◌, ℕ, eqb, List, [], ◌∷◌, ◌++◌, length, Result, Ok, refl, sym, ap, subst, ◌∙◌, arith, append-nil}
use Rattle.std.specs.List.{AllByRecursion, flat_map}
use Rattle.std.proofs.lemmas.Bool.{eqb-true}
use Rattle.std.proofs.lemmas.List.Elements.{All-from_recursion, recursion_from_All}
use Rattle.texts.proofs.Parts.{lines_joined, lines_again, end_again}
use Rattle.texts.proofs.Results.{bind_ok, in_line_ok, when_ok, ok_is}
use Rattle.texts.specs.Faults.{◌>>=◌, in_line, Fails}
use Rattle.texts.specs.Lines.{Lacks, lines_of, end_of, ended}
use Rattle.texts.specs.declared.fault.Fault.{Fault}
use Rattle.texts.specs.declared.fault.Fault.TheVariants.{Unfinished}
use Rattle.texts.specs.declared.fault.TextError.{TextError}
use Rattle.schedule.specs.FirstLines.{names_of, capacity_of}
use Rattle.schedule.specs.Plans.{Plan, IsAmong}
use Rattle.schedule.specs.Reading.{next_of, commands_from, commands_of, with_end, schedule_of}
use Rattle.schedule.specs.ScheduleText.{plan_lines, schedule_text, CanBeSpelled, HasText}
use Rattle.schedule.specs.declared.command.Command.{Command}
use Rattle.schedule.proofs.CapacityLine.{capacity_sound, capacity_again, capacity_lacks}
use Rattle.schedule.proofs.CommandLines.{commands_from-sound}
use Rattle.schedule.proofs.CommandsAgain.{commands_again, commands_lack}
use Rattle.schedule.proofs.InstanceLine.{names_sound, names_again, instances_lack}

-- ---- the lines that a plan is read from

-- what remains to be read: from line 2's capacity on, from line 2 on, and from line 1 on
abbrev pub after_second : List (List ℕ) → List ℕ → List (List ℕ) → List ℕ → Result Plan Fault
after_second names second lines rest = in_line 2 (capacity_of second) >>= λ capacity. commands_of names lines rest >>= λ commands. Ok (record { names = names; capacity = capacity; commands = commands })

abbrev pub after_first : List (List ℕ) → List (List ℕ) → List ℕ → Result Plan Fault
after_first names lines rest = next_of lines >>= λ second. after_second names second.0 second.1 rest

abbrev pub read_lines : List (List ℕ) → List ℕ → Result Plan Fault
read_lines lines rest = next_of lines >>= λ first. in_line 1 (names_of first.0) >>= λ names. after_first names first.1 rest

record IsReadFrom (bytes : List ℕ) (plan : Plan) : Type 0 where
  pub first : List ℕ
  pub second : List ℕ
  pub others : List (List ℕ)
  pub lines : lines_of bytes ≡ first ∷ second ∷ others
  pub whole : end_of bytes ≡ []
  pub names : names_of first ≡ Ok plan.names
  pub capacity : capacity_of second ≡ Ok plan.capacity
  pub commands : commands_from plan.names 3 others ≡ Ok plan.commands

next-line : (lines : List (List ℕ)) (next : List ℕ × List (List ℕ)) → next_of lines ≡ Ok next → lines ≡ next.0 ∷ next.1
next-line [] next e = absurd cc
next-line (line ∷ lines) next e = let same = ok_is (line, lines) next e in ap (λ n. n.0 ∷ n.1) same

no_bytes : (bytes : List ℕ) → length bytes ≡ 0 → bytes ≡ []
no_bytes [] e = refl
no_bytes (b ∷ bs) e = absurd (omega arith)

commands-end : (names lines : List (List ℕ)) (rest : List ℕ) (commands : List Command) → commands_of names lines rest ≡ Ok commands → (commands_from names 3 lines ≡ Ok commands) × (rest ≡ [])
unfolding commands_of
commands-end names lines rest commands e =
    let a = bind_ok (commands_from names 3 lines) (with_end rest) commands e in
    let b = when_ok (eqb (length rest) 0) Unfinished (Ok a.0) commands a.2 in
    (a.1 ∙ b.1, no_bytes rest (eqb-true (length rest) 0 b.0))

from_steps : (bytes : List ℕ) (plan : Plan) (a c : List ℕ × List (List ℕ)) (names : List (List ℕ)) (capacity : ℕ) (commands : List Command) → next_of (lines_of bytes) ≡ Ok a → in_line 1 (names_of a.0) ≡ Ok names
    → next_of a.1 ≡ Ok c → in_line 2 (capacity_of c.0) ≡ Ok capacity → commands_of names c.1 (end_of bytes) ≡ Ok commands → record { names = names; capacity = capacity; commands = commands } ≡ plan → IsReadFrom bytes plan
from_steps bytes plan a c names capacity commands one named two placed many same =
    let ends = commands-end names c.1 (end_of bytes) commands many in
    subst (IsReadFrom bytes) same (record {
      first = a.0;
      second = c.0;
      others = c.1;
      lines = next-line (lines_of bytes) a one ∙ ap (λ l. a.0 ∷ l) (next-line a.1 c two);
      whole = ends.1;
      names = in_line_ok 1 (names_of a.0) names named;
      capacity = in_line_ok 2 (capacity_of c.0) capacity placed;
      commands = ends.0;
    })

read_from : (bytes : List ℕ) (plan : Plan) → schedule_of bytes ≡ Ok plan → IsReadFrom bytes plan
unfolding schedule_of
read_from bytes plan e =
    let rest = end_of bytes in
    let a = bind_ok (next_of (lines_of bytes)) (λ first. in_line 1 (names_of first.0) >>= λ names. after_first names first.1 rest) plan e in
    let b = bind_ok (in_line 1 (names_of a.0.0)) (λ names. after_first names a.0.1 rest) plan a.2 in
    let c = bind_ok (next_of a.0.1) (λ second. after_second b.0 second.0 second.1 rest) plan b.2 in
    let d = bind_ok (in_line 2 (capacity_of c.0.0)) (λ capacity. commands_of b.0 c.0.1 rest >>= λ commands. Ok (record { names = b.0; capacity = capacity; commands = commands })) plan c.2 in
    let f = bind_ok (commands_of b.0 c.0.1 rest) (λ commands. Ok (record { names = b.0; capacity = d.0; commands = commands })) plan d.2 in
    from_steps bytes plan a.0 c.0 b.0 d.0 f.0 a.1 b.1 c.1 d.1 f.1 (ok_is (record { names = b.0; capacity = d.0; commands = f.0 }) plan f.2)

read_so : (bytes : List ℕ) (plan : Plan) → IsReadFrom bytes plan → schedule_of bytes ≡ Ok plan
unfolding schedule_of commands_of
read_so bytes plan from =
    rw (from.lines, from.whole, from.names, from.capacity, from.commands) refl

-- ---- a schedule that is read has this text

pub read_spelled : (bytes : List ℕ) (plan : Plan) → schedule_of bytes ≡ Ok plan → HasText plan × (bytes ≡ schedule_text plan)
unfolding schedule_text
read_spelled bytes plan e =
    let from = read_from bytes plan e in
    let names = names_sound from.first plan.names from.names in
    let capacity = capacity_sound from.second plan.capacity from.capacity in
    let commands = commands_from-sound plan.names 3 from.others plan.commands from.commands in
    let lines : lines_of bytes ≡ plan_lines plan = from.lines ∙ same_three names.is capacity.is commands.are in (
      record {
        keeps = record { several = names.several; names = names.are; commands = All-from_recursion (IsAmong (length plan.names)) plan.commands commands.among };
        named = names.named;
        slots = (capacity.first, capacity.last);
        spelled = All-from_recursion CanBeSpelled plan.commands commands.spelled;
        numbered = commands.numbered;
      },
      sym (lines_joined bytes) ∙ ap (λ rest. flat_map ended (lines_of bytes) ++ rest) from.whole ∙ append-nil (flat_map ended (lines_of bytes)) ∙ ap (flat_map ended) lines,
    )
  where
    same_three : {a b c d : List ℕ} {others others' : List (List ℕ)} → a ≡ b → c ≡ d → others ≡ others' → a ∷ c ∷ others ≡ b ∷ d ∷ others'
    same_three p q r = cc

-- ---- the text of a schedule is read

plan_lines-lack : (plan : Plan) → HasText plan → AllByRecursion (Lacks 10) (plan_lines plan)
plan_lines-lack plan text =
    let among = recursion_from_All (IsAmong (length plan.names)) plan.commands text.keeps.commands in
    let spelled = recursion_from_All CanBeSpelled plan.commands text.spelled in
    (instances_lack plan.names text.named, (capacity_lacks plan.capacity text.slots.0 text.slots.1, commands_lack plan.names text.keeps.names text.named plan.commands among spelled))

pub spelled_read : (plan : Plan) → HasText plan → schedule_of (schedule_text plan) ≡ Ok plan
unfolding schedule_text
spelled_read plan text =
    let lack = plan_lines-lack plan text in
    let among = recursion_from_All (IsAmong (length plan.names)) plan.commands text.keeps.commands in
    let spelled = recursion_from_All CanBeSpelled plan.commands text.spelled in
    read_so (flat_map ended (plan_lines plan)) plan (record {
      first = _;
      second = _;
      others = _;
      lines = lines_again (plan_lines plan) lack;
      whole = end_again (plan_lines plan) lack;
      names = names_again plan.names text.keeps.several text.keeps.names text.named;
      capacity = capacity_again plan.capacity text.slots.0 text.slots.1;
      commands = commands_again plan.names text.keeps.names text.named 3 plan.commands among spelled text.numbered;
    })

-- so no two plans have the same text
pub one_text : (p q : Plan) → HasText p → HasText q → schedule_text p ≡ schedule_text q → p ≡ q
one_text p q has has' same = ok_is p q (sym (spelled_read p has) ∙ ap schedule_of same ∙ spelled_read q has')

-- the text of a plan has no fault
pub no_fault : (error : TextError) (bytes : List ℕ) (plan : Plan) → HasText plan → bytes ≡ schedule_text plan → Fails error (schedule_of bytes) → Fails error (Ok plan)
no_fault error bytes plan text is h = subst (Fails error) (ap schedule_of is ∙ spelled_read plan text) h
