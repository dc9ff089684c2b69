-- The text of a schedule is exact.
use Rattle.std.proofs.Common.{◌≡◌, ℕ, ◌+◌, ◌/◌, ◌%◌, ◌≤◌, List, [], ◌∷◌, length, map, codes, All, refl, sym, subst, arith, inl, inr}
use Rattle.std.specs.Prelude.{decimal}
use Rattle.std.specs.List.{AllByRecursion}
use Rattle.std.proofs.lemmas.Bool.{cases_lt}
use Rattle.std.proofs.lemmas.Fmt.{decimal_digit}
use Rattle.std.proofs.lemmas.List.Elements.{recursion_from_All}
use Rattle.chart.specs.Names.{IsName}
use Rattle.chart.specs.declared.history.TheConstants.{MAX_CAPACITY}
use Rattle.chart.specs.Keywords.{spelled}
use Rattle.texts.specs.Instances.{name_at}
use Rattle.texts.specs.Lines.{ended}
use Rattle.texts.proofs.Lookups.{name_at_all}
use Rattle.schedule.specs.Keywords.{written}
use Rattle.schedule.specs.Plans.{Plan, IsAmong, HasPartner}
use Rattle.schedule.specs.ScheduleText.{HasText, CanBeNamed, CanBeSpelled, action_words, command_line, plan_lines, schedule_text}
use Rattle.schedule.specs.declared.command.Action.{Action}
use Rattle.schedule.specs.declared.command.Action.TheVariants.{Send, Receive, Any, Close, Open, Shut}
use Rattle.schedule.specs.declared.command.Command.{Command}
use Rattle.schedule.proofs.CapacityLine.{two_digits}
use Rattle.cmd_tidy.specs.Typing.{exact_text}
use Rattle.cmd_tidy.proofs.Firm.{IsFirmWord, AreFirm, firm_literal, firm_name}
use Rattle.cmd_tidy.proofs.ExactTexts.{IsExact, line_exact, each_exact}

firm_names : (words : List (List ℕ)) → AllByRecursion IsName words → AreFirm words
firm_names [] h = tt
firm_names (word ∷ words) h = (firm_name word h.0, firm_names words h.1)

-- digits of a capacity: one, or two
firm_one : (k : ℕ) → IsFirmWord ((48 + k) ∷ [])
firm_one k = (omega arith, (omega arith, tt))

firm_two : (a b : ℕ) → IsFirmWord ((48 + a) ∷ (48 + b) ∷ [])
firm_two a b = (omega arith, (omega arith, (omega arith, tt)))

firm_slots : (k : ℕ) → 1 ≤ k → k ≤ MAX_CAPACITY → IsFirmWord (decimal k)
firm_slots k first last = elim (cases_lt k 10) [
  | inl few ↦ subst IsFirmWord (sym (decimal_digit k few)) (firm_one k)
  | inr many ↦ subst IsFirmWord (sym (two_digits k many (omega arith))) (firm_two (k / 10) (k % 10))
]

module _ (names : List (List ℕ)) (named : All IsName names) where
  firm_at : (p : ℕ) → 1 ≤ p → p ≤ length names → IsFirmWord (name_at names p)
  firm_at p first last = firm_name (name_at names p) (name_at_all IsName names p named first last)

  firm_action : (actor : ℕ) (action : Action) → HasPartner (length names) actor action → CanBeNamed action → AreFirm (action_words names action)
  unfolding written spelled
  firm_action actor (Send to name) h s = (firm_literal (codes "send") (omega arith) refl, (firm_at to s.0 h.0, (firm_name name s.1, tt)))
  firm_action actor (Receive from) h s = (firm_literal (codes "receive") (omega arith) refl, (firm_at from s h.0, tt))
  firm_action actor Any h s = (firm_literal (codes "any") (omega arith) refl, tt)
  firm_action actor (Close to) h s = (firm_literal (codes "close") (omega arith) refl, (firm_at to s h.0, tt))
  firm_action actor Open h s = (firm_literal (codes "concurrent") (omega arith) refl, tt)
  firm_action actor Shut h s = (firm_literal (codes "endconcurrent") (omega arith) refl, tt)

  command_exact : (command : Command) → IsAmong (length names) command → CanBeSpelled command → IsExact (ended (command_line names command))
  command_exact command h s =
      line_exact (name_at names command.actor) (action_words names command.action) (firm_at command.actor s.0 h.0, firm_action command.actor command.action h.1 s.1)

  commands_exact : (commands : List Command) → AllByRecursion (IsAmong (length names)) commands → AllByRecursion CanBeSpelled commands
      → AllByRecursion (λ line. IsExact (ended line)) (map (command_line names) commands)
  commands_exact [] h s = tt
  commands_exact (command ∷ commands) h s = (command_exact command h.0 s.0, commands_exact commands h.1 s.1)

pub schedule_exact : (p : Plan) → HasText p → exact_text (schedule_text p) ≡ schedule_text p
unfolding schedule_text written
schedule_exact p h =
    (each_exact ended (plan_lines p) (
      line_exact (codes "instances") p.names (firm_literal (codes "instances") (omega arith) refl, firm_names p.names (recursion_from_All IsName p.names h.named)),
      (
        line_exact (codes "capacity") (decimal p.capacity ∷ []) (firm_literal (codes "capacity") (omega arith) refl, (firm_slots p.capacity h.slots.0 h.slots.1, tt)),
        commands_exact p.names h.named p.commands (recursion_from_All _ p.commands h.keeps.commands) (recursion_from_All _ p.commands h.spelled),
      ),
    )).same
