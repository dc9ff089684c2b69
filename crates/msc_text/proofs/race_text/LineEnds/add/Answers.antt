use Rattle.std.proofs.Common.{◌≡◌, ℕ, ◌+◌, ◌/◌, ◌%◌, ◌^◌, ◌<◌, List, inl, inr, sym, ap, ◌∙◌, subst, arith}
use Rattle.std.specs.Prelude.{slice_set}
use Rattle.chart.specs.declared.instance.EventNo.{EventNo}
use Rattle.msc_text.specs.MadeLines.{IsLineOf, IsMade}
use Rattle.msc_text.specs.RaceText.{race_line}
use Rattle.texts.specs.Writing.{Adds}
use Rattle.msc_text.specs.declared.race_text.MadeLine.{MadeLine}
use Rattle.msc_text.proofs.RaceTexts.{line_with}
use Rattle.msc_text.proofs.race_text.LineEnds.add.Goals as goal
use Rattle.msc_text.proofs.race_text.LineEnds.add.Goals.{then-made-earlier, else-made-earlier}

-- the kept line with this event's last digit is this event's line
line_is : (front end line : List ℕ) (made : MadeLine) (earlier : EventNo) → IsLineOf front end made × (made.tens ≡ earlier.index / 10) → earlier.index < 2 ^ 32 → line ≡ made.line
    → slice_set line made.place (48 + earlier.index % 10) ≡ race_line front end earlier
line_is front end line made earlier is low same =
    ap (λ l. slice_set l made.place (48 + earlier.index % 10)) (same ∙ is.0.spelled)
    ∙ line_with front end is.0.event earlier made.place is.0.small low (sym is.0.begins ∙ is.1) is.0.place

-- a line with the tens of an event is kept
made_before : (front end : List ℕ) (made : MadeLine) (earlier : EventNo) → IsMade front end made → made.tens ≡ earlier.index / 10 → earlier.index < 2 ^ 32 → IsLineOf front end made
made_before front end made earlier (inl none) tens low = absurd (omega (arith, none, tens, low))
made_before front end made earlier (inr line) tens low = line

pub returns-clause-text : goal.returns-clause-text
returns-clause-text g c =
    let made = c.if-made-earlier.made in
    let front = c.args.self.now.front in
    let end = c.args.self.now.end in
    let is : IsLineOf front end made × (made.tens ≡ c.args.earlier.index / 10) = elim c.if-made-earlier.branch [
      | then-made-earlier w ↦ subst (λ m. IsLineOf front end m × (m.tens ≡ c.args.earlier.index / 10)) (sym w.made-is) (
        record {
          event = c.args.earlier;
          small = omega arith;
          begins = w.make.ensures.tens;
          spelled = w.make.ensures.line;
          place = w.make.ensures.place;
          within = w.make.ensures.within;
          short = w.make.ensures.short;
        },
        w.make.ensures.tens,
      )
      | else-made-earlier w ↦ subst (λ m. IsLineOf front end m × (m.tens ≡ c.args.earlier.index / 10)) (sym w.made-is) (
        made_before front end c.args.made.now c.args.earlier c.requires.made w.if-made-earlier.false (omega arith),
        w.if-made-earlier.false,
      )
    ] in
    subst (Adds g.W.Out.sink c.args.text.now c.add_with.new.self c.add_with.result) (line_is front end c.as_bytes.result.now made c.args.earlier is (omega arith) c.as_bytes.ensures) c.add_with.ensures
