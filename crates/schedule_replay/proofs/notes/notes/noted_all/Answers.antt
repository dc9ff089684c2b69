use Rattle.std.proofs.Common.{◌≡◌, ◌-◌, ◌+◌, ◌∷◌, drop, reverse, None, sym, ap, ◌∙◌, arith, refl}
use Rattle.schedule_replay.proofs.NoteLemmas.{none_next, none_noted, one_before, noted_above}
use Rattle.schedule_replay.proofs.notes.notes.noted_all.Goals as goal

pub commands-init : goal.commands-init
commands-init c = record {
  within = omega arith;
  kept = ap reverse c.new-notes.ensures.items ∙ sym (none_noted c.args.commands.now _ _ refl);
  next = none_next _ c.args.commands.now _ _ refl c.in_ok-next.ensures;
}

pub commands-preserved : goal.commands-preserved
commands-preserved c =
    let commands = c.args.commands.now in
    let words = c.args.words.now in
    let command = c.index-commands-place.result in
    let word = c.word_at-word.result in
    let inv = c.commands.invariant in
    let later = drop c.commands.place commands in
    let left = drop c.commands.place words in
    let count : c.commands.place - 1 + 1 ≡ c.commands.place = omega (arith, c.commands-test.true) in
    let e : drop (c.commands.place - 1) commands ≡ command ∷ later = one_before commands c.commands.place (c.commands.place - 1) command command inv.within count c.index-commands-place.is in
    let f : drop (c.commands.place - 1) words ≡ word ∷ left = one_before words c.commands.place (c.commands.place - 1) word None (omega (arith, inv.within, c.requires)) count c.word_at-word.ensures in
    record {
      within = omega (arith, inv.within);
      kept = rw (e, f) (ap reverse (c.in_ok-pass.ensures.notes later left inv.next) ∙ noted_above c.commands.notes.items later left command word inv.kept);
      next = rw (e, f) (c.in_ok-pass.ensures.lanes later left inv.next);
    }
