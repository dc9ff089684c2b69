use Rattle.std.proofs.Common.{◌≡◌, ◌∙◌, ◌==◌, Bool, false, List, [], ◌∷◌, length, map, refl, sym, ap, arith}
use Rattle.std.proofs.lemmas.Bool.{false≢true}
use Rattle.std.proofs.lemmas.List.{length-map}
use Rattle.log_lines.specs.Events.{logged_event_view}
use Rattle.cmd_import_log.specs.Reading.{log_view, has_receive}
use Rattle.cmd_import_log.proofs.messages.messages_in.Goals as goal

some_there : {A B : Type 0} (f : A → B) (xs : List A) (empty : Bool) → empty ≡ (length xs == 0) → empty ≡ false → map f xs ≡ [] → ⊥
some_there f [] empty is there nothing = false≢true (sym there ∙ is)
some_there f (x ∷ xs) empty is there nothing = let longer = ap length nothing in omega (arith, longer)

pub returns-then-not-has_receive-clause-err : goal.returns-then-not-has_receive-clause-err
returns-then-not-has_receive-clause-err c =
    let items = c.in_ok-log.log.read.logged.items in
    let value = c.as_slice-logged.ensures.value in
    record {
      log = log_view c.in_ok-log.log;
      says = c.in_ok-log.ensures.ok;
      some = some_there logged_event_view items c.is_empty.result (c.is_empty.ensures ∙ ap (λ l. length l == 0) value) c.if-is_empty.false;
      none = ap (λ l. has_receive (map logged_event_view l)) (sym value) ∙ sym c.has_receive.ensures ∙ c.if-not-has_receive.true;
      sent = ap length value ∙ sym (length-map items logged_event_view);
      counted = refl;
      unmatched = refl;
      first = c.in_ok-unread-2.ensures;
    }
