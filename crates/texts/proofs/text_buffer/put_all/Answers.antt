use Rattle.std.proofs.Common.{◌≡◌, ℕ, ◌-◌, List, ◌++◌, length, take, drop, sym, ap, ◌∙◌, append_assoc, take-append-drop}
use Rattle.std.proofs.lemmas.List.{take_rest}
use Rattle.texts.proofs.Writes.{puts_then}
use Rattle.texts.proofs.text_buffer.put_all.Goals as goal

moves_front : (all done rest : List ℕ) (n : ℕ) → all ≡ done ++ rest → all ≡ (done ++ take n rest) ++ take (length rest - n) (drop n rest)
moves_front all done rest n e =
    e ∙ ap (λ l. done ++ l) (sym (take-append-drop n rest)) ∙ sym (append_assoc done (take n rest) (drop n rest)) ∙ ap (λ l. (done ++ take n rest) ++ l) (sym (take_rest rest n))

pub loop-rest-preserved : goal.loop-rest-preserved
loop-rest-preserved g c =
    let (done, splits, puts) = c.loop-rest.invariant in
    let taken = c.in_ok-taken.ensures.taken in
    (done ++ take c.in_ok-taken.taken c.loop-rest.rest.now, moves_front _ done _ _ splits, puts_then puts (record { appends = taken.0; none_failed = taken.1 }))
