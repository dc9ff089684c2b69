-- What a question about a cycle leaves of the searches that it was given.
use Rattle.std.proofs.Common.{◌≡◌, ℕ, ◌≤◌, Bool, List, Option, length, ap, ◌∙◌, arith, take, take_all, drop, ◌++◌}
use Rattle.std.proofs.lemmas.List.{length-set, drop_all, append-nil}
use Rattle.log_chart.specs.declared.cycles.past.Past.{Past}
use Rattle.log_chart.specs.declared.entry.Entry.{Entry}
use Rattle.log_chart.specs.Cycles.Turns.{HasAsked}
use Rattle.log_chart.specs.Cycles.Turns.HasAsked.{other, none, asked}

-- what a borrowed list of the same length leaves
pub put_back : (count : ℕ) (after pasts : List Past) → length after ≡ length pasts → length pasts ≤ count → take count (after ++ drop (length after) pasts) ≡ after
put_back count after pasts same few =
    ap (λ d. take count (after ++ d)) (drop_all (length after) pasts (omega (arith, same))) ∙ ap (take count) (append-nil after) ∙ take_all count after (omega (arith, same, few))

pub asked_length : (tops sends firsts : List (Option ℕ)) (p : ℕ) (e : Entry) (n : ℕ) (pasts after : List Past) (answer : Bool) → HasAsked tops sends firsts p e n pasts after answer → length after ≡ length pasts
asked_length tops sends firsts p e n pasts after answer (other differ same is_false) = ap length same
asked_length tops sends firsts p e n pasts after answer (none head same is_false) = ap length same
asked_length tops sends firsts p e n pasts after answer (asked i s own one at head has) = ap length has.pasts_are ∙ length-set pasts i has.past
