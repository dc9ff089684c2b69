-- Messages that overtake, one after the other.
use Rattle.std.proofs.Common.{◌≡◌, ℕ, ◌+◌, ◌<◌, ◌≤◌, List, [], ◌∷◌, ◌++◌, length, take, drop, get_or, refl, sym, ap, ◌∙◌, append_assoc, add-one}
use Rattle.std.proofs.Math.Seq.{take-suc}
use Rattle.std.proofs.lemmas.List.{append-nil, drop_all}
use Rattle.diagrams.proofs.MessagesLemmas.ListLemmas.{from_here}
use Rattle.diagrams.specs.declared.message.Message.{Message}
use Rattle.diagram_join.specs.Moves.{staying, staying_from, overtaking, overtaking_from}
use Rattle.diagram_join.specs.declared.moves.Overtaking.{Overtaking}

-- the messages before the next one
pub before_more : (messages : List Message) (n : ℕ) (m : Message) → n < length messages → m ≡ get_or messages n m → take (n + 1) messages ≡ take n messages ++ m ∷ []
before_more messages n m within is =
    ap (λ k. take k messages) (add-one n) ∙ take-suc messages n m within ∙ ap (λ x. take n messages ++ x ∷ []) (sym is)

pub staying_more : (messages : List Message) (n : ℕ) (so_far more all : List Message) (m : Message) → n < length messages → m ≡ get_or messages n m → more ≡ so_far ++ staying (take n messages) m
    → so_far ++ staying_from (take n messages) (drop n messages) ≡ all → more ++ staying_from (take (n + 1) messages) (drop (n + 1) messages) ≡ all
unfolding staying_from
staying_more messages n so_far more all m within is added so =
    ap (λ l. l ++ staying_from (take (n + 1) messages) (drop (n + 1) messages)) added ∙ append_assoc so_far (staying (take n messages) m) (staying_from (take (n + 1) messages) (drop (n + 1) messages))
    ∙ ap (λ l. so_far ++ (staying (take n messages) m ++ staying_from l (drop (n + 1) messages))) (before_more messages n m within is)
    ∙ ap (λ l. so_far ++ staying_from (take n messages) l) (sym (from_here messages n m within is)) ∙ so

pub overtaking_more : (messages : List Message) (n : ℕ) (so_far more all : List Overtaking) (m : Message) → n < length messages → m ≡ get_or messages n m → more ≡ so_far ++ overtaking (take n messages) m
    → so_far ++ overtaking_from (take n messages) (drop n messages) ≡ all → more ++ overtaking_from (take (n + 1) messages) (drop (n + 1) messages) ≡ all
unfolding overtaking_from
overtaking_more messages n so_far more all m within is added so =
    ap (λ l. l ++ overtaking_from (take (n + 1) messages) (drop (n + 1) messages)) added ∙ append_assoc so_far (overtaking (take n messages) m) (overtaking_from (take (n + 1) messages) (drop (n + 1) messages))
    ∙ ap (λ l. so_far ++ (overtaking (take n messages) m ++ overtaking_from l (drop (n + 1) messages))) (before_more messages n m within is)
    ∙ ap (λ l. so_far ++ overtaking_from (take n messages) l) (sym (from_here messages n m within is)) ∙ so

pub staying_end : (messages : List Message) (n : ℕ) (so_far all : List Message) → length messages ≤ n → so_far ++ staying_from (take n messages) (drop n messages) ≡ all → so_far ≡ all
unfolding staying_from
staying_end messages n so_far all past so = sym (append-nil so_far) ∙ ap (λ l. so_far ++ staying_from (take n messages) l) (sym (drop_all n messages past)) ∙ so

pub overtaking_end : (messages : List Message) (n : ℕ) (so_far all : List Overtaking) → length messages ≤ n → so_far ++ overtaking_from (take n messages) (drop n messages) ≡ all → so_far ≡ all
unfolding overtaking_from
overtaking_end messages n so_far all past so = sym (append-nil so_far) ∙ ap (λ l. so_far ++ overtaking_from (take n messages) l) (sym (drop_all n messages past)) ∙ so
