-- Messages that are read one after another.
use Rattle.std.proofs.Common.{◌≡◌, ℕ, zero, suc, ◌+◌, ◌≤◌, List, [], ◌∷◌, ◌++◌, length, take, drop, sym, ap, ◌∙◌, subst, append_assoc}
use Rattle.std.specs.Prelude.{slice_get, None, Some, Result, Ok, Err, IsErrAnd}
use Rattle.std.specs.Global.{Vec}
use Rattle.chart.specs.Messages.{Content}
use Rattle.c_board.specs.declared.found.MessageLengths.{MessageLengths}
use Rattle.c_board.specs.Sending.{IsMessage}
use Rattle.c_board.specs.SendingAll.{contents_in, AreMessages}
use Rattle.c_board.proofs.ChairLemmas.{drop_at, drop_all, with_none}
use Rattle.c_board.proofs.WordLemmas.{drop_more}

-- the next message begins here
pub next_content : (bytes : List ℕ) (lengths : List MessageLengths) (messages : List Content) (name body : List ℕ) (its : MessageLengths) (start n : ℕ)
    → contents_in bytes lengths ≡ messages ++ contents_in (drop start bytes) (drop n lengths) → slice_get lengths n ≡ Some its → name ≡ take its.name (drop start bytes) → body ≡ take its.body (drop (start + length name) bytes)
    → contents_in bytes lengths ≡ messages ++ record { name = name; body = body } ∷ contents_in (drop (start + length name + length body) bytes) (drop (n + 1) lengths)
next_content bytes lengths messages name body its start n so_far there is_name is_body =
    let rest = drop start bytes in
    let behind : drop (start + length name) bytes ≡ drop its.name rest = ap (λ (w : List ℕ). drop (start + length w) bytes) is_name ∙ drop_more bytes start its.name in
    let after : drop (start + length name + length body) bytes ≡ drop its.body (drop its.name rest) =
    ap (λ (w : List ℕ). drop (start + length name + length w) bytes) is_body ∙ drop_more bytes (start + length name) its.body ∙ ap (λ (xs : List ℕ). drop its.body xs) behind in
    so_far ∙ ap (λ (ls : List MessageLengths). messages ++ contents_in rest ls) (drop_at lengths n its there)
    ∙ ap (λ (xs : List ℕ). messages ++ record { name = take its.name rest; body = take its.body (drop its.name rest) } ∷ contents_in xs (drop (n + 1) lengths)) (sym after)
    ∙ ap (λ (w : List ℕ). messages ++ record { name = w; body = take its.body (drop its.name rest) } ∷ contents_in (drop (start + length name + length body) bytes) (drop (n + 1) lengths)) (sym is_name)
    ∙ ap (λ (w : List ℕ). messages ++ record { name = name; body = w } ∷ contents_in (drop (start + length name + length body) bytes) (drop (n + 1) lengths)) (sym (is_body ∙ ap (λ (xs : List ℕ). take its.body xs) behind))

-- the next one is a message
pub content_is : (all : List Content) (messages new rest : List Content) (message it : Content) → all ≡ messages ++ it ∷ rest → message ≡ it → new ≡ messages ++ message ∷ [] → all ≡ new ++ rest
content_is all messages new rest message it splits same added = splits ∙ ap (λ (m : Content). messages ++ m ∷ rest) (sym same) ∙ sym (append_assoc messages (message ∷ []) rest) ∙ ap (λ (ms : List Content). ms ++ rest) (sym added)

pub are_more : (messages new : List Content) (message : Content) (name body : List ℕ) → AreMessages messages → IsMessage name body → message ≡ record { name = name; body = body } → new ≡ messages ++ message ∷ [] → AreMessages new
are_more messages new message name body all its same added = subst AreMessages (sym added) (go messages all)
  where
    one : (a b : Content) → Some a ≡ Some b → a ≡ b
    one a b e = cc

    never : (a : Content) → None ≡ Some a → ⊥
    never a e = cc

    here : IsMessage message.name message.body
    here = subst (λ (m : Content). IsMessage m.name m.body) (sym same) its

    go : (ms : List Content) → AreMessages ms → AreMessages (ms ++ message ∷ [])
    go [] all zero it there = subst (λ (m : Content). IsMessage m.name m.body) (one message it there) here
    go [] all (suc i) it there = absurd (never it there)
    go (m ∷ ms) all zero it there = all 0 it there
    go (m ∷ ms) all (suc i) it there = go ms (λ j x at. all (suc j) x at) i it there

-- all messages were read
pub all_contents : (bytes : List ℕ) (lengths : List MessageLengths) (messages : List Content) (start n : ℕ) → length lengths ≤ n → contents_in bytes lengths ≡ messages ++ contents_in (drop start bytes) (drop n lengths) → contents_in bytes lengths ≡ messages
all_contents bytes lengths messages start n few so_far = so_far ∙ ap (λ (ls : List MessageLengths). messages ++ contents_in (drop start bytes) ls) (drop_all lengths n few) ∙ with_none messages
