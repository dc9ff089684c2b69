-- Receives of one row of an instance come in cut rows in the order of the text (as in `diagram_join`'s `CutLemmas`, which
-- keeps this to itself).
use Rattle.std.proofs.Common.{◌≡◌, ℕ, suc, ◌+◌, ◌<◌, ◌≤◌, Bool, true, false, not, ◌||◌, ◌==◌, cond, List, [], ◌∷◌, ◌++◌, length, refl, sym, ap, ◌∙◌, subst, arith, append_assoc}
use Rattle.std.specs.List.{list_any, position_or_len}
use Rattle.std.proofs.lemmas.Bool.{eqb-true, eq-eqb}
use Rattle.std.proofs.lemmas.List.{length-append}
use Rattle.diagrams.specs.Messages.Each.{Each, Pairs}
use Rattle.diagrams.specs.declared.message.Message.{Message}
use Rattle.diagram_join.specs.Coregions.{is_own, is_other, behind, is_parted, place_in}
use Rattle.diagram_laws.proofs.DiagramTurns.{Source, send_of, receive_of, sources}

-- A coregion is parted.

module _ (test : Message → Bool) where
  behind_any : (xs rest : List Message) → list_any test xs ≡ true → (ys : List Message) × (behind test (xs ++ rest) ≡ ys ++ rest)
  unfolding behind
  behind_any [] rest e = absurd (cc e)
  behind_any (x ∷ xs) rest e = go (test x) (behind_any xs rest) e
    where
      go : (b : Bool) → (list_any test xs ≡ true → (ys : List Message) × (behind test (xs ++ rest) ≡ ys ++ rest)) → (b || list_any test xs) ≡ true
          → (ys : List Message) × (cond b (xs ++ rest) (behind test (xs ++ rest)) ≡ ys ++ rest)
      go true next e = (xs, refl)
      go false next e = next e

  behind_here : (xs : List Message) (m : Message) (rest : List Message) → test m ≡ true → (ys : List Message) × (behind test (xs ++ m ∷ rest) ≡ ys ++ rest)
  unfolding behind
  behind_here [] m rest e = ([], ap (λ b. cond b rest (behind test rest)) e)
  behind_here (x ∷ xs) m rest e = go (test x) (behind_here xs m rest e)
    where
      go : (b : Bool) → (ys : List Message) × (behind test (xs ++ m ∷ rest) ≡ ys ++ rest) → (ys : List Message) × (cond b (xs ++ m ∷ rest) (behind test (xs ++ m ∷ rest)) ≡ ys ++ rest)
      go true next = (xs ++ m ∷ [], sym (append_assoc xs (m ∷ []) rest))
      go false next = next

  any_here : (xs : List Message) (m : Message) (rest : List Message) → test m ≡ true → list_any test (xs ++ m ∷ rest) ≡ true
  any_here [] m rest e = ap (λ b. b || list_any test rest) e
  any_here (x ∷ xs) m rest e = go (test x) (any_here xs m rest e)
    where
      go : (b : Bool) → list_any test (xs ++ m ∷ rest) ≡ true → (b || list_any test (xs ++ m ∷ rest)) ≡ true
      go true next = refl
      go false next = next

  -- the first element that passes is no further down than any other that does
  no_later : (xs : List Message) (m : Message) (rest : List Message) → test m ≡ true → position_or_len test (xs ++ m ∷ rest) ≤ length xs
  no_later [] m rest e = omega (arith, ap (λ b. cond (not b) (1 + position_or_len test rest) 0) e)
  no_later (x ∷ xs) m rest e = go (test x) (no_later xs m rest e)
    where
      go : (b : Bool) → position_or_len test (xs ++ m ∷ rest) ≤ length xs → cond (not b) (1 + position_or_len test (xs ++ m ∷ rest)) 0 ≤ suc (length xs)
      go true next = omega arith
      go false next = omega (arith, next)

  -- the first element that passes is below those that don't
  not_before : (xs rest : List Message) → list_any test xs ≡ false → length xs ≤ position_or_len test (xs ++ rest)
  not_before [] rest e = omega arith
  not_before (x ∷ xs) rest e = go (test x) (not_before xs rest) e
    where
      go : (b : Bool) → (list_any test xs ≡ false → length xs ≤ position_or_len test (xs ++ rest)) → (b || list_any test xs) ≡ false → suc (length xs) ≤ cond (not b) (1 + position_or_len test (xs ++ rest)) 0
      go true next e = absurd (cc e)
      go false next e = omega (arith, next e)

-- a receive of the line, one of another line and one of the line again
parts : (row p line : ℕ) (xs : List Message) (m : Message) (mid : List Message) (n : Message) (rest : List Message) → list_any (is_own row p line) xs ≡ true → is_other row p line m ≡ true → is_own row p line n ≡ true
    → is_parted (xs ++ m ∷ (mid ++ n ∷ rest)) row p line ≡ true
unfolding is_parted
parts row p line xs m mid n rest before other own =
    let one = behind_any (is_own row p line) xs (m ∷ (mid ++ n ∷ rest)) before in
    let two = behind_here (is_other row p line) one.0 m (mid ++ n ∷ rest) other in
    ap (λ l. list_any (is_own row p line) (behind (is_other row p line) l)) one.1 ∙ ap (list_any (is_own row p line)) two.1
    ∙ ap (list_any (is_own row p line)) (sym (append_assoc two.0 mid (n ∷ rest))) ∙ any_here (is_own row p line) (two.0 ++ mid) n rest own

-- Places.

own_itself : (m : Message) → m.is_lost ≡ false → is_own m.ends m.receiver m.line m ≡ true
own_itself m here = rw (here, eq-eqb m.ends m.ends refl, eq-eqb m.receiver m.receiver refl, eq-eqb m.line m.line refl) refl

at_most : (pre : List Message) (m : Message) (rest : List Message) (i : ℕ) → i ≡ length pre → m.is_lost ≡ false → place_in (pre ++ m ∷ rest) i m ≤ i
at_most pre m rest i at here = go (is_parted (pre ++ m ∷ rest) m.ends m.receiver m.line)
  where
    go : (b : Bool) → cond b i (position_or_len (is_own m.ends m.receiver m.line) (pre ++ m ∷ rest)) ≤ i
    go true = omega arith
    go false = omega (arith, at, no_later (is_own m.ends m.receiver m.line) pre m rest (own_itself m here))

in_order : (pre : List Message) (m : Message) (mid : List Message) (n : Message) (rest : List Message) (i j : ℕ) → i ≡ length pre → j ≡ suc (i + length mid) → m.is_lost ≡ false → n.is_lost ≡ false
    → m.ends ≡ n.ends → m.receiver ≡ n.receiver → place_in (pre ++ m ∷ (mid ++ n ∷ rest)) i m ≤ place_in (pre ++ m ∷ (mid ++ n ∷ rest)) j n
in_order pre m mid n rest i j at_i at_j here there row to = go (is_parted all n.ends n.receiver n.line) refl (m.line == n.line) refl (list_any (is_own n.ends n.receiver n.line) pre) refl
  where
    all : List Message
    all = pre ++ m ∷ (mid ++ n ∷ rest)

    low : place_in (pre ++ m ∷ (mid ++ n ∷ rest)) i m ≤ i
    low = at_most pre m (mid ++ n ∷ rest) i at_i here

    same : m.line ≡ n.line → is_parted (pre ++ m ∷ (mid ++ n ∷ rest)) n.ends n.receiver n.line ≡ false
        → place_in (pre ++ m ∷ (mid ++ n ∷ rest)) i m ≡ position_or_len (is_own n.ends n.receiver n.line) (pre ++ m ∷ (mid ++ n ∷ rest))
    same line whole =
        ap (λ x. cond (is_parted (pre ++ m ∷ (mid ++ n ∷ rest)) x m.receiver m.line) i (position_or_len (is_own x m.receiver m.line) (pre ++ m ∷ (mid ++ n ∷ rest)))) row
        ∙ ap (λ x. cond (is_parted (pre ++ m ∷ (mid ++ n ∷ rest)) n.ends x m.line) i (position_or_len (is_own n.ends x m.line) (pre ++ m ∷ (mid ++ n ∷ rest)))) to
        ∙ ap (λ x. cond (is_parted (pre ++ m ∷ (mid ++ n ∷ rest)) n.ends n.receiver x) i (position_or_len (is_own n.ends n.receiver x) (pre ++ m ∷ (mid ++ n ∷ rest)))) line
        ∙ ap (λ b. cond b i (position_or_len (is_own n.ends n.receiver n.line) (pre ++ m ∷ (mid ++ n ∷ rest)))) whole

    other : (m.line == n.line) ≡ false → is_other n.ends n.receiver n.line m ≡ true
    other e = rw (here, eq-eqb m.ends n.ends row, eq-eqb m.receiver n.receiver to, e) refl

    go : (parted : Bool) → is_parted (pre ++ m ∷ (mid ++ n ∷ rest)) n.ends n.receiver n.line ≡ parted → (alike : Bool) → (m.line == n.line) ≡ alike → (before : Bool) → list_any (is_own n.ends n.receiver n.line) pre ≡ before
        → place_in (pre ++ m ∷ (mid ++ n ∷ rest)) i m ≤ cond parted j (position_or_len (is_own n.ends n.receiver n.line) (pre ++ m ∷ (mid ++ n ∷ rest)))
    go true e alike f before g = omega (arith, low, at_j)
    go false e true f before g = omega (arith, same (eqb-true m.line n.line f) e)
    go false e false f true g = absurd (cc (sym e ∙ parts n.ends n.receiver n.line pre m mid n rest g (other f) (own_itself n there)))
    go false e false f false g = omega (arith, low, at_i, not_before (is_own n.ends n.receiver n.line) pre (m ∷ (mid ++ n ∷ rest)) g)

-- The events of messages.

module _ (all : List Message) where
  -- a receive isn't placed above an earlier one of its row
  abbrev pub Placed : Source → Source → Type 0
  Placed x y = x.sends ≡ false → y.sends ≡ false → x.message.ends ≡ y.message.ends → x.message.receiver ≡ y.message.receiver → place_in all x.number x.message ≤ place_in all y.number y.message

  -- a message's number and its place are below the count of all messages
  pub record IsWithin (x : Source) : Type 0 where
    pub number : x.number < length all
    pub place : x.sends ≡ false → place_in all x.number x.message < length all

  sends_any : (k : ℕ) (m : Message) (ys : List Source) → Each (Placed (send_of k m)) ys
  sends_any k m [] = tt
  sends_any k m (y ∷ ys) = ((λ e. absurd (cc e)), sends_any k m ys)

  placed_later : (pre : List Message) (m : Message) (mid rest : List Message) (i j : ℕ) → all ≡ pre ++ m ∷ (mid ++ rest) → i ≡ length pre → j ≡ suc (i + length mid) → m.is_lost ≡ false
      → Each (Placed (receive_of i m)) (sources j rest)
  placed_later pre m mid [] i j is at_i at_j here = tt
  placed_later pre m mid (k ∷ rest) i j is at_i at_j here =
      go k.is_lost refl (placed_later pre m (mid ++ k ∷ []) rest i (j + 1) (is ∙ ap (λ l. pre ++ m ∷ l) (sym (append_assoc mid (k ∷ []) rest))) at_i (omega (arith, at_j, length-append mid (k ∷ []))) here)
    where
      go : (lost : Bool) → k.is_lost ≡ lost → Each (Placed (receive_of i m)) (sources (j + 1) rest)
          → Each (Placed (receive_of i m)) (cond lost (send_of j k ∷ []) (send_of j k ∷ receive_of j k ∷ []) ++ sources (j + 1) rest)
      go true there more = ((λ a b. absurd (cc b)), more)
      go false there more = (
        (λ a b. absurd (cc b)),
        ((λ a b rows to. subst (λ l. place_in l i m ≤ place_in l j k) (sym is) (in_order pre m mid k rest i j at_i at_j here there rows to)), more),
      )

  pub placed_all : (pre ms : List Message) (k : ℕ) → all ≡ pre ++ ms → k ≡ length pre → Pairs Placed (sources k ms)
  placed_all pre [] k is at_k = tt
  placed_all pre (m ∷ ms) k is at_k = go m.is_lost refl (placed_all (pre ++ m ∷ []) ms (k + 1) (is ∙ sym (append_assoc pre (m ∷ []) ms)) (omega (arith, at_k, length-append pre (m ∷ []))))
    where
      go : (lost : Bool) → m.is_lost ≡ lost → Pairs Placed (sources (k + 1) ms) → Pairs Placed (cond lost (send_of k m ∷ []) (send_of k m ∷ receive_of k m ∷ []) ++ sources (k + 1) ms)
      go true here more = (sends_any k m (sources (k + 1) ms), more)
      go false here more = (((λ e. absurd (cc e)), sends_any k m (sources (k + 1) ms)), (placed_later pre m [] ms k (k + 1) is at_k (omega arith) here, more))

  pub within_all : (pre ms : List Message) (k : ℕ) → all ≡ pre ++ ms → k ≡ length pre → Each IsWithin (sources k ms)
  within_all pre [] k is at_k = tt
  within_all pre (m ∷ ms) k is at_k = go m.is_lost refl (within_all (pre ++ m ∷ []) ms (k + 1) (is ∙ sym (append_assoc pre (m ∷ []) ms)) (omega (arith, at_k, length-append pre (m ∷ []))))
    where
      low : k < length all
      low = omega (arith, at_k, ap length is, length-append pre (m ∷ ms))

      go : (lost : Bool) → m.is_lost ≡ lost → Each IsWithin (sources (k + 1) ms) → Each IsWithin (cond lost (send_of k m ∷ []) (send_of k m ∷ receive_of k m ∷ []) ++ sources (k + 1) ms)
      go true here more = (record { number = low; place = λ e. absurd (cc e) }, more)
      go false here more = (
        record { number = low; place = λ e. absurd (cc e) },
        (record { number = low; place = λ e. let up = subst (λ l. place_in l k m ≤ k) (sym is) (at_most pre m ms k at_k here) in omega (arith, low, up) }, more),
      )
