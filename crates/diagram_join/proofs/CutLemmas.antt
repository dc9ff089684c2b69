-- Messages that follow each other still do in cut rows.
use Rattle.std.proofs.Common.{◌≡◌, ℕ, suc, ◌+◌, ◌*◌, ◌<◌, ◌≤◌, Bool, true, false, not, ◌&&◌, ◌||◌, ◌==◌, cond, List, [], ◌∷◌, ◌++◌, length, refl, sym, ap, ◌∙◌, subst, arith, append_assoc}
use Rattle.std.specs.Prelude.{nat_lt}
use Rattle.std.specs.List.{list_any, position_or_len}
use Rattle.std.proofs.Math.Nat.{mul_comm}
use Rattle.std.proofs.lemmas.Bool.{eqb-true, eqb-false, eq-eqb, ltb-true, ltb-false}
use Rattle.std.proofs.lemmas.List.{length-append}
use Rattle.std.proofs.lemmas.Nat.{mul-le, mul-add-lt}
use Rattle.chart.specs.declared.line.TheConstants.{MAX_EVENTS}
use Rattle.diagram_labels.specs.Labels.{Labelling, with_label, name_of}
use Rattle.diagrams.specs.Messages.Each.{Each, Pairs}
use Rattle.diagrams.specs.Messages.Following.{Follows, IsMessage, AreBuildable}
use Rattle.diagrams.specs.Messages.Turns.{send_end, receive_end, all_ends, own_ends}
use Rattle.diagrams.specs.declared.messages.end.End.{End}
use Rattle.diagrams.specs.declared.messages.message.Named.{Named}
use Rattle.diagrams.specs.Diagrams.{ItemView}
use Rattle.diagrams.specs.Naming.{label_at, named_as, named_from}
use Rattle.diagrams.specs.declared.message.Message.{Message}
use Rattle.diagram_join.specs.Coregions.{is_received, is_own, is_other, behind, is_parted, place_in, cut, cut_from}

-- A coregion is parted.

module _ (test : Message → Bool) where
  behind_any : (xs rest : List Message) → list_any test xs ≡ true → (ys : List Message) × (behind test (xs ++ rest) ≡ ys ++ rest)
  unfolding behind
  behind_any [] rest e = absurd (cc e)
  behind_any (x ∷ xs) rest e = go (test x) (behind_any xs rest) e
    where
      go : (b : Bool) → (list_any test xs ≡ true → (ys : List Message) × (behind test (xs ++ rest) ≡ ys ++ rest)) → (b || list_any test xs) ≡ true
          → (ys : List Message) × (cond b (xs ++ rest) (behind test (xs ++ rest)) ≡ ys ++ rest)
      go true next e = (xs, refl)
      go false next e = next e

  behind_here : (xs : List Message) (m : Message) (rest : List Message) → test m ≡ true → (ys : List Message) × (behind test (xs ++ m ∷ rest) ≡ ys ++ rest)
  unfolding behind
  behind_here [] m rest e = ([], ap (λ b. cond b rest (behind test rest)) e)
  behind_here (x ∷ xs) m rest e = go (test x) (behind_here xs m rest e)
    where
      go : (b : Bool) → (ys : List Message) × (behind test (xs ++ m ∷ rest) ≡ ys ++ rest) → (ys : List Message) × (cond b (xs ++ m ∷ rest) (behind test (xs ++ m ∷ rest)) ≡ ys ++ rest)
      go true next = (xs ++ m ∷ [], sym (append_assoc xs (m ∷ []) rest))
      go false next = next

  any_here : (xs : List Message) (m : Message) (rest : List Message) → test m ≡ true → list_any test (xs ++ m ∷ rest) ≡ true
  any_here [] m rest e = ap (λ b. b || list_any test rest) e
  any_here (x ∷ xs) m rest e = go (test x) (any_here xs m rest e)
    where
      go : (b : Bool) → list_any test (xs ++ m ∷ rest) ≡ true → (b || list_any test (xs ++ m ∷ rest)) ≡ true
      go true next = refl
      go false next = next

  -- the first element that passes is no further down than any other that does
  no_later : (xs : List Message) (m : Message) (rest : List Message) → test m ≡ true → position_or_len test (xs ++ m ∷ rest) ≤ length xs
  no_later [] m rest e = omega (arith, ap (λ b. cond (not b) (1 + position_or_len test rest) 0) e)
  no_later (x ∷ xs) m rest e = go (test x) (no_later xs m rest e)
    where
      go : (b : Bool) → position_or_len test (xs ++ m ∷ rest) ≤ length xs → cond (not b) (1 + position_or_len test (xs ++ m ∷ rest)) 0 ≤ suc (length xs)
      go true next = omega arith
      go false next = omega (arith, next)

  -- the first element that passes is below those that don't
  not_before : (xs rest : List Message) → list_any test xs ≡ false → length xs ≤ position_or_len test (xs ++ rest)
  not_before [] rest e = omega arith
  not_before (x ∷ xs) rest e = go (test x) (not_before xs rest) e
    where
      go : (b : Bool) → (list_any test xs ≡ false → length xs ≤ position_or_len test (xs ++ rest)) → (b || list_any test xs) ≡ false → suc (length xs) ≤ cond (not b) (1 + position_or_len test (xs ++ rest)) 0
      go true next e = absurd (cc e)
      go false next e = omega (arith, next e)

-- a receive of the line, one of another line and one of the line again
parts : (row p line : ℕ) (xs : List Message) (m : Message) (mid : List Message) (n : Message) (rest : List Message) → list_any (is_own row p line) xs ≡ true → is_other row p line m ≡ true → is_own row p line n ≡ true
    → is_parted (xs ++ m ∷ (mid ++ n ∷ rest)) row p line ≡ true
unfolding is_parted
parts row p line xs m mid n rest before other own =
    let one = behind_any (is_own row p line) xs (m ∷ (mid ++ n ∷ rest)) before in
    let two = behind_here (is_other row p line) one.0 m (mid ++ n ∷ rest) other in
    ap (λ l. list_any (is_own row p line) (behind (is_other row p line) l)) one.1 ∙ ap (list_any (is_own row p line)) two.1
    ∙ ap (list_any (is_own row p line)) (sym (append_assoc two.0 mid (n ∷ rest))) ∙ any_here (is_own row p line) (two.0 ++ mid) n rest own

-- Places.

own_itself : (m : Message) → m.is_lost ≡ false → is_own m.ends m.receiver m.line m ≡ true
own_itself m here = rw (here, eq-eqb m.ends m.ends refl, eq-eqb m.receiver m.receiver refl, eq-eqb m.line m.line refl) refl

at_most : (pre : List Message) (m : Message) (rest : List Message) (i : ℕ) → i ≡ length pre → m.is_lost ≡ false → place_in (pre ++ m ∷ rest) i m ≤ i
at_most pre m rest i at here = go (is_parted (pre ++ m ∷ rest) m.ends m.receiver m.line)
  where
    go : (b : Bool) → cond b i (position_or_len (is_own m.ends m.receiver m.line) (pre ++ m ∷ rest)) ≤ i
    go true = omega arith
    go false = omega (arith, at, no_later (is_own m.ends m.receiver m.line) pre m rest (own_itself m here))

in_order : (pre : List Message) (m : Message) (mid : List Message) (n : Message) (rest : List Message) (i j : ℕ) → i ≡ length pre → j ≡ suc (i + length mid) → m.is_lost ≡ false → n.is_lost ≡ false
    → m.ends ≡ n.ends → m.receiver ≡ n.receiver → place_in (pre ++ m ∷ (mid ++ n ∷ rest)) i m ≤ place_in (pre ++ m ∷ (mid ++ n ∷ rest)) j n
in_order pre m mid n rest i j at_i at_j here there row to = go (is_parted all n.ends n.receiver n.line) refl (m.line == n.line) refl (list_any (is_own n.ends n.receiver n.line) pre) refl
  where
    all : List Message
    all = pre ++ m ∷ (mid ++ n ∷ rest)

    low : place_in (pre ++ m ∷ (mid ++ n ∷ rest)) i m ≤ i
    low = at_most pre m (mid ++ n ∷ rest) i at_i here

    same : m.line ≡ n.line → is_parted (pre ++ m ∷ (mid ++ n ∷ rest)) n.ends n.receiver n.line ≡ false
        → place_in (pre ++ m ∷ (mid ++ n ∷ rest)) i m ≡ position_or_len (is_own n.ends n.receiver n.line) (pre ++ m ∷ (mid ++ n ∷ rest))
    same line whole =
        ap (λ x. cond (is_parted (pre ++ m ∷ (mid ++ n ∷ rest)) x m.receiver m.line) i (position_or_len (is_own x m.receiver m.line) (pre ++ m ∷ (mid ++ n ∷ rest)))) row
        ∙ ap (λ x. cond (is_parted (pre ++ m ∷ (mid ++ n ∷ rest)) n.ends x m.line) i (position_or_len (is_own n.ends x m.line) (pre ++ m ∷ (mid ++ n ∷ rest)))) to
        ∙ ap (λ x. cond (is_parted (pre ++ m ∷ (mid ++ n ∷ rest)) n.ends n.receiver x) i (position_or_len (is_own n.ends n.receiver x) (pre ++ m ∷ (mid ++ n ∷ rest)))) line
        ∙ ap (λ b. cond b i (position_or_len (is_own n.ends n.receiver n.line) (pre ++ m ∷ (mid ++ n ∷ rest)))) whole

    other : (m.line == n.line) ≡ false → is_other n.ends n.receiver n.line m ≡ true
    other e = rw (here, eq-eqb m.ends n.ends row, eq-eqb m.receiver n.receiver to, e) refl

    go : (parted : Bool) → is_parted (pre ++ m ∷ (mid ++ n ∷ rest)) n.ends n.receiver n.line ≡ parted → (alike : Bool) → (m.line == n.line) ≡ alike → (before : Bool) → list_any (is_own n.ends n.receiver n.line) pre ≡ before
        → place_in (pre ++ m ∷ (mid ++ n ∷ rest)) i m ≤ cond parted j (position_or_len (is_own n.ends n.receiver n.line) (pre ++ m ∷ (mid ++ n ∷ rest)))
    go true e alike f before g = omega (arith, low, at_j)
    go false e true f before g = omega (arith, same (eqb-true m.line n.line f) e)
    go false e false f true g = absurd (cc (sym e ∙ parts n.ends n.receiver n.line pre m mid n rest g (other f) (own_itself n there)))
    go false e false f false g = omega (arith, low, at_i, not_before (is_own n.ends n.receiver n.line) pre (m ∷ (mid ++ n ∷ rest)) g)

-- Messages that follow each other, without regard to their names.

abbrev pub bare : Message → Named
bare m = named_as m []

abbrev pub Flows : Message → Message → Type 0
Flows m n = Follows (bare m) (bare n)

renamed : (m n : Message) (a b c d : List ℕ) → Follows (named_as m a) (named_as n b) → Follows (named_as m c) (named_as n d)
renamed m n a b c d f = record { order = f.order; taken = f.taken; lost = f.lost }

module _ (items : List ItemView) where
  each_back : (labels : Labelling) (m : Message) (name : List ℕ) (messages : List Message) → Each (Follows (named_as m name)) (named_from labels items messages) → Each (Flows m) messages
  unfolding named_from
  each_back labels m name [] all = tt
  each_back labels m name (n ∷ messages) all = (renamed m n name _ [] [] all.0, each_back (with_label labels (label_at items n.item)) m name messages all.1)

  pub pairs_back : (labels : Labelling) (messages : List Message) → Pairs Follows (named_from labels items messages) → Pairs Flows messages
  unfolding named_from
  pairs_back labels [] all = tt
  pairs_back labels (m ∷ messages) all = (each_back (with_label labels (label_at items m.item)) m _ messages all.0, pairs_back (with_label labels (label_at items m.item)) messages all.1)

  each_forth : (labels : Labelling) (m : Message) (name : List ℕ) (messages : List Message) → Each (Flows m) messages → Each (Follows (named_as m name)) (named_from labels items messages)
  unfolding named_from
  each_forth labels m name [] all = tt
  each_forth labels m name (n ∷ messages) all = (renamed m n [] [] name _ all.0, each_forth (with_label labels (label_at items n.item)) m name messages all.1)

  pub pairs_forth : (labels : Labelling) (messages : List Message) → Pairs Flows messages → Pairs Follows (named_from labels items messages)
  unfolding named_from
  pairs_forth labels [] all = tt
  pairs_forth labels (m ∷ messages) all = (each_forth (with_label labels (label_at items m.item)) m _ messages all.0, pairs_forth (with_label labels (label_at items m.item)) messages all.1)

  -- each message of n instances, in cut rows
  pub each_cut : (n : ℕ) (labels more : Labelling) (all : List Message) (i : ℕ) (messages : List Message) → Each (IsMessage n) (named_from labels items messages) → Each (IsMessage n) (named_from more items (cut_from all i messages))
  unfolding named_from cut_from
  each_cut n labels more all i [] each = tt
  each_cut n labels more all i (m ∷ messages) each = (
    record { two = each.0.two; down = λ e. omega (arith, mul-le m.begins (length all) m.ends (length all) (each.0.down e) (omega arith)) },
    each_cut n (with_label labels (label_at items m.item)) (with_label more (label_at items m.item)) all (i + 1) messages each.1,
  )

  -- no instance has more events
  pub same_room : (labels more : Labelling) (all : List Message) (i : ℕ) (messages : List Message) (p : ℕ)
      → length (own_ends p (all_ends (named_from more items (cut_from all i messages)))) ≡ length (own_ends p (all_ends (named_from labels items messages)))
  unfolding named_from cut_from all_ends
  same_room labels more all i [] p = refl
  same_room labels more all i (m ∷ messages) p =
      go m.is_lost (m.sender == p) (m.receiver == p) refl refl refl _ _ _ _
      (same_room (with_label labels (label_at items m.item)) (with_label more (label_at items m.item)) all (i + 1) messages p)
    where
      go : (lost sends gets : Bool) → m.is_lost ≡ lost → (m.sender == p) ≡ sends → (m.receiver == p) ≡ gets → (one other : List ℕ) (rest rest' : List End) → length (own_ends p rest) ≡ length (own_ends p rest')
          → length (own_ends p (cond lost (send_end (named_as (cut all i m) one) ∷ []) (send_end (named_as (cut all i m) one) ∷ receive_end (named_as (cut all i m) one) ∷ []) ++ rest))
          ≡ length (own_ends p (cond lost (send_end (named_as m other) ∷ []) (send_end (named_as m other) ∷ receive_end (named_as m other) ∷ []) ++ rest'))
      go true true gets e f g one other rest rest' is = rw f (ap suc is)
      go true false gets e f g one other rest rest' is = rw f is
      go false true true e f g one other rest rest' is = rw (f, g) (ap (λ n. suc (suc n)) is)
      go false true false e f g one other rest rest' is = rw (f, g) (ap suc is)
      go false false true e f g one other rest rest' is = rw (f, g) (ap suc is)
      go false false false e f g one other rest rest' is = rw (f, g) is

-- one message and a later one
flow : (pre : List Message) (m : Message) (mid : List Message) (n : Message) (rest all : List Message) (i j : ℕ) → all ≡ pre ++ m ∷ (mid ++ n ∷ rest) → i ≡ length pre → j ≡ suc (i + length mid)
    → Flows m n → Flows (cut all i m) (cut all j n)
flow pre m mid n rest all i j is at_i at_j f = record {
  order = mul-le m.begins (length all) n.begins (length all) f.order (omega arith);
  taken = λ from to here there. go from to here there (nat_lt m.ends n.ends) refl;
  lost = f.lost;
}
  where
    go : m.sender ≡ n.sender → m.receiver ≡ n.receiver → m.is_lost ≡ false → n.is_lost ≡ false → (less : Bool) → nat_lt m.ends n.ends ≡ less
        → m.ends * length all + place_in all i m ≤ n.ends * length all + place_in all j n
    go from to here there true e =
        let low : place_in all i m ≤ i = subst (λ l. place_in l i m ≤ i) (sym is) (at_most pre m (mid ++ n ∷ rest) i at_i here) in
        let room : i < length all = omega (arith, at_i, ap length is, length-append pre (m ∷ (mid ++ n ∷ rest))) in
        omega (arith, mul-add-lt m.ends (length all) (place_in all i m) n.ends (ltb-true m.ends n.ends e) (omega (arith, low, room)), mul_comm (length all) n.ends)
    go from to here there false e =
        let ends : m.ends ≡ n.ends = omega (arith, f.taken from to here there, ltb-false m.ends n.ends e) in
        let places : place_in all i m ≤ place_in all j n = subst (λ l. place_in l i m ≤ place_in l j n) (sym is) (in_order pre m mid n rest i j at_i at_j here there ends to) in
        omega (arith, places, ap (λ x. x * length all) ends)

later : (pre : List Message) (m : Message) (mid rest all : List Message) (i j : ℕ) → all ≡ pre ++ m ∷ (mid ++ rest) → i ≡ length pre → j ≡ suc (i + length mid) → Each (Flows m) rest → Each (Flows (cut all i m)) (cut_from all j rest)
unfolding cut_from
later pre m mid [] all i j is at_i at_j each = tt
later pre m mid (n ∷ rest) all i j is at_i at_j each = (
  flow pre m mid n rest all i j is at_i at_j each.0,
  later pre m (mid ++ n ∷ []) rest all i (j + 1) (is ∙ ap (λ l. pre ++ m ∷ l) (sym (append_assoc mid (n ∷ []) rest))) at_i (omega (arith, at_j, length-append mid (n ∷ []))) each.1,
)

pub pairs_cut : (pre rest all : List Message) (i : ℕ) → all ≡ pre ++ rest → i ≡ length pre → Pairs Flows rest → Pairs Flows (cut_from all i rest)
unfolding cut_from
pairs_cut pre [] all i is at_i pairs = tt
pairs_cut pre (m ∷ rest) all i is at_i pairs = (
  later pre m [] rest all i (i + 1) is at_i (omega arith) pairs.0,
  pairs_cut (pre ++ m ∷ []) rest all (i + 1) (is ∙ sym (append_assoc pre (m ∷ []) rest)) (omega (arith, at_i, length-append pre (m ∷ []))) pairs.1,
)

-- messages that have a chart also have one in cut rows
pub built_cut : (n : ℕ) (labels : Labelling) (items : List ItemView) (messages : List Message) → AreBuildable n (named_from labels items messages) → AreBuildable n (named_from labels items (cut_from messages 0 messages))
built_cut n labels items messages are = record {
  each = each_cut items n labels labels messages 0 messages are.each;
  follow = pairs_forth items labels (cut_from messages 0 messages) (pairs_cut [] messages messages 0 refl refl (pairs_back items labels messages are.follow));
  room = λ p. omega (arith, are.room p, same_room items labels labels messages 0 messages p);
}
