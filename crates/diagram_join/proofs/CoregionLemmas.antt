-- Coregions of messages that come from the last one to the first, and the cut rows.
use Rattle.std.proofs.Common.{◌≡◌, ℕ, ◌+◌, ◌<◌, ◌≤◌, Bool, true, false, not, ◌&&◌, ◌||◌, ◌==◌, cond, List, [], ◌∷◌, ◌++◌, Option, None, Some, length, drop, get_or, refl, sym, ap, ◌∙◌, subst, arith, append_assoc}
use Rattle.std.specs.List.{list_any, position_or_len}
use Rattle.std.specs.Map.{lookup}
use Rattle.std.proofs.lemmas.Bool.{and_parts, eqb-true, eq-eqb}
use Rattle.std.proofs.lemmas.List.{append-nil, drop_all}
use Rattle.diagrams.proofs.MessagesLemmas.ListLemmas.{from_here}
use Rattle.diagrams.specs.declared.message.Message.{Message}
use Rattle.diagram_join.specs.Coregions.{is_received, is_own, is_other, behind, is_parted, place_in, cut, cut_from}
use Rattle.diagram_join.specs.Tables.{next_line, coregion_of, is_line, parted_with, same_spot, same_row, spot_of, row_of, AreCoregions, AreLines}
use Rattle.diagram_join.specs.declared.coregions.Coregion.{Coregion}
use Rattle.diagram_join.specs.declared.coregions.Row.{Row}
use Rattle.diagram_join.specs.declared.coregions.Spot.{Spot}

module _ (row p line : ℕ) where
  -- a coregion with one more message at the beginning, which is one of its receives or isn't
  abbrev with_first : Bool → ℕ → List Message → Option Coregion
  with_first its place later =
      cond (its || list_any (is_own row p line) later)
      (Some (record {
        first = place + cond (not its) (1 + position_or_len (is_own row p line) later) 0;
        is_parted = list_any (is_own row p line) (behind (is_other row p line) (cond its later (behind (is_own row p line) later)));
      }))
      None

  whole : (place : ℕ) (m : Message) (later : List Message) → coregion_of place (m ∷ later) row p line ≡ with_first (is_own row p line m) place later
  unfolding behind is_parted
  whole place m later = refl

  pub not_own : (place : ℕ) (m : Message) (later : List Message) → is_own row p line m ≡ false → coregion_of place (m ∷ later) row p line ≡ coregion_of (place + 1) later row p line
  unfolding is_parted
  not_own place m later e =
      whole place m later ∙ ap (λ b. with_first b place later) e
      ∙ ap (λ n. cond (list_any (is_own row p line) later) (Some (record { first = n; is_parted = list_any (is_own row p line) (behind (is_other row p line) (behind (is_own row p line) later)) })) None)
      (omega arith)

  -- a receive of another line comes before one of this line
  between : (later : List Message) → list_any (is_own row p line) (behind (is_other row p line) later)
      ≡ (list_any (is_own row p line) later && (list_any (is_own row p line) (behind (is_other row p line) (behind (is_own row p line) later)) || not (is_line (next_line later row p) line)))
  unfolding behind next_line
  between [] = refl
  between (x ∷ later) = go (is_received row p x) (x.line == line) refl (between later)
    where
      go : (received its : Bool) → (x.line == line) ≡ its
          → list_any (is_own row p line) (behind (is_other row p line) later)
          ≡ (list_any (is_own row p line) later && (list_any (is_own row p line) (behind (is_other row p line) (behind (is_own row p line) later)) || not (is_line (next_line later row p) line)))
          → list_any (is_own row p line) (cond (received && not its) later (behind (is_other row p line) later))
          ≡ ((received && its || list_any (is_own row p line) later)
          && (list_any (is_own row p line) (behind (is_other row p line) (cond (received && its) later (behind (is_own row p line) later))) || not (is_line (cond received (Some x.line) (next_line later row p)) line)))
      go false its e rest = rest
      go true true e rest = rw e (or_no (list_any (is_own row p line) (behind (is_other row p line) later)))
        where
          or_no : (b : Bool) → b ≡ (b || false)
          or_no true = refl
          or_no false = refl
      go true false e rest = rw e (both (list_any (is_own row p line) later) (list_any (is_own row p line) (behind (is_other row p line) (behind (is_own row p line) later))))
        where
          both : (a b : Bool) → a ≡ (a && (b || true))
          both true true = refl
          both true false = refl
          both false b = refl

  -- the coregion with one more receive at its beginning
  pub parted_more : (place : ℕ) (later : List Message) → list_any (is_own row p line) (behind (is_other row p line) later) ≡ parted_with (coregion_of place later row p line) (next_line later row p) line
  unfolding is_parted
  parted_more place later = between later ∙ go (list_any (is_own row p line) later)
    where
      go : (b : Bool) → (b && (list_any (is_own row p line) (behind (is_other row p line) (behind (is_own row p line) later)) || not (is_line (next_line later row p) line)))
          ≡ parted_with (cond b (Some (record { first = place + position_or_len (is_own row p line) later; is_parted = list_any (is_own row p line) (behind (is_other row p line) (behind (is_own row p line) later)) })) None) (next_line later row p) line
      go true = refl
      go false = refl

  pub own_here : (place : ℕ) (m : Message) (later : List Message) → is_own row p line m ≡ true
      → coregion_of place (m ∷ later) row p line ≡ Some (record { first = place; is_parted = parted_with (coregion_of (place + 1) later row p line) (next_line later row p) line })
  own_here place m later e =
      whole place m later ∙ ap (λ b. with_first b place later) e
      ∙ ap (λ n. Some (record { first = n; is_parted = list_any (is_own row p line) (behind (is_other row p line) later) })) (omega arith)
      ∙ ap (λ b. Some (record { first = place; is_parted = b })) (parted_more (place + 1) later)

-- the place of the first element that passes a test, if none does
pub nowhere : {A : Type 0} (test : A → Bool) (xs : List A) → list_any test xs ≡ false → position_or_len test xs ≡ length xs
nowhere test [] none = refl
nowhere test (x ∷ xs) none = go (test x) (nowhere test xs) none
  where
    go : (b : Bool) → (list_any test xs ≡ false → position_or_len test xs ≡ length xs) → (b || list_any test xs) ≡ false → cond (not b) (1 + position_or_len test xs) 0 ≡ length (x ∷ xs)
    go true rest e = absurd (cc e)
    go false rest e = let r = rest e in omega arith

-- Tables.

pub lost_coregions : (entries : List (Spot × Coregion)) (place : ℕ) (m : Message) (later : List Message) → m.is_lost ≡ true → AreCoregions entries (place + 1) later → AreCoregions entries place (m ∷ later)
lost_coregions entries place m later lost are = λ row p line. are row p line ∙ sym (not_own row p line place m later (rw lost refl))

pub lost_lines : (entries : List (Row × ℕ)) (m : Message) (later : List Message) → m.is_lost ≡ true → AreLines entries later → AreLines entries (m ∷ later)
unfolding next_line
lost_lines entries m later lost are = λ row p. are row p ∙ rw lost refl

three : (a b c : Bool) → ((a && b) && c) ≡ (a && (b && c))
three true b c = refl
three false b c = refl

-- one more receive
pub coregions_next : (old new : List (Spot × Coregion)) (place : ℕ) (m : Message) (later : List Message) (c : Coregion) → m.is_lost ≡ false → AreCoregions old (place + 1) later
    → c ≡ record { first = place; is_parted = parted_with (coregion_of (place + 1) later m.ends m.receiver m.line) (next_line later m.ends m.receiver) m.line }
    → ((q : Spot) → lookup (same_spot q) new ≡ cond (same_spot (spot_of m) q) (Some c) (lookup (same_spot q) old)) → AreCoregions new place (m ∷ later)
coregions_next old new place m later c here are is puts = λ row p line. puts (record { row = row; instance = p; line = line }) ∙ go row p line (same_spot (spot_of m) (record { row = row; instance = p; line = line })) refl
  where
    mine : is_own m.ends m.receiver m.line m ≡ true
    mine = rw (here, eq-eqb m.ends m.ends refl, eq-eqb m.receiver m.receiver refl, eq-eqb m.line m.line refl) refl

    its : Some c ≡ coregion_of place (m ∷ later) m.ends m.receiver m.line
    its = ap (λ x. Some x) is ∙ sym (own_here m.ends m.receiver m.line place m later mine)

    go : (row p line : ℕ) (same : Bool) → same_spot (spot_of m) (record { row = row; instance = p; line = line }) ≡ same
        → cond same (Some c) (lookup (same_spot (record { row = row; instance = p; line = line })) old) ≡ coregion_of place (m ∷ later) row p line
    go row p line true e =
        let parts = and_parts (m.ends == row) (m.receiver == p && m.line == line) e in
        let rest = and_parts (m.receiver == p) (m.line == line) parts.1 in
        subst (λ x. Some c ≡ coregion_of place (m ∷ later) x p line) (eqb-true m.ends row parts.0)
        (subst (λ x. Some c ≡ coregion_of place (m ∷ later) m.ends x line) (eqb-true m.receiver p rest.0)
        (subst (λ x. Some c ≡ coregion_of place (m ∷ later) m.ends m.receiver x) (eqb-true m.line line rest.1) its))
    go row p line false e =
        are row p line ∙ sym (not_own row p line place m later (rw here (three (m.ends == row) (m.receiver == p) (m.line == line) ∙ e)))

pub lines_next : (old new : List (Row × ℕ)) (m : Message) (later : List Message) → m.is_lost ≡ false → AreLines old later
    → ((q : Row) → lookup (same_row q) new ≡ cond (same_row (row_of m) q) (Some m.line) (lookup (same_row q) old)) → AreLines new (m ∷ later)
unfolding next_line
lines_next old new m later here are puts = λ row p.
    puts (record { row = row; instance = p }) ∙ ap (λ o. cond (m.ends == row && m.receiver == p) (Some m.line) o) (are row p) ∙ rw here refl

-- the messages from a place on
pub from_place : (messages : List Message) (before n : ℕ) (m : Message) → before ≤ length messages → n + 1 ≡ before → m ≡ get_or messages n m → drop n messages ≡ m ∷ drop before messages
from_place messages before n m within one is = from_here messages n m (omega (arith, within, one)) is ∙ ap (λ k. m ∷ drop k messages) one

-- Rows.

pub place_found : (entries : List (Spot × Coregion)) (messages : List Message) (count place : ℕ) (m : Message) (c : Coregion) → AreCoregions entries 0 messages → count ≡ length messages
    → lookup (same_spot (spot_of m)) entries ≡ Some c → cond c.is_parted place c.first ≡ place_in messages place m
place_found entries messages count place m c are many found = go (list_any (is_own m.ends m.receiver m.line) messages) refl (sym found ∙ are m.ends m.receiver m.line)
  where
    go : (b : Bool) → list_any (is_own m.ends m.receiver m.line) messages ≡ b
        → Some c ≡ cond b (Some (record { first = 0 + position_or_len (is_own m.ends m.receiver m.line) messages; is_parted = is_parted messages m.ends m.receiver m.line })) None
        → cond c.is_parted place c.first ≡ place_in messages place m
    go true e is = ap (λ o. place_by o) is ∙ ap (λ n. cond (is_parted messages m.ends m.receiver m.line) place n) (omega arith)
      where
        place_by : Option Coregion → ℕ
        place_by None = place
        place_by (Some d) = cond d.is_parted place d.first
    go false e is = absurd (cc is)

pub place_none : (entries : List (Spot × Coregion)) (messages : List Message) (count place : ℕ) (m : Message) → AreCoregions entries 0 messages → count ≡ length messages
    → lookup (same_spot (spot_of m)) entries ≡ None → count ≡ place_in messages place m
unfolding is_parted behind
place_none entries messages count place m are many none = go (list_any (is_own m.ends m.receiver m.line) messages) refl (sym none ∙ are m.ends m.receiver m.line)
  where
    unparted : (xs : List Message) → list_any (is_own m.ends m.receiver m.line) xs ≡ false → behind (is_own m.ends m.receiver m.line) xs ≡ []
    unparted [] e = refl
    unparted (x ∷ xs) e = step (is_own m.ends m.receiver m.line x) (unparted xs) e
      where
        step : (b : Bool) → (list_any (is_own m.ends m.receiver m.line) xs ≡ false → behind (is_own m.ends m.receiver m.line) xs ≡ []) → (b || list_any (is_own m.ends m.receiver m.line) xs) ≡ false
            → cond b xs (behind (is_own m.ends m.receiver m.line) xs) ≡ []
        step true rest e = absurd (cc e)
        step false rest e = rest e

    no_part : list_any (is_own m.ends m.receiver m.line) messages ≡ false → is_parted messages m.ends m.receiver m.line ≡ false
    no_part e = ap (λ l. list_any (is_own m.ends m.receiver m.line) (behind (is_other m.ends m.receiver m.line) l)) (unparted messages e)

    go : (b : Bool) → list_any (is_own m.ends m.receiver m.line) messages ≡ b
        → ◌≡◌ {A = Option Coregion} None (cond b (Some (record { first = 0 + position_or_len (is_own m.ends m.receiver m.line) messages; is_parted = is_parted messages m.ends m.receiver m.line })) None)
        → count ≡ place_in messages place m
    go true e is = absurd (cc is)
    go false e is = many ∙ sym (nowhere (is_own m.ends m.receiver m.line) messages e) ∙ sym (ap (λ b. cond b place (position_or_len (is_own m.ends m.receiver m.line) messages)) (no_part e))

-- one more message
pub cut_more : (messages : List Message) (n : ℕ) (so_far more all : List Message) (m : Message) → n < length messages → m ≡ get_or messages n m → more ≡ so_far ++ cut messages n m ∷ []
    → so_far ++ cut_from messages n (drop n messages) ≡ all → more ++ cut_from messages (n + 1) (drop (n + 1) messages) ≡ all
unfolding cut_from
cut_more messages n so_far more all m within is added so =
    ap (λ l. l ++ cut_from messages (n + 1) (drop (n + 1) messages)) added ∙ append_assoc so_far (cut messages n m ∷ []) (cut_from messages (n + 1) (drop (n + 1) messages))
    ∙ ap (λ l. so_far ++ cut_from messages n l) (sym (from_here messages n m within is)) ∙ so

pub cut_end : (messages : List Message) (n : ℕ) (so_far all : List Message) → length messages ≤ n → so_far ++ cut_from messages n (drop n messages) ≡ all → so_far ≡ all
unfolding cut_from
cut_end messages n so_far all past so = sym (append-nil so_far) ∙ ap (λ l. so_far ++ cut_from messages n l) (sym (drop_all n messages past)) ∙ so
