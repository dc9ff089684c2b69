-- Whether a line is noted, decided by the first note that isn't of an earlier line.
use Rattle.std.proofs.Common.{◌≡◌, ℕ, ◌<◌, ◌≤◌, ◌⊎◌, inl, inr, true, false, List, length, get_or, sym, ap, ◌∙◌, subst, arith, ltb}
use Rattle.std.specs.Prelude.{AllPairs, nat_eq}
use Rattle.std.specs.List.Sorted.{IsNonDecreasingBy, IsPartitionPoint}
use Rattle.std.proofs.lemmas.Bool.{cases_lt, eq-eqb, ne_eqb, ltb-true, ltb-false}
use Rattle.std.proofs.lemmas.List.Folds.{list_any_none, list_any_at}
use Rattle.schedule.specs.declared.command.Note.{Note}
use Rattle.schedule.specs.Turns.Turns.{is_noted}

pub rises : (notes : List Note) → AllPairs (λ a b. a.line ≤ b.line) notes → IsNonDecreasingBy (λ (n : Note). n.line) notes
rises notes up i j d le lt = go (cases_lt i j)
  where
    go : (i < j) ⊎ (j ≤ i) → (get_or notes i d).line ≤ (get_or notes j d).line
    go (inl less) = up i j d less lt
    go (inr past) = let same : i ≡ j = omega arith in omega (arith, ap (λ k. (get_or notes k d).line) same)

module _ (notes : List Note) (up : AllPairs (λ a b. a.line ≤ b.line) notes) (line place : ℕ)
    (point : IsPartitionPoint (λ (n : Note). ltb n.line line ≡ true) (λ (n : Note). ltb n.line line ≡ false) notes place) where
  pub noted_at : (note : Note) → place < length notes → ((d : Note) → note ≡ get_or notes place d) → nat_eq note.line line ≡ is_noted notes line
  noted_at note within read = go (cases_lt line note.line)
    where
      here : (d : Note) → get_or notes place d ≡ note
      here d = sym (read d)

      reached : line ≤ note.line
      reached = let l = point.1 place note (omega arith) within in let m = ltb-false (get_or notes place note).line line l in omega (arith, m, ap (λ (n : Note). n.line) (here note))

      unlike : line < note.line → (i : ℕ) (d : Note) → i < length notes → nat_eq (get_or notes i d).line line ≡ false
      unlike less i d bound = by (cases_lt i place)
        where
          by : (i < place) ⊎ (place ≤ i) → nat_eq (get_or notes i d).line line ≡ false
          by (inl before) = let l = ltb-true (get_or notes i d).line line (point.0 i d (omega arith) before) in ne_eqb (get_or notes i d).line line (λ same. omega (arith, l, same))
          by (inr after) =
              let l = rises notes up place i d after bound in
              let h = ap (λ (n : Note). n.line) (here d) in
              ne_eqb (get_or notes i d).line line (λ same. omega (arith, l, same, h, less))

      go : (line < note.line) ⊎ (note.line ≤ line) → nat_eq note.line line ≡ is_noted notes line
      go (inl less) = ne_eqb note.line line (λ same. omega (arith, same)) ∙ sym (list_any_none (λ (n : Note). nat_eq n.line line) notes (unlike less))
      go (inr most) =
          let same : note.line ≡ line = omega (arith, reached) in
          let equal = eq-eqb note.line line same in
          equal ∙ sym (list_any_at (λ (n : Note). nat_eq n.line line) notes place note within (subst (λ (n : Note). nat_eq n.line line ≡ true) (sym (here note)) equal))

  pub noted_past : length notes ≤ place → false ≡ is_noted notes line
  noted_past past = sym (list_any_none (λ (n : Note). nat_eq n.line line) notes unlike)
    where
      unlike : (i : ℕ) (d : Note) → i < length notes → nat_eq (get_or notes i d).line line ≡ false
      unlike i d bound = let l = ltb-true (get_or notes i d).line line (point.0 i d (omega arith) (omega (arith, bound, past))) in ne_eqb (get_or notes i d).line line (λ same. omega (arith, l, same))
