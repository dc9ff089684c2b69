-- Texts in which no event's mark begins: the elements of a picture.
use Rattle.std.proofs.Common.{◌≡◌, ℕ, ◌==◌, ◌&&◌, Bool, true, false, cond, List, [], ◌∷◌, ◌++◌, length, take, drop, refl, ap, ◌∙◌, arith, append_assoc, decimal}
use Rattle.std.specs.Prelude.{codes}
use Rattle.std.specs.List.{list_any, flat_map}
use Rattle.std.proofs.lemmas.Bool.{or_parts}
use Rattle.picture_parts.specs.declared.elements.spot.Spot.{Spot}
use Rattle.picture_parts.specs.Columns.TextWidths.{line_break, name_width}
use Rattle.picture_parts.specs.Elements.Elements.{arrow, ring, ground, full_line, name_line, above, name_lines, tall, corner, base, label, label_start, label_end, number_text, group_end, solid, dashed, segment, dot_start, dot_end, bracket_name, bracket_outline, bracket_end, head_box, foot}
use Rattle.picture_laws.specs.Marks.{begins, and_one, times_in}
use Rattle.picture_laws.proofs.TextLemmas.{Lacks, lacks-take, lacks-drop, decimal_lacks}

-- The word that is looked for is that of some marks: it goes on with w.
module _ (w : List ℕ) where
  abbrev pub word : List ℕ
  word = codes "<g id='e" ++ w

  -- the word begins nowhere in the text, whatever comes after it
  abbrev pub IsQuiet : List ℕ → Type 0
  IsQuiet t = (rest : List ℕ) → times_in word (t ++ rest) ≡ times_in word rest

  pub quiet-append : (t u : List ℕ) → IsQuiet t → IsQuiet u → IsQuiet (t ++ u)
  quiet-append t u p q rest = ap (times_in word) (append_assoc t u rest) ∙ p (u ++ rest) ∙ q rest

  pub quiet-none : IsQuiet []
  quiet-none rest = refl

  pub quiet-cond : (b : Bool) (t u : List ℕ) → IsQuiet t → IsQuiet u → IsQuiet (cond b t u)
  quiet-cond true t u p q = p
  quiet-cond false t u p q = q

  pub quiet-all : {X : Type 0} (f : X → List ℕ) (xs : List X) → ((x : X) → IsQuiet (f x)) → IsQuiet (flat_map f xs)
  quiet-all f [] each = quiet-none
  quiet-all f (x ∷ xs) each = quiet-append (f x) (flat_map f xs) (each x) (quiet-all f xs each)

  -- a text without <
  pub quiet-lacks : (t : List ℕ) → Lacks 60 t → IsQuiet t
  quiet-lacks [] p rest = refl
  quiet-lacks (b ∷ t) p rest =
      let parts = or_parts (b == 60) (list_any (λ x. x == 60) t) p in
      ap (λ z. and_one (z && begins (codes "g id='e" ++ w) (t ++ rest)) (times_in word (t ++ rest))) parts.0 ∙ quiet-lacks t parts.1 rest

  pub plain : (t u : List ℕ) → Lacks 60 t → IsQuiet u → IsQuiet (t ++ u)
  plain t u p q = quiet-append t u (quiet-lacks t p) q

  pub number-quiet : (n : ℕ) → IsQuiet (decimal n)
  number-quiet n = quiet-lacks (decimal n) (decimal_lacks 60 (λ d small e. omega (arith, small, e)) n)

  pub number : (n : ℕ) (u : List ℕ) → IsQuiet u → IsQuiet (decimal n ++ u)
  number n u q = quiet-append (decimal n) u (number-quiet n) q

  pub arrow-quiet : (a b : Spot) → IsQuiet (arrow a b)
  unfolding arrow
  arrow-quiet a b = number a.x _ (number a.y _ (number b.x _ (number b.y _ (λ rest. refl))))

  pub ring-quiet : (a : Spot) → IsQuiet (ring a)
  unfolding ring
  ring-quiet a = number a.x _ (number a.y _ (λ rest. refl))

  ground-quiet : (a : Spot) (wide high : ℕ) → IsQuiet (ground a wide high)
  unfolding ground
  ground-quiet a wide high = number a.x _ (number a.y _ (number wide _ (number high _ (λ rest. refl))))

  full-quiet : (a : Spot) (line : List ℕ) → Lacks 60 line → IsQuiet (full_line a line)
  unfolding full_line
  full-quiet a line clean = number a.x _ (number a.y _ (plain line _ clean (λ rest. refl)))

  line-quiet : (a : Spot) (line : List ℕ) → Lacks 60 line → IsQuiet (name_line a line)
  line-quiet a line clean = quiet-cond (length line == 0) [] (full_line a line) quiet-none (full-quiet a line clean)

  pub lines-quiet : (upper : ℕ) (name : List ℕ) (a : Spot) → Lacks 60 name → IsQuiet (name_lines upper name a)
  unfolding name_lines
  lines-quiet upper name a clean =
      quiet-append (name_line (above a) (take upper name)) (name_line a (drop upper name)) (line-quiet (above a) (take upper name) (lacks-take 60 upper name clean))
      (line-quiet a (drop upper name) (lacks-drop 60 upper name clean))

  pub label-quiet : (near : Bool) (name : List ℕ) (x y : ℕ) → Lacks 60 name → IsQuiet (label near name x y)
  unfolding label
  label-quiet near name x y clean =
      quiet-append (ground (corner x y (line_break near name) (name_width near name)) (name_width near name) (tall (line_break near name))) (name_lines (line_break near name) name (base x y))
      (ground-quiet (corner x y (line_break near name) (name_width near name)) (name_width near name) (tall (line_break near name)))
      (lines-quiet (line_break near name) name (base x y) clean)

  pub label_start-quiet : (a : Spot) → IsQuiet (label_start a)
  unfolding label_start
  label_start-quiet a = number a.x _ (number a.y _ (λ rest. refl))

  pub label_end-quiet : IsQuiet label_end
  unfolding label_end
  label_end-quiet rest = refl

  pub number_text-quiet : (classes : List ℕ) (a : Spot) (n : ℕ) → Lacks 60 classes → IsQuiet (number_text classes a n)
  unfolding number_text
  number_text-quiet classes a n clean = plain classes _ clean (number a.x _ (number a.y _ (number n _ (λ rest. refl))))

  pub group_end-quiet : IsQuiet group_end
  unfolding group_end
  group_end-quiet rest = refl

  solid-quiet : (x a b : ℕ) → IsQuiet (solid x a b)
  unfolding solid
  solid-quiet x a b = number x _ (number a _ (number b _ (λ rest. refl)))

  dashed-quiet : (x a b : ℕ) → IsQuiet (dashed x a b)
  unfolding dashed
  dashed-quiet x a b = number x _ (number a _ (number b _ (λ rest. refl)))

  pub segment-quiet : (r x a b : ℕ) → IsQuiet (segment r x a b)
  unfolding segment
  segment-quiet r x a b = quiet-cond (r == 0) (solid x a b) (dashed x a b) (solid-quiet x a b) (dashed-quiet x a b)

  pub dot_start-quiet : (p i : ℕ) (a : Spot) → IsQuiet (dot_start p i a)
  unfolding dot_start
  dot_start-quiet p i a = number p _ (number i _ (number a.x _ (number a.y _ (λ rest. refl))))

  pub dot_end-quiet : IsQuiet dot_end
  unfolding dot_end
  dot_end-quiet rest = refl

  pub bracket_name-quiet : (p i first : ℕ) → IsQuiet (bracket_name p i first)
  unfolding bracket_name
  bracket_name-quiet p i first = number p _ (number i _ (number first _ (λ rest. refl)))

  pub bracket_outline-quiet : (a : Spot) (lower inner receive : ℕ) → IsQuiet (bracket_outline a lower inner receive)
  unfolding bracket_outline
  bracket_outline-quiet a lower inner receive = number inner _ (number a.y _ (number a.x _ (number lower _ (number inner _ (number receive _ (λ rest. refl))))))

  pub bracket_end-quiet : IsQuiet bracket_end
  unfolding bracket_end
  bracket_end-quiet rest = refl

  pub head_box-quiet : (left width : ℕ) → IsQuiet (head_box left width)
  unfolding head_box
  head_box-quiet left width = number left _ (number width _ (λ rest. refl))

  pub foot-quiet : (a : Spot) → IsQuiet (foot a)
  unfolding foot
  foot-quiet a = number a.x _ (number a.y _ (λ rest. refl))
