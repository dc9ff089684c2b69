-- Bytes that a text lacks, and words that it begins with.
use Rattle.std.proofs.Common.{◌≡◌, ℕ, zero, suc, ◌+◌, ◌<◌, ◌/◌, ◌%◌, ◌^◌, ◌==◌, ◌&&◌, Bool, true, false, cond, List, [], ◌∷◌, ◌++◌, take, drop, refl, sym, ap, ◌∙◌, subst, arith, mod-lt, decimal}
use Rattle.std.specs.Prelude.{codes, nat_le}
use Rattle.std.specs.List.{list_any, list_all}
use Rattle.std.specs.Fmt.{digits, digits_onto, digit_glyph}
use Rattle.std.proofs.lemmas.Bool.{or_parts, or_from, and_parts, false≢true, both_ways, lt-ltb, ne_eqb, eqb-true, eq-eqb}
use Rattle.std.proofs.lemmas.Fmt.{decimal_injective}
use Rattle.chart.specs.Names.{is_name_byte}
use Rattle.texts.specs.Pieces.Pieces.{escaped_byte, escaped}
use Rattle.picture_laws.specs.Marks.{begins}

-- none of the bytes is c
abbrev pub Lacks : ℕ → List ℕ → Type 0
Lacks c t = list_any (λ b. b == c) t ≡ false

pub lacks-append : (c : ℕ) (t u : List ℕ) → Lacks c t → Lacks c u → Lacks c (t ++ u)
lacks-append c [] u p q = q
lacks-append c (b ∷ t) u p q =
    let parts = or_parts (b == c) (list_any (λ x. x == c) t) p in or_from (b == c) (list_any (λ x. x == c) (t ++ u)) parts.0 (lacks-append c t u parts.1 q)

pub lacks-take : (c k : ℕ) (t : List ℕ) → Lacks c t → Lacks c (take k t)
lacks-take c zero t p = refl
lacks-take c (suc k) [] p = refl
lacks-take c (suc k) (b ∷ t) p =
    let parts = or_parts (b == c) (list_any (λ x. x == c) t) p in or_from (b == c) (list_any (λ x. x == c) (take k t)) parts.0 (lacks-take c k t parts.1)

pub lacks-drop : (c k : ℕ) (t : List ℕ) → Lacks c t → Lacks c (drop k t)
lacks-drop c zero t p = p
lacks-drop c (suc k) [] p = refl
lacks-drop c (suc k) (b ∷ t) p = lacks-drop c k t (or_parts (b == c) (list_any (λ x. x == c) t) p).1

-- the bytes of a number
glyph_lacks : (c d : ℕ) → d < 10 → (48 + d ≡ c → ⊥) → (digit_glyph false d == c) ≡ false
glyph_lacks c d small other = ap (λ b. cond b (48 + d) (87 + d) == c) (lt-ltb d 10 small) ∙ ne_eqb (48 + d) c other

module _ (c : ℕ) (other : (d : ℕ) → d < 10 → 48 + d ≡ c → ⊥) where
  onto_lacks : (k n : ℕ) (acc : List ℕ) → Lacks c acc → Lacks c (digits_onto k 10 false n acc)
  onto_lacks zero n acc p = p
  onto_lacks (suc k) n acc p =
      let small : n % 10 < 10 = let pos : 0 < 10 = omega arith in mod-lt n pos in
      let more : Lacks c (digit_glyph false (n % 10) ∷ acc) = or_from (digit_glyph false (n % 10) == c) (list_any (λ x. x == c) acc) (glyph_lacks c (n % 10) small (other (n % 10) small)) p in
      either (n / 10 == 0) (digit_glyph false (n % 10) ∷ acc) (digits_onto k 10 false (n / 10) (digit_glyph false (n % 10) ∷ acc)) more (onto_lacks k (n / 10) (digit_glyph false (n % 10) ∷ acc) more)
    where
      either : (b : Bool) (xs ys : List ℕ) → Lacks c xs → Lacks c ys → Lacks c (cond b xs ys)
      either true xs ys p q = p
      either false xs ys p q = q

  pub decimal_lacks : (n : ℕ) → Lacks c (decimal n)
  unfolding digits
  decimal_lacks n = onto_lacks 64 n [] refl

-- the bytes of a name, and those of an escaped text
pub name_lacks : (name : List ℕ) → list_all is_name_byte name ≡ true → Lacks 60 name
name_lacks [] all = refl
name_lacks (b ∷ name) all =
    let parts = and_parts (is_name_byte b) (list_all is_name_byte name) all in or_from (b == 60) (list_any (λ x. x == 60) name) (go (b == 60) refl parts.0) (name_lacks name parts.1)
  where
    go : (its : Bool) → (b == 60) ≡ its → is_name_byte b ≡ true → (b == 60) ≡ false
    go false e name_byte = e
    go true e name_byte = absurd (false≢true (subst (λ x. is_name_byte x ≡ true) (eqb-true b 60 e) name_byte))

byte_lacks : (b : ℕ) → Lacks 60 (escaped_byte b)
byte_lacks b = go (b == 38) (b == 60) refl (b == 62) (b == 34) (b == 39) (nat_le 32 b && nat_le b 126)
  where
    go : (a l : Bool) → (b == 60) ≡ l → (g q s p : Bool) → Lacks 60 (cond a (codes "&amp;") (cond l (codes "&lt;") (cond g (codes "&gt;") (cond q (codes "&quot;") (cond s (codes "&#39;") (cond p (b ∷ []) (codes "?")))))))
    go true l e g q s p = refl
    go false true e g q s p = refl
    go false false e true q s p = refl
    go false false e false true s p = refl
    go false false e false false true p = refl
    go false false e false false false true = or_from (b == 60) false e refl
    go false false e false false false false = refl

pub escaped_lacks : (bytes : List ℕ) → Lacks 60 (escaped bytes)
escaped_lacks [] = refl
escaped_lacks (b ∷ bytes) = lacks-append 60 (escaped_byte b) (escaped bytes) (byte_lacks b) (escaped_lacks bytes)

-- Words that a text begins with.

pub begins_same : (p w t : List ℕ) → begins (p ++ w) (p ++ t) ≡ begins w t
begins_same [] w t = refl
begins_same (b ∷ p) w t = ap (λ z. z && begins (p ++ w) (p ++ t)) (eq-eqb b b refl) ∙ begins_same p w t

begins_lists : (c : ℕ) (w t xs ys : List ℕ) → Lacks c xs → Lacks c ys → begins (xs ++ c ∷ w) (ys ++ c ∷ t) ≡ true → (xs ≡ ys) × (begins w t ≡ true)
begins_lists c w t [] [] p q its = (refl, (and_parts (c == c) (begins w t) its).1)
begins_lists c w t [] (y ∷ ys) p q its = absurd (both_ways (y == c) (or_parts (y == c) (list_any (λ x. x == c) ys) q).0 (and_parts (y == c) (begins w (ys ++ c ∷ t)) its).0)
begins_lists c w t (x ∷ xs) [] p q its =
    absurd (both_ways (x == c) (or_parts (x == c) (list_any (λ y. y == c) xs) p).0 (eq-eqb x c (sym (eqb-true c x (and_parts (c == x) (begins (xs ++ c ∷ w) t) its).0))))
begins_lists c w t (x ∷ xs) (y ∷ ys) p q its =
    let parts = and_parts (y == x) (begins (xs ++ c ∷ w) (ys ++ c ∷ t)) its in
    let rest = begins_lists c w t xs ys (or_parts (x == c) (list_any (λ z. z == c) xs) p).1 (or_parts (y == c) (list_any (λ z. z == c) ys) q).1 parts.1 in
    (ap (λ z. z ∷ xs) (sym (eqb-true y x parts.0)) ∙ ap (λ l. y ∷ l) rest.0, rest.1)

pub begins_number : (c : ℕ) → ((d : ℕ) → d < 10 → 48 + d ≡ c → ⊥) → (n m : ℕ) (w t : List ℕ) → n < 2 ^ 64 → m < 2 ^ 64 → begins (decimal n ++ c ∷ w) (decimal m ++ c ∷ t) ≡ true
    → (n ≡ m) × (begins w t ≡ true)
begins_number c other n m w t low high its =
    let found = begins_lists c w t (decimal n) (decimal m) (decimal_lacks c other n) (decimal_lacks c other m) its in (decimal_injective n m low high found.0, found.1)
