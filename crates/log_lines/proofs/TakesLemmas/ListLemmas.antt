-- Lists that grow by the values picked from one more element, and look-ups in no lines.
use Rattle.std.proofs.Common.{◌≡◌, ℕ, ◌+◌, ◌<◌, List, [], ◌∷◌, ◌++◌, None, length, map, take, get_or, refl, sym, ap, ◌∙◌, arith, append_assoc}
use Rattle.std.specs.Prelude.{Option, filter_map, min}
use Rattle.std.proofs.lemmas.List.{map-append, take_more}
use Rattle.std.proofs.lemmas.List.Elements.{filter_map-append}
use Rattle.race_verdicts.specs.Recordings.{PatternView}
use Rattle.log_lines.specs.Takes.Arrivals.{stream_of}
use Rattle.log_lines.specs.Takes.Messages.{KeyView}
use Rattle.log_lines.specs.Takes.Observations.{ObservationsView, taken_at, with_patterns}

pub picked_more : {A B C : Type 0} (h : B → Option C) (f : A → B) (xs : List A) (n : ℕ) (d : A) → n < length xs
    → filter_map h (map f (take (n + 1) xs)) ≡ filter_map h (map f (take n xs)) ++ filter_map h (f (get_or xs n d) ∷ [])
picked_more h f xs n d within =
    ap (λ l. filter_map h (map f l)) (take_more xs n d within) ∙ ap (filter_map h) (map-append f (take n xs) (get_or xs n d ∷ [])) ∙ filter_map-append h (map f (take n xs)) (f (get_or xs n d) ∷ [])

pub patterns_more : (t : ObservationsView) (some more : List PatternView) → with_patterns more (with_patterns some t) ≡ with_patterns (some ++ more) t
patterns_more t some more =
    ap (λ l. record t { taken = l }) (append_assoc t.taken (map (taken_at t.lines) some) (map (taken_at t.lines) more) ∙ ap (λ l. t.taken ++ l) (sym (map-append (taken_at t.lines) some more)))

pub no_stream : (keys : List KeyView) (streams : List ℕ) (key : KeyView) → min (length keys) (length streams) ≡ 0 → stream_of keys streams key ≡ None
no_stream [] streams key none = refl
no_stream (k ∷ keys) [] key none = refl
no_stream (k ∷ keys) (s ∷ streams) key none = absurd (omega (arith, none))

-- the same, if the values picked so far and the next ones are given by equations
pub picked_next : {A B C : Type 0} (h : B → Option C) (f : A → B) (xs : List A) (n : ℕ) (d : A) (old new : List C) → n < length xs → old ≡ filter_map h (map f (take n xs))
    → new ≡ old ++ filter_map h (f (get_or xs n d) ∷ []) → new ≡ filter_map h (map f (take (n + 1) xs))
picked_next h f xs n d old new within picked next = next ∙ ap (λ l. l ++ filter_map h (f (get_or xs n d) ∷ [])) picked ∙ sym (picked_more h f xs n d within)
