-- How the parts of a write make a whole. S is the output, and sink is what is known of it.
use Rattle.std.proofs.Common.{◌≡◌, ℕ, ◌+◌, ◌<◌, List, [], ◌++◌, Option, None, Some, Result, Ok, Err, true, refl, sym, ap, ◌∙◌, subst, append_assoc, append-nil, take, drop, length, get_or, take-append-drop}
use Rattle.std.proofs.lemmas.List.{take_more, flat_map_more}
use Rattle.std.proofs.lemmas.List.Concat.{flat_map-append}
use Rattle.std.proofs.KnownBytes.{Appends-nil, Appends-trans}
use Rattle.std.specs.Io.KnownBytes.{Keeps, Appends}
use Rattle.std.specs.List.{flat_map}
use Rattle.std.specs.Result.{is_err}
use Rattle.texts.specs.Outs.{Sink, one_more}
use Rattle.texts.specs.Writing.{Puts, Breaks, Wrote, Buffers, Stops, Adds}
use Rattle.texts.specs.declared.text_buffer.TextBuffer.{TextBuffer}

-- contents that stayed as they were, and then grew
pub kept_then : (a b c : Option (List ℕ)) (bytes : List ℕ) → Keeps a b → Appends b c bytes → Appends a c bytes
kept_then None b c bytes p q = tt
kept_then (Some x) None c bytes p q = absurd p
kept_then (Some x) (Some y) None bytes p q = absurd q
kept_then (Some x) (Some y) (Some z) bytes p q = q ∙ ap (λ l. l ++ bytes) p

-- two parts of one text, after the first of which some bytes are held
splits_then : (h i j p q s t : List ℕ) → h ++ s ≡ p ++ i → i ++ t ≡ q ++ j → h ++ (s ++ t) ≡ (p ++ q) ++ j
splits_then h i j p q s t first second =
    sym (append_assoc h s t) ∙ ap (λ l. l ++ t) first ∙ append_assoc p i t ∙ ap (λ l. p ++ l) second ∙ sym (append_assoc p q j)

module _ {S : Type 0} {sink : S → Sink} where
  pub puts_nothing : (a : S) → Puts sink a a []
  puts_nothing a = record { appends = Appends-nil (sink a).contents; none_failed = refl }

  pub puts_then : {a b c : S} {s t : List ℕ} → Puts sink a b s → Puts sink b c t → Puts sink a c (s ++ t)
  puts_then {a} {b} {c} p q = record { appends = Appends-trans (sink a).contents (sink b).contents (sink c).contents _ _ p.appends q.appends; none_failed = q.none_failed ∙ p.none_failed }

  -- a successful put, and then a failure
  pub breaks_then : {a b c : S} {s t : List ℕ} → Puts sink a b s → Breaks sink b c t → Breaks sink a c (s ++ t)
  breaks_then {a} {b} {c} {s} {t} p q = record {
    put = s ++ q.put;
    rest = q.rest;
    splits = ap (λ l. s ++ l) q.splits ∙ sym (append_assoc s q.put q.rest);
    appends = Appends-trans (sink a).contents (sink b).contents (sink c).contents _ _ p.appends q.appends;
    one_failed = q.one_failed ∙ ap one_more p.none_failed;
  }

  -- a failure in a part is a failure in the whole
  pub breaks_early : {a b : S} {s : List ℕ} (t : List ℕ) → Breaks sink a b s → Breaks sink a b (s ++ t)
  breaks_early t p = record {
    put = p.put;
    rest = p.rest ++ t;
    splits = ap (λ l. l ++ t) p.splits ∙ append_assoc p.put p.rest t;
    appends = p.appends;
    one_failed = p.one_failed;
  }

  pub buffers_nothing : (a : TextBuffer S) → Buffers sink a a []
  buffers_nothing a = record { put = []; splits = append-nil a.held; puts = puts_nothing a.out.now; same_out = refl }

  pub buffers_then : {a b c : TextBuffer S} {s t : List ℕ} → Buffers sink a b s → Buffers sink b c t → Buffers sink a c (s ++ t)
  buffers_then {a} {b} {c} {s} {t} p q = record {
    put = p.put ++ q.put;
    splits = splits_then a.held b.held c.held p.put q.put s t p.splits q.splits;
    puts = puts_then p.puts q.puts;
    same_out = q.same_out ∙ p.same_out;
  }

  -- a part that was added, and a failure in the next one
  breaks_after : {a b : TextBuffer S} (c : TextBuffer S) {s : List ℕ} (t : List ℕ) → Buffers sink a b s → Breaks sink b.out.now c.out.now (b.held ++ t)
      → Breaks sink a.out.now c.out.now (a.held ++ (s ++ t))
  breaks_after {a} {b} c {s} t p q = record {
    put = p.put ++ q.put;
    rest = q.rest;
    splits = splits_then a.held b.held q.rest p.put q.put s t p.splits q.splits;
    appends = Appends-trans (sink a.out.now).contents (sink b.out.now).contents (sink c.out.now).contents _ _ p.puts.appends q.appends;
    one_failed = q.one_failed ∙ ap one_more p.puts.none_failed;
  }

  pub stops_then : {a b c : TextBuffer S} {s t : List ℕ} → Buffers sink a b s → Stops sink b c t → Stops sink a c (s ++ t)
  stops_then {c = c} {t = t} p q = record { breaks = breaks_after c t p q.breaks; empty = q.empty; same_out = q.same_out ∙ p.same_out }

  pub stops_early : {a b : TextBuffer S} {s : List ℕ} (t : List ℕ) → Stops sink a b s → Stops sink a b (s ++ t)
  stops_early {a} {b} {s} t p = record {
    breaks = subst (Breaks sink a.out.now b.out.now) (append_assoc a.held s t) (breaks_early t p.breaks);
    empty = p.empty;
    same_out = p.same_out;
  }

  -- the held bytes are put, and then the text, or a part of it
  pub adds_put : {T E : Type 0} (a b c : TextBuffer S) (r : Result T E) (t : List ℕ) → Puts sink a.out.now b.out.now a.held → b.out.ghost_name ≡ a.out.ghost_name
      → Wrote sink b.out.now c.out.now r t → c.held ≡ [] → c.out.ghost_name ≡ b.out.ghost_name → Adds sink a c r t
  adds_put a b c (Ok x) t p same q none kept = record {
    put = a.held ++ t;
    splits = sym (append-nil (a.held ++ t)) ∙ ap (λ l. (a.held ++ t) ++ l) (sym none);
    puts = puts_then p q;
    same_out = kept ∙ same;
  }
  adds_put a b c (Err e) t p same q none kept = record { breaks = breaks_then p q; empty = none; same_out = kept ∙ same }

  -- ---- for callers: part after part, and the end

  pub adds_then : {T E : Type 0} {a b : TextBuffer S} {s : List ℕ} (c : TextBuffer S) (r : Result T E) (t : List ℕ) → Buffers sink a b s → Adds sink b c r t → Adds sink a c r (s ++ t)
  adds_then c (Ok x) t p q = buffers_then p q
  adds_then c (Err e) t p q = stops_then p q

  wrote_whole : {T E : Type 0} {a b : TextBuffer S} {s : List ℕ} (c : S) (r : Result T E) → a.held ≡ [] → Buffers sink a b s → Wrote sink b.out.now c r b.held → Wrote sink a.out.now c r s
  wrote_whole {a = a} {s = s} c (Ok x) none p q = subst (Puts sink a.out.now c) (sym p.splits ∙ ap (λ l. l ++ s) none) (puts_then p.puts q)
  wrote_whole {a = a} {s = s} c (Err e) none p q = subst (Breaks sink a.out.now c) (sym p.splits ∙ ap (λ l. l ++ s) none) (breaks_then p.puts q)

  -- for a text that began at `start`
  pub wrote_then : {T E : Type 0} {a b : TextBuffer S} {s : List ℕ} (start c : S) (r : Result T E) → a.out.now ≡ start → a.held ≡ [] → Buffers sink a b s → Wrote sink b.out.now c r b.held → Wrote sink start c r s
  wrote_then {s = s} start c r begun none p q = subst (λ x. Wrote sink x c r s) begun (wrote_whole c r none p q)

  -- the exit of a `?` at a part: a stop in the part is a stop in the whole
  pub adds_early : {T E : Type 0} {a b : TextBuffer S} {s : List ℕ} (r : Result T E) (t : List ℕ) → is_err r ≡ true → Stops sink a b s → Adds sink a b r (s ++ t)
  adds_early (Ok x) t e p = cc
  adds_early (Err x) t e p = stops_early t p

  pub wrote_early : {T E : Type 0} {a b : TextBuffer S} {s : List ℕ} (start : S) (r : Result T E) → is_err r ≡ true → a.out.now ≡ start → a.held ≡ [] → Stops sink a b s → Wrote sink start b.out.now r s
  wrote_early start (Ok x) e begun none p = cc
  wrote_early {b = b} {s = s} start (Err x) e begun none p =
      subst (λ x. Breaks sink x b.out.now s) begun (subst (Breaks sink _ b.out.now) (ap (λ l. l ++ s) none) p.breaks)

  -- ---- for loops over a list, where f is the text of each element

  pub buffers_more : {X : Type 0} (f : X → List ℕ) {a b c : TextBuffer S} (xs : List X) (k : ℕ) (d : X) → k < length xs
      → Buffers sink a b (flat_map f (take k xs)) → Buffers sink b c (f (get_or xs k d)) → Buffers sink a c (flat_map f (take (k + 1) xs))
  buffers_more f {a = a} {c = c} xs k d below p q =
      let e : flat_map f (take k xs) ++ f (get_or xs k d) ≡ flat_map f (take (k + 1) xs) =
      flat_map_more f [] (take k xs) (get_or xs k d) ∙ ap (flat_map f) (sym (take_more xs k d below)) in
      subst (Buffers sink a c) e (buffers_then p q)

  pub stops_in : {X : Type 0} (f : X → List ℕ) {a b c : TextBuffer S} (xs : List X) (k : ℕ) (d : X) → k < length xs
      → Buffers sink a b (flat_map f (take k xs)) → Stops sink b c (f (get_or xs k d)) → Stops sink a c (flat_map f xs)
  stops_in f {a = a} {c = c} xs k d below p q =
      let more : flat_map f (take k xs) ++ f (get_or xs k d) ≡ flat_map f (take (k + 1) xs) =
      flat_map_more f [] (take k xs) (get_or xs k d) ∙ ap (flat_map f) (sym (take_more xs k d below)) in
      let whole : (flat_map f (take k xs) ++ f (get_or xs k d)) ++ flat_map f (drop (k + 1) xs) ≡ flat_map f xs =
      ap (λ l. l ++ flat_map f (drop (k + 1) xs)) more ∙ sym (flat_map-append f (take (k + 1) xs) (drop (k + 1) xs)) ∙ ap (flat_map f) (take-append-drop (k + 1) xs) in
      subst (Stops sink a c) whole (stops_early (flat_map f (drop (k + 1) xs)) (stops_then p q))

  pub adds_in : {X T E : Type 0} (f : X → List ℕ) {a b c : TextBuffer S} (r : Result T E) (xs : List X) (k : ℕ) (d : X) → is_err r ≡ true → k < length xs
      → Buffers sink a b (flat_map f (take k xs)) → Stops sink b c (f (get_or xs k d)) → Adds sink a c r (flat_map f xs)
  adds_in f (Ok x) xs k d e below p q = cc
  adds_in f (Err x) xs k d e below p q = stops_in f xs k d below p q

  -- the same two if the loop reads the element as x, and c.x-item.is states so: for elements that are no numbers and no
  -- references

  pub buffers_more_read : {X : Type 0} (f : X → List ℕ) {a b c : TextBuffer S} (xs : List X) (k : ℕ) (x : X) → k < length xs → x ≡ get_or xs k x
      → Buffers sink a b (flat_map f (take k xs)) → Buffers sink b c (f x) → Buffers sink a c (flat_map f (take (k + 1) xs))
  buffers_more_read f {b = b} {c = c} xs k x below is p q = buffers_more f xs k x below p (subst (λ y. Buffers sink b c (f y)) is q)

  pub adds_in_read : {X T E : Type 0} (f : X → List ℕ) {a b c : TextBuffer S} (r : Result T E) (xs : List X) (k : ℕ) (x : X) → is_err r ≡ true → k < length xs → x ≡ get_or xs k x
      → Buffers sink a b (flat_map f (take k xs)) → Stops sink b c (f x) → Adds sink a c r (flat_map f xs)
  adds_in_read f {b = b} {c = c} r xs k x e below is p q = adds_in f r xs k x e below p (subst (λ y. Stops sink b c (f y)) is q)

  -- for callers, by `using`: the lemmas that join the parts of a write, if the text is `first ++ (second ++ (third ++
  -- ..))`
  pub ruleset joining = (adds_then, adds_early, buffers_then, wrote_then, wrote_early)
