-- Blocks of a chart's text: their lines, and how far the search for an event's line gets in them.
use Rattle.std.proofs.Common.{◌≡◌, ℕ, ◌+◌, ◌<◌, Bool, true, false, cond, ◌&&◌, ◌||◌, eqb, List, [], ◌∷◌, ◌++◌, length, refl, sym, ap, ◌∙◌, subst, arith, append_assoc, append-nil, length-append, add-zero}
use Rattle.std.specs.Prelude.{codes, bytes_eq}
use Rattle.std.specs.List.{flat_map, join_with_byte, AllByRecursion}
use Rattle.std.proofs.lemmas.Bool.{ne_eqb, eq-eqb}
use Rattle.std.proofs.lemmas.Grind.{flat_map-append}
use Rattle.std.proofs.lemmas.List.Elements.{All-from_recursion}
use Rattle.std.proofs.lemmas.List.Splits.{slice_split_at}
use Rattle.chart.specs.Charts.{LineView}
use Rattle.chart.specs.Events.{partner_of, name_of, region_of}
use Rattle.chart.specs.Keywords.{spelled}
use Rattle.chart.specs.Names.{IsName}
use Rattle.chart.specs.declared.event.Event.{Event}
use Rattle.chart.specs.declared.event.Event.TheVariants as line_events
use Rattle.chart.specs.declared.keyword.Keyword.TheVariants as keywords
use Rattle.fault_places.specs.EventLines.{events_before}
use Rattle.fault_places.specs.Spots.{first_of}
use Rattle.fault_places.specs.Standings.{is_head, is_event, event_from}
use Rattle.msc_text.specs.ChartText.{event_line, lone_line, chart_name, event_text, ending, beginning, event_lines_text, events_text, head_text, foot_text, line_text, begin_text}
use Rattle.msc_text.specs.Reader.LastWords.{semi}
use Rattle.texts.proofs.Parts.{lacks_if, lacks_append}
use Rattle.texts.proofs.Spacing.{IsPlain, plain_name, plain_keyword, spaced_lacks}
use Rattle.texts.specs.Instances.{name_at}
use Rattle.texts.specs.Lines.{Lacks, ended, words_of}

-- a text of whole lines: the search for the event x of the instance i enters it with h first lines of instances and e
-- events, and leaves it with h1 and e1
pub record Block (i x h e : ℕ) (text : List ℕ) (h1 e1 : ℕ) : Type 0 where
  pub lines : List (List ℕ)
  pub is : text ≡ flat_map ended lines
  pub lack : AllByRecursion (Lacks 10) lines
  pub skips : (number : ℕ) (rest : List (List ℕ)) → event_from i x h e number (lines ++ rest) ≡ event_from i x h1 e1 (number + length lines) rest

pub empty_block : (i x h e : ℕ) → Block i x h e [] h e
empty_block i x h e = record { lines = []; is = refl; lack = tt; skips = λ number rest. ap (λ n. event_from i x h e n rest) (sym (add-zero number)) }

all_lack : (xs ys : List (List ℕ)) → AllByRecursion (Lacks 10) xs → AllByRecursion (Lacks 10) ys → AllByRecursion (Lacks 10) (xs ++ ys)
all_lack [] ys p q = q
all_lack (x ∷ xs) ys p q = (p.0, all_lack xs ys p.1 q)

pub block_then : {i x h e h1 e1 h2 e2 : ℕ} {a b : List ℕ} → Block i x h e a h1 e1 → Block i x h1 e1 b h2 e2 → Block i x h e (a ++ b) h2 e2
block_then {i} {x} {h} {e} {h1} {e1} {h2} {e2} {a} {b} p q = record {
  lines = p.lines ++ q.lines;
  is = ap (λ t. t ++ b) p.is ∙ ap (λ t. flat_map ended p.lines ++ t) q.is ∙ sym (flat_map-append ended p.lines q.lines);
  lack = all_lack p.lines q.lines p.lack q.lack;
  skips = λ number rest.
      (let long = length-append p.lines q.lines in
      let same : (number + length p.lines) + length q.lines ≡ number + length (p.lines ++ q.lines) = omega arith in
      ap (event_from i x h e number) (append_assoc p.lines q.lines rest) ∙ p.skips number (q.lines ++ rest) ∙ q.skips (number + length p.lines) rest ∙ ap (λ n. event_from i x h2 e2 n rest) same);
}

-- ---- one line

plain_skip : (i x h e number : ℕ) (line : List ℕ) (rest : List (List ℕ)) → is_head line ≡ false → is_event line ≡ false → event_from i x h e number (line ∷ rest) ≡ event_from i x h e (number + 1) rest
plain_skip i x h e number line rest p q = rw (p, q) refl

pub plain_block : (i x h e : ℕ) (line : List ℕ) → Lacks 10 line → is_head line ≡ false → is_event line ≡ false → Block i x h e (ended line) h e
plain_block i x h e line l p q = record { lines = line ∷ []; is = sym (append-nil (ended line)); lack = (l, tt); skips = λ number rest. plain_skip i x h e number line rest p q }

head_skip : (i x h e number : ℕ) (line : List ℕ) (rest : List (List ℕ)) → is_head line ≡ true → event_from i x h e number (line ∷ rest) ≡ event_from i x (h + 1) 0 (number + 1) rest
head_skip i x h e number line rest p = rw p refl

event_skip : (i x h e number : ℕ) (line : List ℕ) (rest : List (List ℕ)) → is_head line ≡ false → is_event line ≡ true → (eqb h i && eqb (e + 1) x) ≡ false
    → event_from i x h e number (line ∷ rest) ≡ event_from i x h (e + 1) (number + 1) rest
event_skip i x h e number line rest p q r = rw (p, q, r) refl

-- the line that is searched for
pub event_found : (i x e number : ℕ) (line : List ℕ) (rest : List (List ℕ)) → is_head line ≡ false → is_event line ≡ true → e + 1 ≡ x → event_from i x i e number (line ∷ rest) ≡ number
event_found i x e number line rest p q r = rw (p, q, eq-eqb i i refl, eq-eqb (e + 1) x r) refl

-- ---- first words

words_first : (word rest : List ℕ) → Lacks 32 word → first_of (words_of (word ++ 32 ∷ rest)) ≡ word
unfolding words_of
words_first word rest lack = ap first_of (slice_split_at (λ b. eqb b 32) word 32 rest (All-from_recursion _ word lack) refl)

-- the line that begins an instance
abbrev head_of : List ℕ → List ℕ
head_of own = join_with_byte 32 (spelled keywords.Instance ∷ semi own ∷ [])

plain_semi : (name : List ℕ) → IsName name → IsPlain (semi name)
plain_semi name h =
    let plain = plain_name name h in
    (lacks_append 32 name (59 ∷ []) plain.0 (lacks_if 32 (59 ∷ []) refl), lacks_append 10 name (59 ∷ []) plain.1 (lacks_if 10 (59 ∷ []) refl))

head_is : (own : List ℕ) → is_head (head_of own) ≡ true
unfolding spelled
head_is own = ap (λ w. bytes_eq w (codes "instance")) (words_first (spelled keywords.Instance) (semi own) (plain_keyword keywords.Instance).0)

-- the line of an event
abbrev pub line_of : List (List ℕ) → Event → List ℕ
line_of names (line_events.Send to name) = join_with_byte 32 (spelled keywords.Out ∷ name ∷ spelled keywords.To ∷ semi (name_at names to) ∷ [])
line_of names (line_events.Receive from name region) = join_with_byte 32 (spelled keywords.In ∷ name ∷ spelled keywords.From ∷ semi (name_at names from) ∷ [])

pub no_head : (names : List (List ℕ)) (m : Event) → is_head (line_of names m) ≡ false
unfolding spelled
no_head names (line_events.Send to name) = ap (λ w. bytes_eq w (codes "instance")) (words_first (spelled keywords.Out) _ (plain_keyword keywords.Out).0)
no_head names (line_events.Receive from name region) = ap (λ w. bytes_eq w (codes "instance")) (words_first (spelled keywords.In) _ (plain_keyword keywords.In).0)

pub event_is : (names : List (List ℕ)) (m : Event) → is_event (line_of names m) ≡ true
unfolding spelled
event_is names (line_events.Send to name) = ap (λ w. bytes_eq w (codes "in") || bytes_eq w (codes "out")) (words_first (spelled keywords.Out) _ (plain_keyword keywords.Out).0)
event_is names (line_events.Receive from name region) = ap (λ w. bytes_eq w (codes "in") || bytes_eq w (codes "out")) (words_first (spelled keywords.In) _ (plain_keyword keywords.In).0)

pub line_writes : (names : List (List ℕ)) (m : Event) → ended (line_of names m) ≡ event_text names m
unfolding event_text event_line
line_writes names (line_events.Send to name) = simp append_assoc
line_writes names (line_events.Receive from name region) = simp append_assoc

-- ---- events

-- the names of an event are names
pub record Spelled (names : List (List ℕ)) (m : Event) : Type 0 where
  pub partner : IsName (name_at names (partner_of m))
  pub message : IsName (name_of m)

pub line_lacks : (names : List (List ℕ)) (m : Event) → Spelled names m → Lacks 10 (line_of names m)
line_lacks names (line_events.Send to name) s =
    spaced_lacks (spelled keywords.Out ∷ name ∷ spelled keywords.To ∷ semi (name_at names to) ∷ []) (plain_keyword keywords.Out, (plain_name name s.message, (plain_keyword keywords.To, (plain_semi (name_at names to) s.partner, tt))))
line_lacks names (line_events.Receive from name region) s =
    spaced_lacks (spelled keywords.In ∷ name ∷ spelled keywords.From ∷ semi (name_at names from) ∷ []) (plain_keyword keywords.In, (plain_name name s.message, (plain_keyword keywords.From, (plain_semi (name_at names from) s.partner, tt))))

event_block : (names : List (List ℕ)) (m : Event) (i x h e : ℕ) → Spelled names m → (eqb h i && eqb (e + 1) x) ≡ false → Block i x h e (event_text names m) h (e + 1)
event_block names m i x h e s other = record {
  lines = line_of names m ∷ [];
  is = sym (line_writes names m) ∙ sym (append-nil (ended (line_of names m)));
  lack = (line_lacks names m s, tt);
  skips = λ number rest. event_skip i x h e number (line_of names m) rest (no_head names m) (event_is names m) other;
}

ending_block : (i x h e r c : ℕ) → Block i x h e (ending r c) h e
unfolding ending lone_line spelled words_of
ending_block i x h e r c = by (eqb r c || eqb r 0)
  where
    by : (b : Bool) → Block i x h e (cond b [] (lone_line keywords.EndConcurrent)) h e
    by true = empty_block i x h e
    by false = plain_block i x h e (codes "endconcurrent;") (lacks_if 10 (codes "endconcurrent;") refl) refl refl

beginning_block : (i x h e r c : ℕ) → Block i x h e (beginning r c) h e
unfolding beginning lone_line spelled words_of
beginning_block i x h e r c = by (eqb r c || eqb c 0)
  where
    by : (b : Bool) → Block i x h e (cond b [] (lone_line keywords.Concurrent)) h e
    by true = empty_block i x h e
    by false = plain_block i x h e (codes "concurrent;") (lacks_if 10 (codes "concurrent;") refl) refl refl

event_lines_block : (names : List (List ℕ)) (m : Event) (i x h e r : ℕ) → Spelled names m → (eqb h i && eqb (e + 1) x) ≡ false → Block i x h e (event_lines_text names r m) h (e + 1)
unfolding event_lines_text
event_lines_block names m i x h e r s other = block_then (ending_block i x h e r (region_of m)) (block_then (beginning_block i x h e r (region_of m)) (event_block names m i x h e s other))

-- the events of the instance before the one that is searched for
pub before_block : (names : List (List ℕ)) (i x e n r : ℕ) (events : List Event) (m : Event) → AllByRecursion (Spelled names) events → n ≡ e + length events → n < x → Block i x i e (events_before names r events m) i n
before_block names i x e n r [] m s many short =
    let same : e ≡ n = omega arith in
    subst (λ k. Block i x i e (ending r (region_of m) ++ beginning r (region_of m)) i k) same (block_then (ending_block i x i e r (region_of m)) (beginning_block i x i e r (region_of m)))
before_block names i x e n r (first ∷ events) m s many short =
    let other : (eqb i i && eqb (e + 1) x) ≡ false = ap (λ b. eqb i i && b) (ne_eqb (e + 1) x (λ same. omega arith)) ∙ last_false (eqb i i) in
    block_then (event_lines_block names first i x i e r s.0 other) (before_block names i x (e + 1) n (region_of first) events m s.1 (omega arith) short)
  where
    last_false : (b : Bool) → (b && false) ≡ false
    last_false true = refl
    last_false false = refl

-- all events of another instance
events_block : (names : List (List ℕ)) (i x h e r : ℕ) (events : List Event) → AllByRecursion (Spelled names) events → eqb h i ≡ false → (n : ℕ) × Block i x h e (events_text names r events) h n
events_block names i x h e r [] s other = (e, ending_block i x h e r 0)
events_block names i x h e r (m ∷ events) s other =
    let first = event_lines_block names m i x h e r s.0 (ap (λ b. b && eqb (e + 1) x) other) in
    let others = events_block names i x h (e + 1) (region_of m) events s.1 other in
    (others.0, block_then first others.1)

-- ---- instances

pub head_block : (names : List (List ℕ)) (i x h e p : ℕ) → IsName (name_at names p) → Block i x h e (head_text names p) (h + 1) 0
unfolding head_text
head_block names i x h e p own = record {
  lines = head_of (name_at names p) ∷ [];
  is = simp (append_assoc, append-nil);
  lack = (spaced_lacks (spelled keywords.Instance ∷ semi (name_at names p) ∷ []) (plain_keyword keywords.Instance, (plain_semi (name_at names p) own, tt)), tt);
  skips = λ number rest. head_skip i x h e number (head_of (name_at names p)) rest (head_is (name_at names p));
}

foot_block : (i x h e : ℕ) → Block i x h e foot_text h e
unfolding foot_text lone_line spelled words_of
foot_block i x h e = plain_block i x h e (codes "endinstance;") (lacks_if 10 (codes "endinstance;") refl) refl refl

pub begin_block : (i x h e : ℕ) → Block i x h e begin_text h e
unfolding begin_text chart_name spelled words_of
begin_block i x h e = plain_block i x h e (codes "msc run;") (lacks_if 10 (codes "msc run;") refl) refl refl

-- the names of a line are names
pub record SpelledLine (names : List (List ℕ)) (line : LineView) : Type 0 where
  pub own : IsName (name_at names line.instance)
  pub events : AllByRecursion (Spelled names) line.events

line_block : (names : List (List ℕ)) (i x h e : ℕ) (line : LineView) → SpelledLine names line → eqb (h + 1) i ≡ false → (n : ℕ) × Block i x h e (line_text names line) (h + 1) n
unfolding line_text
line_block names i x h e line s other =
    let events = events_block names i x (h + 1) 0 0 line.events s.events other in
    (events.0, block_then (head_block names i x h e line.instance s.own) (block_then events.1 (foot_block i x (h + 1) events.0)))

-- the instances before the one that is searched for
pub lines_block : (names : List (List ℕ)) (i x h e n : ℕ) (lines : List LineView) → AllByRecursion (SpelledLine names) lines → n ≡ h + length lines → n < i → (k : ℕ) × Block i x h e (flat_map (line_text names) lines) n k
lines_block names i x h e n [] s many short =
    let same : h ≡ n = omega arith in
    (e, subst (λ k. Block i x h e [] k e) same (empty_block i x h e))
lines_block names i x h e n (line ∷ lines) s many short =
    let first = line_block names i x h e line s.0 (ne_eqb (h + 1) i (λ same. omega arith)) in
    let others = lines_block names i x (h + 1) first.0 n lines s.1 (omega arith) short in
    (others.0, block_then first.1 others.1)
