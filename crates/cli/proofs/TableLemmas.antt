-- Commands that are made word by word.
use Rattle.std.proofs.Common.{◌≡◌, ◌∙◌, ◌+◌, ◌<◌, ◌++◌, ◌||◌, ◌∷◌, [], ℕ, List, true, false, refl, sym, ap, ap₂, arith, map, take, length, get_or, append_assoc, append-nil, add-one, ne_eqb}
use Rattle.std.specs.List.{flat_map}
use Rattle.std.proofs.Math.Seq.{take-suc}
use Rattle.std.proofs.lemmas.List.{map-append}
use Rattle.std.proofs.lemmas.Grind.{flat_map-append}
use Rattle.clap.specs.Built.{AddsArg, AddsSubcommand}
use Rattle.clap.specs.Simple.{app_of_fields, with_rule, with_subcommand}
use Rattle.clap.specs.Walk.{is_empty}
use Rattle.clap.specs.Words.{App, Rule, Shape, Text, app_of, new_app, rule_of}
use Rattle.clap.specs.declared.builder.arg.Arg.{Arg}
use Rattle.clap.specs.declared.builder.command.Command.{Command}
use Rattle.clap.specs.declared.builder.command.Command.TheViews.{out-Command as fields_of}
use Rattle.cli.specs.Reading.{AddsRules, IsProgram}
use Rattle.cli.specs.Tables.{command, leaf, program}

-- the first elements and one more, mapped
pub map_taken : {X Y : Type 0} (f : X → Y) (xs : List X) (i : ℕ) (d : X) → i < length xs → map f (take (i + 1) xs) ≡ map f (take i xs) ++ f (get_or xs i d) ∷ []
map_taken f xs i d lt = rw (add-one, take-suc xs i d lt) (map-append f (take i xs) (get_or xs i d ∷ []))

pub flat_taken : {X Y : Type 0} (f : X → List Y) (xs : List X) (i : ℕ) (d : X) → i < length xs → flat_map f (take (i + 1) xs) ≡ flat_map f (take i xs) ++ f (get_or xs i d)
flat_taken f xs i d lt = rw (add-one, take-suc xs i d lt) (flat_map-append f (take i xs) (get_or xs i d ∷ []) ∙ ap (λ ys. flat_map f (take i xs) ++ ys) (append-nil (f (get_or xs i d))))

pub adds_none : (c : Command) → AddsRules c [] c
adds_none c program is = record {
  app = is.app ∙ ap (λ rules. record program { top = record program.top { rules = rules } }) (sym (append-nil program.top.rules));
  local = is.local;
}

pub adds_more : (old now new : Command) (arg : Arg) (rules : List Rule) (rule : Rule) → AddsRules old rules now → AddsArg now arg new → rule_of arg ≡ rule → arg.global ≡ false
    → AddsRules old (rules ++ rule ∷ []) new
adds_more old now new arg rules rule so_far added is local program made =
    let before = so_far program made in
    record {
      app = added.shape local ∙ ap₂ with_rule before.app is
          ∙ ap (λ all. record program { top = record program.top { rules = all } }) (append_assoc program.top.rules rules (rule ∷ []));
      local = added.globals ∙ ap₂ (λ a b. a || b) before.local local;
    }

not_empty : {X : Type 0} (xs : List X) (x : X) → is_empty (xs ++ x ∷ []) ≡ false
not_empty [] x = refl
not_empty (y ∷ ys) x = ne_eqb _ _ (λ e. omega arith)

pub one_more : (name : Text) (shapes : List Shape) (shape : Shape) (old sub new : Command) → IsProgram old (program name shapes) → IsProgram sub (leaf shape)
    → AddsSubcommand old sub new → IsProgram new (program name (shapes ++ shape ∷ []))
one_more name shapes shape old sub new made leaves added = record {
  app = added.shape leaves.local ∙ ap₂ with_subcommand made.app (ap (λ (a : App). a.top) leaves.app)
      ∙ ap (λ b. record (program name (shapes ++ shape ∷ [])) { top = record (program name (shapes ++ shape ∷ [])).top { is_leaf = b } }) (sym (not_empty shapes shape));
  local = added.globals ∙ ap₂ (λ a b. a || b) made.local leaves.local;
}

-- a new command without its option for help
pub helpless : (new made : Command) (name : Text) → app_of new ≡ new_app name → (fields_of new).has_globals ≡ false → fields_of made ≡ record (fields_of new) { disable_help_flag = true }
    → IsProgram made (leaf (command name []))
helpless new made name is local changed = record {
  app = ap app_of_fields changed ∙ ap (λ (a : App). record a { top = record a.top { disable_help_flag = true } }) is;
  local = ap (λ f. f.has_globals) changed ∙ local;
}

-- a new program, which wants a command, without any option or command for help
pub commanded : (new second third made : Command) (name : Text) → app_of new ≡ new_app name → (fields_of new).has_globals ≡ false
    → fields_of second ≡ record (fields_of new) { disable_help_flag = true }
    → fields_of third ≡ record (fields_of second) { disable_help_subcommand = true }
    → fields_of made ≡ record (fields_of third) { subcommand_required = true }
    → IsProgram made (program name [])
commanded new second third made name is local one two three = record {
  app = ap app_of_fields three
      ∙ ap (λ (a : App). record a { top = record a.top { subcommand_required = true } })
      (ap app_of_fields two ∙ ap (λ (a : App). record a { top = record a.top { disable_help_subcommand = true } })
      (ap app_of_fields one ∙ ap (λ (a : App). record a { top = record a.top { disable_help_flag = true } }) is));
  local = ap (λ f. f.has_globals) three ∙ (ap (λ f. f.has_globals) two ∙ (ap (λ f. f.has_globals) one ∙ local));
}
