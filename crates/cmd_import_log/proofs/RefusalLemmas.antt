-- The refusal of a log, from the reason why its chart can't be made.
use Rattle.std.proofs.Common.{◌≡◌, ℕ, List, None, length, refl, sym, ap, ◌∙◌, subst, subst₂, inr}
use Rattle.log_chart.specs.Charts.Building.{IsRefusalOf}
use Rattle.log_chart.specs.declared.charts.building.BuildError.{BuildError}
use Rattle.log_chart.specs.declared.charts.building.BuildError.TheVariants.{Memory, Instances, LineFull}
use Rattle.log_lines.specs.Names.Naming.{NamedView}
use Rattle.log_chart.specs.declared.entry.Entry.{Entry}
use Rattle.cmd_import_log.specs.Imported.{refusal_of, IsOfAmong, IsRefused}
use Rattle.cmd_import_log.specs.Entries.{entries_in, names_in, fault_in}
use Rattle.cmd_import_log.specs.declared.error.LogImportError.{LogImportError}
use Rattle.cmd_import_log.proofs.CountLemmas.{first_up_to}

-- the instance that the refusal names is one of the hosts
pub of_among : (hosts : ℕ) (old new : List Entry) (e : BuildError) → IsRefusalOf hosts old new e → IsOfAmong hosts e
of_among hosts old new Memory refused = tt
of_among hosts old new Instances refused = tt
of_among hosts old new (LineFull p) refused = first_up_to hosts new p refused.1

-- lines without a fault are refused like their entries
pub refused_by : (n : NamedView) (new : List Entry) (e : BuildError) → fault_in n ≡ None → IsRefusalOf (length (names_in n)) (entries_in n) new e → IsRefused n (refusal_of (names_in n) e)
refused_by n new Memory faultless refused = tt
refused_by n new Instances faultless refused = inr (faultless, refused)
refused_by n new (LineFull p) faultless refused = (faultless, record { settled = new; settles = refused.0; instance = p; is_first = refused.1; named = refl })

-- the same, if equations state names, hosts and entries
pub refused_as : (n : NamedView) (names : List (List ℕ)) (hosts : ℕ) (old new : List Entry) (e : BuildError) (r : LogImportError) → names ≡ names_in n → hosts ≡ length names → old ≡ entries_in n
    → fault_in n ≡ None → r ≡ refusal_of names e → IsRefusalOf hosts old new e → IsRefused n r
refused_as n names hosts old new e r is whole entries faultless its refused =
    subst (IsRefused n) (sym (its ∙ ap (λ l. refusal_of l e) is)) (refused_by n new e faultless (subst₂ (λ (h : ℕ) (o : List Entry). IsRefusalOf h o new e) (whole ∙ ap length is) entries refused))

pub among_as : (names : List (List ℕ)) (hosts : ℕ) (old new : List Entry) (e : BuildError) → hosts ≡ length names → IsRefusalOf hosts old new e → IsOfAmong (length names) e
among_as names hosts old new e whole refused = subst (λ h. IsOfAmong h e) whole (of_among hosts old new e refused)
