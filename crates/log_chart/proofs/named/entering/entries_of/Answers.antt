use Rattle.std.proofs.Common.{◌≡◌, ◌≤◌, ◌++◌, ℕ, List, None, length, sym, ap, ap₂, ◌∙◌, subst, arith}
use Rattle.std.specs.Prelude.{IfErr}
use Rattle.chart.specs.declared.instance.TheConstants.{MAX_INSTANCES}
use Rattle.log_chart.specs.Entries.{HaveStreams}
use Rattle.log_chart.specs.declared.entry.Entry.{Entry}
use Rattle.log_chart.specs.Named.Entering.{Before, with_word, entries_from, hosts_from}
use Rattle.log_chart.specs.Cycles.Freeing.{AreAmong, HaveLanes}
use Rattle.log_chart.specs.Named.Faults.{first_fault, fault_of, IsRefusal, IsHostRefusal}
use Rattle.log_chart.specs.Named.Logs.{before_of, begun, IsRefusalOf}
use Rattle.log_chart.proofs.NamedLemmas.EntryLemmas.{words_more, begun_is, hosts_more, entries_more, hosts_end, entries_end, have_streams, are_among}
use Rattle.log_chart.proofs.NamedLemmas.FaultLemmas.{err_is, fault_says, host_refused, faults_more, refused_here, faults_end, faultless}
use Rattle.log_chart.proofs.NamedLemmas.StreamLemmas.{have_lanes}
use Rattle.log_chart.proofs.named.entering.entries_of.Goals as goal

pub loop-host-init : goal.loop-host-init
loop-host-init c = record { hosts = c.new.ensures; names = c.new-2.ensures.empty; streams = c.new-3.ensures.empty; entries = c.new-4.ensures.items; few = let none = ap length c.new.ensures in omega (arith, none) }

pub loop-host-preserved : goal.loop-host-preserved
loop-host-preserved c = record {
  hosts =
      c.in_ok-host_in.ensures.kept
      ∙ ap (λ (l : List (List ℕ)). with_word l c.host-item.result) c.loop-host.invariant.hosts
      ∙ words_more c.args.hosts.now c.loop-host.host-index c.host-item.result c.loop-host-test.true c.host-item.is;
  names = c.loop-host.invariant.names;
  streams = c.loop-host.invariant.streams;
  entries = c.loop-host.invariant.entries;
  few = c.in_ok-host_in.ensures.few;
}

-- a host is one too many
pub returns-in_err-host_in-clause-first : goal.returns-in_err-host_in-clause-first
returns-in_err-host_in-clause-first c =
    subst (λ r. IfErr r (IsRefusal (fault_of c.args.hosts.now c.args.lines.now))) (sym (err_is c.from_residual.result c.in_err-host_in.field-0.0 c.from_residual.ensures.1))
    (host_refused c.args.hosts.now c.args.lines.now c.loop-host.host-index c.host-item.result c.loop-host-test.true c.host-item.is c.in_err-host_in.field-0.0
    (subst (λ l. IsHostRefusal l c.host-item.result c.in_err-host_in.field-0.0) c.loop-host.invariant.hosts c.in_err-host_in.ensures.refused))

pub returns-in_err-host_in-clause-refused : goal.returns-in_err-host_in-clause-refused
returns-in_err-host_in-clause-refused c =
    subst (λ r. IfErr r (IsRefusalOf c.args.hosts.now c.args.lines.now)) (sym (err_is c.from_residual.result c.in_err-host_in.field-0.0 c.from_residual.ensures.1))
    (fault_says c.args.hosts.now c.args.lines.now c.in_err-host_in.field-0.0
    (host_refused c.args.hosts.now c.args.lines.now c.loop-host.host-index c.host-item.result c.loop-host-test.true c.host-item.is c.in_err-host_in.field-0.0
    (subst (λ l. IsHostRefusal l c.host-item.result c.in_err-host_in.field-0.0) c.loop-host.invariant.hosts c.in_err-host_in.ensures.refused)))

pub loop-line-init : goal.loop-line-init
loop-line-init c =
    let r = c.loop-host.reading in
    let same : before_of r ≡ begun c.args.hosts.now =
    begun_is r.hosts c.args.hosts.now c.loop-host.host-index r.names.keys r.streams.keys c.loop-host.invariant.hosts c.loop-host-test.false c.loop-host.invariant.names c.loop-host.invariant.streams in
    record {
      hosts = ap (λ (b : Before). hosts_from b c.args.lines.now) same;
      entries = ap₂ (λ (l : List Entry) (b : Before). l ++ entries_from b c.args.lines.now) c.loop-host.invariant.entries same;
      few = c.loop-host.invariant.few;
      first = subst (λ (b : Before). length b.hosts ≤ MAX_INSTANCES) same c.loop-host.invariant.few;
      faults = ap (λ (b : Before). first_fault b c.args.lines.now) same;
    }

pub loop-line-preserved : goal.loop-line-preserved
loop-line-preserved c =
    let lines = c.args.lines.now in
    let n = c.loop-line.line-index in
    let b = before_of c.loop-line.reading in
    let after = before_of c.add.new.self in
    record {
      hosts = hosts_more lines n c.line-item.result c.loop-line-test.true c.line-item.is b after c.in_ok-add.ensures.before ∙ c.loop-line.invariant.hosts;
      entries =
          entries_more lines n c.line-item.result c.loop-line-test.true c.line-item.is b after c.in_ok-add.ensures.before c.loop-line.reading.entries.items c.add.new.self.entries.items
          c.in_ok-add.ensures.entry
          ∙ c.loop-line.invariant.entries;
      few = c.in_ok-add.ensures.few;
      first = c.loop-line.invariant.first;
      faults =
          faults_more lines n c.line-item.result c.loop-line-test.true c.line-item.is b after c.in_ok-add.ensures.before c.in_ok-add.ensures.faultless
          ∙ c.loop-line.invariant.faults;
    }

-- the first line with a fault
pub returns-in_err-add-clause-first : goal.returns-in_err-add-clause-first
returns-in_err-add-clause-first c =
    subst (λ r. IfErr r (IsRefusal (fault_of c.args.hosts.now c.args.lines.now))) (sym (err_is c.from_residual-in_err-add.result c.in_err-add.field-0.0 c.from_residual-in_err-add.ensures.1))
    (refused_here c.args.lines.now c.loop-line.line-index c.line-item.result c.loop-line-test.true c.line-item.is (before_of c.loop-line.reading) c.args.hosts.now c.loop-line.invariant.first
    c.loop-line.invariant.faults c.in_err-add.field-0.0 c.in_err-add.ensures.refused)

pub returns-in_err-add-clause-refused : goal.returns-in_err-add-clause-refused
returns-in_err-add-clause-refused c =
    subst (λ r. IfErr r (IsRefusalOf c.args.hosts.now c.args.lines.now)) (sym (err_is c.from_residual-in_err-add.result c.in_err-add.field-0.0 c.from_residual-in_err-add.ensures.1))
    (fault_says c.args.hosts.now c.args.lines.now c.in_err-add.field-0.0
    (refused_here c.args.lines.now c.loop-line.line-index c.line-item.result c.loop-line-test.true c.line-item.is (before_of c.loop-line.reading) c.args.hosts.now c.loop-line.invariant.first
    c.loop-line.invariant.faults c.in_err-add.field-0.0 c.in_err-add.ensures.refused))

pub returns : goal.returns
returns c =
    let hosts = c.args.hosts.now in
    let lines = c.args.lines.now in
    let n = c.loop-line.line-index in
    let b = before_of c.loop-line.reading in
    let names : c.loop-line.reading.hosts ≡ hosts_from (begun hosts) lines = sym (hosts_end b lines n c.loop-line-test.false) ∙ c.loop-line.invariant.hosts in
    let entries : c.loop-line.reading.entries.items ≡ entries_from (begun hosts) lines =
    sym (entries_end b c.loop-line.reading.entries.items lines n c.loop-line-test.false) ∙ c.loop-line.invariant.entries in
    let none : first_fault (begun hosts) lines ≡ None = sym c.loop-line.invariant.faults ∙ faults_end b lines n c.loop-line-test.false in
    record {
      names = names;
      entries = entries;
      lanes = subst HaveLanes (sym entries) (have_lanes hosts lines);
      faultless = faultless hosts lines c.loop-line.invariant.first none;
      first = tt;
      refused = tt;
      streams = subst HaveStreams (sym entries) (have_streams hosts lines);
      among =
          subst (λ (l : List Entry). AreAmong (length c.loop-line.reading.hosts) l) (sym entries)
          (subst (λ (m : List (List ℕ)). AreAmong (length m) (entries_from (begun hosts) lines)) (sym names) (are_among hosts lines none));
    }
