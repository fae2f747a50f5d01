-- A kernel at a state of a run is at the next one after each event.
use Rattle.std.proofs.Common.{◌≡◌, ◌≤◌, List, length, map, refl, sym, ap, ◌∙◌, subst, arith}
use Rattle.std.specs.Option.{option_or}
use Rattle.std.proofs.lemmas.List.{length-map}
use Rattle.rv_core.specs.State.{MachineState}
use Rattle.nv_base.specs.declared.lines.Line.{Line}
use Rattle.kernel_model.specs.Events.{State}
use Rattle.kernel_model.specs.Durable.{event_writes}
use Rattle.kernel_model.specs.Report.{unprinted}
use Rattle.kernel_model.specs.Items.{listing}
use Rattle.kernel_model.proofs.Reruns.{length-listing}
use Rattle.power_trace.specs.Events.{event_of}
use Rattle.power_trace.specs.declared.event.Event.{Event}
use Rattle.set_model.specs.Sets.{TaskSet}
use Rattle.set_model.specs.Views.{entry_if, entry_of, line_of}
use Rattle.device_model.specs.Words.{Change, Words}
use Rattle.device_model.specs.Devices.{Device, IsKindOn, layout_on}
use Rattle.headline.specs.Runs.{Origin}
use Rattle.headline.specs.Images.{Decodes, HasGrown}
use Rattle.table_machine.specs.Tables.{Tables}
use Rattle.table_machine.specs.Events.{Answer, table_step}
use Rattle.table_machine.specs.Represents.{Represents}
use Rattle.table_machine.specs.Configurations.{Configuration}
use Rattle.table_machine.proofs.EachImage.{holding_decodes, holds, tables_tell}
use Rattle.recovery.specs.Images.{device_at}
use Rattle.recovery.proofs.ShiftLaws.{held_device}
use Rattle.vol_copy.specs.Turns.{setting_of}
use Rattle.kernel_core.specs.Commits.{setting_on}
use Rattle.kernel_core.specs.Keeping.{IsLawful, Keeps}
use Rattle.kernel_core.specs.Steps.{KeepsSet}
use Rattle.kernel_core.specs.Turns.{HasMade}
use Rattle.kernel_core.specs.Events.{IsAt, IsEvent, state_by}
use Rattle.kernel_core.specs.Failures.{whole_in}
use Rattle.kernel_core.specs.declared.kernel.Kernel.{Kernel}
use Rattle.kernel_core.proofs.Failing.{configuration, represented, told_now}
use Rattle.kernel_core.proofs.Represented.{setting_fits, simulated}

-- the state is lawful
abbrev pub lawful_at : (o : Origin) (k : Kernel) (words : Words) (s : State MachineState) → (a : IsAt o k words s) → IsLawful k words a.tables
lawful_at o k words s a = record {
  base = o.base;
  last = o.last;
  state = s;
  represented = subst (λ (d : Device). Represents (setting_of d.set (layout_on d)) o.base o.last a.tables words s) (sym a.device) a.represented;
  kind = subst IsKindOn (sym a.device) a.kind;
  ids = a.ids;
  numbers = a.numbers;
  room = a.room;
}

-- a run on the device that some words are of
abbrev run_on : Origin → Device → Origin
run_on o d = record { device = d; base = o.base; last = o.last; boots = o.boots; power = o.power }

-- words on which tables stand for a state hold what is durable in it
decodes_there : (o : Origin) (k : Kernel) (words later : Words) (t u : Tables MachineState) (s : State MachineState) → Keeps k words t → (l : IsLawful k words t) → Represents (setting_on k.set words) o.base o.last u later s → Decodes (run_on o (device_at k.set words)) later s
decodes_there o k words later t u s h l r =
    let d = device_at k.set words in
    let fit = setting_fits k.set words h.limits in
    let c : Configuration MachineState = record { setting = setting_on k.set words; base = o.base; last = o.last; tables = u; words = later; state = s } in
    let g = holding_decodes k.set.format d.kind c later s fit refl l.kind (holds c (record { setting = fit; represents = r })) in
    record { held = g.0; holds = g.1; durable_is = g.2 }

pub at_decodes : (o : Origin) (k : Kernel) (words : Words) (s : State MachineState) → IsAt o k words s → Decodes o words s
at_decodes o k words s a =
    let l = lawful_at o k words s a in
    subst (λ (d : Device). Decodes (run_on o d) words s) a.device (decodes_there o k words words a.tables a.tables s a.keeps l l.represented)

-- an event on the device that the words are of
event_there : (o : Origin) (k new : Kernel) (words later : Words) (s : State MachineState) (e : Event) (log grown : List Change) (line : Line) → (a : IsAt o k words s) → KeepsSet k new
    → (let r = table_step (setting_on k.set words) words a.tables (event_of e) in
    Keeps new later r.tables → length new.listing.items ≤ new.room → line_of line ≡ r.line → HasMade r.writes words later log grown
    → IsEvent (run_on o (device_at k.set words)) s e new later log grown line)
event_there o k new words later s e log grown line a same kept few tells made =
    let x = setting_on k.set words in
    let d = device_at k.set words in
    let t = a.tables in
    let l = lawful_at o k words s a in
    let r : Answer MachineState = table_step x words t (event_of e) in
    let next : State MachineState = state_by (run_on o d) s e in
    let sim = simulated k words t (event_of e) a.keeps.limits l in
    let stands : Represents x o.base o.last r.tables later next = subst (λ (w : Words). Represents x o.base o.last r.tables w next) (sym made.words_are) sim.state in
    let g = decodes_there o k words later t r.tables next a.keeps l stands in
    let device : device_at k.set later ≡ d = held_device d g.held later g.holds in
    let listed : length next.history ≤ k.room =
    let m = sym (length-listing next.history) ∙ ap length (sym (tables_tell x o.base o.last r.tables later next stands).2) ∙ ap length kept.entries ∙ length-map new.listing.items entry_of in
    let room = same.room in
    omega (arith, m, room, few) in
    record {
      next = record {
        device = ap (λ (set : TaskSet). device_at set later) same.set ∙ device;
        kind = l.kind;
        tables = r.tables;
        keeps = kept;
        represented = stands;
        ids = let room = same.room in let i = a.ids in omega (arith, room, i);
        numbers = let room = same.room in let n = a.numbers in omega (arith, room, n);
        room = let room = same.room in omega (arith, room, listed);
      };
      tells = tells ∙ sim.line;
      written = (r.writes, made.logged, sim.writes);
    }

pub event_at : (o : Origin) (k new : Kernel) (words later : Words) (s : State MachineState) (e : Event) (log grown : List Change) (line : Line) → (a : IsAt o k words s) → KeepsSet k new
    → (let r = table_step (setting_on k.set words) words a.tables (event_of e) in
    Keeps new later r.tables → length new.listing.items ≤ new.room → line_of line ≡ r.line → HasMade r.writes words later log grown
    → IsEvent o s e new later log grown line)
event_at o k new words later s e log grown line a same kept few tells made =
    subst (λ (d : Device). IsEvent (run_on o d) s e new later log grown line) a.device (event_there o k new words later s e log grown line a same kept few tells made)

-- a call was lost, and its writes are made
pub cut_at : (o : Origin) (k : Kernel) (words later : Words) (s : State MachineState) (e : Event) (log grown : List Change) → (a : IsAt o k words s)
    → HasMade (table_step (setting_on k.set words) words a.tables (event_of e)).writes words later log grown
    → HasGrown log grown (event_writes s (event_of e)) × Decodes o later (state_by o s e)
cut_at o k words later s e log grown a made =
    let x = setting_on k.set words in
    let d = device_at k.set words in
    let l = lawful_at o k words s a in
    let r : Answer MachineState = table_step x words a.tables (event_of e) in
    let sim = simulated k words a.tables (event_of e) a.keeps.limits l in
    let next : State MachineState = state_by (run_on o d) s e in
    let stands : Represents x o.base o.last r.tables later next = subst (λ (w : Words). Represents x o.base o.last r.tables w next) (sym made.words_are) sim.state in
    ((r.writes, made.logged, sim.writes), subst (λ (d : Device). Decodes (run_on o d) later (state_by (run_on o d) s e)) a.device (decodes_there o k words later a.tables r.tables next a.keeps l stands))

-- ---- what the tables tell of the state

-- what no line has told
pub untold_at : (o : Origin) (k : Kernel) (words : Words) (s : State MachineState) → IsAt o k words s → entry_if (option_or (whole_in k.seats.items) k.owed) ≡ unprinted s
untold_at o k words s a =
    sym (told_now k words a.tables a.keeps) ∙ (tables_tell (setting_of o.device.set (layout_on o.device)) o.base o.last a.tables words s a.represented).3

-- the listing
pub listed_at : (o : Origin) (k : Kernel) (words : Words) (s : State MachineState) → IsAt o k words s → map entry_of k.listing.items ≡ listing s.history
listed_at o k words s a = sym a.keeps.entries ∙ (tables_tell (setting_of o.device.set (layout_on o.device)) o.base o.last a.tables words s a.represented).2

-- the count of boots
pub boots_at : (o : Origin) (k : Kernel) (words : Words) (s : State MachineState) → IsAt o k words s → words 2 ≡ s.boots
boots_at o k words s a =
    let l = lawful_at o k words s a in
    let g = holds (configuration k words a.tables l) (represented k words a.tables a.keeps l) in
    g.keeps.boots ∙ ap (λ d. d.boots) g.is_durable
