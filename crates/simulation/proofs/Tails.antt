-- What is read back at a state of a run is what is durable then.
use Rattle.std.proofs.Common.{◌≡◌, ℕ, sym, ap, ◌∙◌, subst}
use Rattle.rv_core.specs.State.{MachineState}
use Rattle.kernel_model.specs.Events.{State}
use Rattle.kernel_model.specs.Durable.{Durable, listed, state_left}
use Rattle.set_model.specs.Sets.{TaskSet}
use Rattle.device_model.specs.Words.{Words}
use Rattle.device_model.specs.IndexWords.{base_of}
use Rattle.device_model.specs.Decoding.{Held, decode, durable_of}
use Rattle.device_model.specs.Decoding as stored
use Rattle.device_model.specs.Devices.{Device, HoldsOn}
use Rattle.shadow_index.specs.declared.state.State as own_state
use Rattle.recovery.specs.Images.{device_at}
use Rattle.recovery.specs.Reading.{IsRead}
use Rattle.report_text.specs.Report.{end_part}
use Rattle.headline.specs.Runs.{Origin}
use Rattle.headline.specs.Images.{Decodes}
use Rattle.kernel_core.specs.Events.{IsAt}
use Rattle.kernel_core.specs.declared.kernel.Kernel.{Kernel}
use Rattle.simulation.specs.Runs.{read_at, read_text}

abbrev pub OneLaw : Type 0
OneLaw = (d : Device) (g h : Held) (words : Words) → HoldsOn d g words → HoldsOn d h words → g ≡ h

read_here : (o : Origin) (set : TaskSet) (words : Words) (s : State MachineState) (into : own_state.State) → OneLaw → device_at set words ≡ o.device → Decodes o words s → IsRead set words into → read_text set words ≡ end_part set (state_left o.base (listed s)) s.boots
read_here o set words s into once at d r =
    let holds = subst (λ (e : Device). HoldsOn e (read_at set words) words) at r.held in
    let same = once o.device (read_at set words) d.held words holds d.holds in
    ap (λ (h : Held). end_part set (base_of h.index h.objects) h.boots) same ∙ ap (λ (x : Durable). end_part set x.state x.boots) d.durable_is

pub read_same : (o : Origin) (k : Kernel) (words : Words) (s : State MachineState) (set : TaskSet) (into : own_state.State) → OneLaw → (IsAt o k words s → Decodes o words s) → IsAt o k words s → set ≡ k.set → IsRead set words into
    → read_text set words ≡ end_part o.device.set (state_left o.base (listed s)) s.boots
read_same o k words s set into once durable a same r =
    let at : device_at set words ≡ o.device = ap (λ (x : TaskSet). device_at x words) same ∙ a.device in
    let sets : set ≡ o.device.set = same ∙ ap (λ (d : Device). d.set) a.device in
    read_here o set words s into once at (durable a) r ∙ ap (λ (x : TaskSet). end_part x (state_left o.base (listed s)) s.boots) sets

-- so the words are read
pub never_blank : (o : Origin) (words : Words) (s : State MachineState) (set : TaskSet) → Decodes o words s → set ≡ o.device.set → decode set words ≡ stored.Blank → ⊥
never_blank o words s set d same e = let held : stored.Holds _ _ ≡ stored.Blank = sym d.holds ∙ ap (λ (x : TaskSet). decode x words) (sym same) ∙ e in cc held

pub never_damaged : (o : Origin) (words : Words) (s : State MachineState) (set : TaskSet) (place : ℕ) → Decodes o words s → set ≡ o.device.set → decode set words ≡ stored.Damaged place → ⊥
never_damaged o words s set place d same e = let held : stored.Holds _ _ ≡ stored.Damaged place = sym d.holds ∙ ap (λ (x : TaskSet). decode x words) (sym same) ∙ e in cc held
