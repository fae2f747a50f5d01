-- A layout tells the places of a device. This project's own.
use Rattle.std.specs.Prelude.{◌≡◌, ◌⊎◌, ℕ, List, ◌-◌, ◌<◌, ◌≤◌, ◌==◌, length, slice_index, if◌then◌else◌}
use Rattle.nv_base.specs.declared.limits.TheConstants.{MAX_SIZE}
use Rattle.set_model.specs.Sets.{TaskSet, object_at}
use Rattle.set_model.specs.Numbers.{first_index, index_words, words_needed}
use Rattle.device_model.specs.Layouts.{Kind, Plain, Paged, Migrated, code_place, copy_place, index_reads, slot_place}
use Rattle.device_model.specs.Devices.{Device, layout_on, need_on}
use Rattle.shadow_index.specs.declared.bounds.TheConstants.{MAX_NEED}
use Rattle.shadow_index.specs.declared.kind.DeviceKind.{DeviceKind}
use Rattle.shadow_index.specs.declared.layout.Layout.{Layout}
use Rattle.shadow_index.specs.Views.{kind_of}
use Rattle.shadow_index.specs.Looks.{looked}

-- the kind of a device by the set's format, and by how far its words were moved
abbrev pub kind_by : (format shift : ℕ) → Kind
kind_by format shift = if format == 1 then Plain else if shift == 0 then Paged else Migrated

-- the device of a set whose words were moved so far
abbrev pub device_of : TaskSet → (shift : ℕ) → Device
device_of set shift = record { kind = kind_by set.format shift; set = set }

-- the device of a set, of a kind
abbrev pub device_by : TaskSet → DeviceKind → Device
device_by set kind = record { kind = kind_of kind; set = set }

-- words are moved by a migration alone, behind those of format 1
abbrev pub IsShift : TaskSet → ℕ → Type 0
IsShift set shift =
    (shift ≡ 0) ⊎ ((set.format ≡ 2) × (shift ≡ words_needed set - first_index set))

-- a table has the place of each program's code
abbrev pub AreCodePlaces : TaskSet → List ℕ → Type 0
AreCodePlaces set places =
    (p : ℕ) → p < length set.programs → slice_index places p ≡ code_place set p

-- a row of a table has the place of an object's first slot, and how far its slots are apart
pub record HasSlots (first size : ℕ) (row : ℕ → ℕ) : Type 0 where
  pub first_is : row 0 ≡ first
  pub size_is : row 1 ≡ size
  pub small : first ≤ MAX_NEED
  pub thin : size ≤ MAX_SIZE

-- its numbers and its tables are those of a device
pub record IsLayoutOf (d : Device) (l : Layout) : Type 0 where
  pub kind : kind_of l.kind ≡ d.kind
  pub need : l.need ≡ need_on d
  pub first : l.first_index ≡ first_index d.set
  pub index : l.index_words ≡ index_words d.set
  pub head : l.head_reads ≡ (layout_on d).head_reads
  pub reads : l.index_reads ≡ index_reads (layout_on d)
  pub root : l.root ≡ (layout_on d).root
  pub pages : l.pages ≡ (layout_on d).pages
  pub page_words : l.page_words ≡ (layout_on d).page_words
  pub page_places : (page copy : ℕ) → page < (layout_on d).pages → copy < 2
      → looked l.page_places page copy ≡ copy_place (layout_on d) page copy 0
  pub slot_places : (o : ℕ) → o < length d.set.objects → HasSlots (slot_place (layout_on d) d.set o 0) (object_at d.set o).size (looked l.slot_places o)
  pub code_places : AreCodePlaces d.set l.code_places
