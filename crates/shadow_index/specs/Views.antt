-- What the types of this crate are in the definitions. This project's own.
use Rattle.std.specs.Prelude.{ℕ, ◌+◌, ◌==◌, if◌then◌else◌}
use Rattle.device_model.specs.Layouts.{Kind, Plain, Paged, Migrated}
use Rattle.shadow_index.specs.declared.kind.DeviceKind as own
use Rattle.shadow_index.specs.declared.kind.DeviceKind.TheVariants as kind

abbrev pub kind_of : own.DeviceKind → Kind
kind_of kind.Plain = Plain
kind_of kind.Paged = Paged
kind_of kind.Migrated = Migrated

-- the kind of a device that no migration wrote, by the format of its set
abbrev pub first_kind : (format : ℕ) → Kind
first_kind format = if format == 1 then Plain else Paged

-- how many words are read before the pages, by how many the header has
abbrev pub heads : Kind → ℕ → ℕ
heads Plain first = first
heads Paged first = first + 1
heads Migrated first = first + 1
