-- What a format, or a migration, made of the log, whole or cut.
use Rattle.std.proofs.Common.{◌≡◌, ◌⊎◌, ◌-◌, List, [], ◌∷◌, ◌++◌, ap, sym, subst}
use Rattle.std.proofs.lemmas.List.{append-nil}
use Rattle.set_model.specs.Sets.{TaskSet}
use Rattle.set_model.specs.Numbers.{words_needed}
use Rattle.device_model.specs.Words.{Change}
use Rattle.device_model.specs.Layouts.{Kind, Migrated, magic_of}
use Rattle.device_model.specs.Decoding.{Held}
use Rattle.device_model.specs.Formats.{format_word, format_writes}
use Rattle.device_model.specs.Migrations.{migration_writes, moved_word}
use Rattle.device_model.specs.Devices.{Device, format_on, layout_on, migrated, need_on}
use Rattle.shadow_index.specs.declared.layout.Layout.{Layout}
use Rattle.shadow_index.specs.Tells.{IsLayoutOf}
use Rattle.device_format.specs.Puts.{HasFront, HasPut, HasPutFront, puts}
use Rattle.device_format.specs.Shown.{IsTable, device_in}
use Rattle.device_format.proofs.Whole.{all_writes, front_first, front_last, front_middle}

-- ---- a table of places

pub table_of : (d : Device) (places : Layout) → IsLayoutOf d places → IsTable d.set places
table_of d places h = subst (λ (k : Kind). IsLayoutOf (record { kind = k; set = d.set }) places) (sym h.kind) h

pub same_device : (d : Device) (places : Layout) → IsLayoutOf d places → device_in d.set places ≡ d
same_device d places h = ap (λ (k : Kind). let e : Device = record { kind = k; set = d.set } in e) h.kind

-- ---- a format

pub format_whole : (d : Device) (a b c z : List Change) → b ≡ a ++ (0, 0) ∷ [] → HasPut (format_word (layout_on d) d.set) 1 (need_on d - 1) b c → z ≡ c ++ (0, (layout_on d).magic) ∷ [] → z ≡ a ++ format_on d
unfolding format_writes puts
format_whole d a b c z h k l = all_writes (format_word (layout_on d) d.set) 1 (need_on d - 1) ((0, 0) ∷ []) (0, (layout_on d).magic) a b c z h k l

pub format_begun : (d : Device) (a b : List Change) → (b ≡ a) ⊎ (b ≡ a ++ (0, 0) ∷ []) → HasFront (format_on d) a b
unfolding format_writes puts
format_begun d a b h = front_first (format_word (layout_on d) d.set) 1 (need_on d - 1) (0, 0) (0, (layout_on d).magic) a b h

pub format_cut : (d : Device) (a b c : List Change) → b ≡ a ++ (0, 0) ∷ [] → HasPutFront (format_word (layout_on d) d.set) 1 (need_on d - 1) b c → HasFront (format_on d) a c
unfolding format_writes puts
format_cut d a b c h k = front_middle (format_word (layout_on d) d.set) 1 (need_on d - 1) ((0, 0) ∷ []) (0, (layout_on d).magic) a b c h k

pub format_ending : (d : Device) (a b c z : List Change) → b ≡ a ++ (0, 0) ∷ [] → HasPut (format_word (layout_on d) d.set) 1 (need_on d - 1) b c → (z ≡ c) ⊎ (z ≡ c ++ (0, (layout_on d).magic) ∷ []) → HasFront (format_on d) a z
unfolding format_writes puts
format_ending d a b c z h k l = front_last (format_word (layout_on d) d.set) 1 (need_on d - 1) ((0, 0) ∷ []) (0, (layout_on d).magic) a b c z h k l

-- ---- a migration

pub migration_whole : (set : TaskSet) (h : Held) (a c z : List Change) → HasPut (moved_word set h) (words_needed set) (need_on (migrated set) - words_needed set) a c → z ≡ c ++ (0, magic_of Migrated) ∷ [] → z ≡ a ++ migration_writes set h
unfolding migration_writes puts
migration_whole set h a c z k l = all_writes (moved_word set h) (words_needed set) (need_on (migrated set) - words_needed set) [] (0, magic_of Migrated) a a c z (sym (append-nil a)) k l

pub migration_cut : (set : TaskSet) (h : Held) (a c : List Change) → HasPutFront (moved_word set h) (words_needed set) (need_on (migrated set) - words_needed set) a c → HasFront (migration_writes set h) a c
unfolding migration_writes puts
migration_cut set h a c k = front_middle (moved_word set h) (words_needed set) (need_on (migrated set) - words_needed set) [] (0, magic_of Migrated) a a c (sym (append-nil a)) k

pub migration_ending : (set : TaskSet) (h : Held) (a c z : List Change) → HasPut (moved_word set h) (words_needed set) (need_on (migrated set) - words_needed set) a c → (z ≡ c) ⊎ (z ≡ c ++ (0, magic_of Migrated) ∷ []) → HasFront (migration_writes set h) a z
unfolding migration_writes puts
migration_ending set h a c z k l = front_last (moved_word set h) (words_needed set) (need_on (migrated set) - words_needed set) [] (0, magic_of Migrated) a a c z (sym (append-nil a)) k l
