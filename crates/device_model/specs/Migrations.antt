-- The writes that make a device of format 2 of one of format 1. This project's own.
use Rattle.std.specs.Prelude.{◌-◌, List, [], ◌∷◌, ◌++◌}
use Rattle.set_model.specs.Sets.{TaskSet}
use Rattle.set_model.specs.Numbers.{words_needed}
use Rattle.device_model.specs.Words.{Change, Words, words_from, written_at}
use Rattle.device_model.specs.Layouts.{Migrated, layout_of, magic_of, need}
use Rattle.device_model.specs.IndexWords.{Index}
use Rattle.device_model.specs.Decoding.{Held}
use Rattle.device_model.specs.Formats.{first_slots, fresh_held, fresh_word}

-- the index that a migration leaves: each object is put in slot 0
abbrev pub moved_index : TaskSet → Index → Index
moved_index set x = record {
  clock = x.clock;
  number = x.number;
  next = x.next;
  last = x.last;
  slots = first_slots set;
  tasks = x.tasks;
}

-- the state that a migration leaves
abbrev pub moved_held : TaskSet → Held → Held
moved_held set h = fresh_held (layout_of Migrated set) (moved_index set h.index) h.objects h.boots

-- the word that a migration leaves at each place behind the old ones
abbrev pub moved_word : TaskSet → Held → Words
moved_word set h = fresh_word (layout_of Migrated set) set (moved_index set h.index) h.objects

-- all but the last write: the root, the pages and the slots behind the old words, in order of place
abbrev pub migration_body : TaskSet → Held → List Change
migration_body set h =
    written_at (words_needed set)
    (words_from (moved_word set h) (words_needed set)
    (need (layout_of Migrated set) set - words_needed set))

-- the writes of a migration: the magic comes last
unfoldable pub migration_writes : TaskSet → Held → List Change
migration_writes set h = migration_body set h ++ (0, magic_of Migrated) ∷ []
