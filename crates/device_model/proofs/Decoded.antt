-- The images of formats, commits, boots and migrations, by what their words decode to.
use Rattle.std.proofs.Common.{◌≡◌, ℕ, ◌<◌, ◌≤◌, List, length, take, refl}
use Rattle.set_model.specs.Sets.{TaskSet}
use Rattle.set_model.specs.Limits.{IsTaskSet}
use Rattle.device_model.specs.Words.{Words, made}
use Rattle.device_model.specs.Layouts.{IsKindOf, Kind, Plain, Migrated, layout_of, need}
use Rattle.device_model.specs.Decoding.{Held, Blank, Holds, decode_by}
use Rattle.device_model.specs.Keeping.{Keeps}
use Rattle.device_model.specs.Formats.{format_writes, formatted_held}
use Rattle.device_model.specs.Commits.{Commit, IsNext, commit_writes, committed}
use Rattle.device_model.specs.Migrations.{migration_writes, moved_held}
use Rattle.device_model.specs.Journals.{Act, AreNext, booted, boot_writes, held_at, journal}
use Rattle.device_model.proofs.LaidOut.{laid_out_set}
use Rattle.device_model.proofs.KeepsDecodes.{keeps_decodes}
use Rattle.device_model.proofs.DecodesKeeps.{decodes_blank, decodes_keeps}
use Rattle.device_model.proofs.Formatted.{format_blank, format_whole}
use Rattle.device_model.proofs.Committed.{commit_prefix, commit_whole}
use Rattle.device_model.proofs.Migrated.{migration_prefix, migration_whole}
use Rattle.device_model.proofs.Journaled.{boot_whole, journal_image}

pub decoded : (format : ℕ) (kind : Kind) (set : TaskSet) (h : Held) (words : Words) → IsTaskSet set → IsKindOf format kind → Keeps kind set h words → decode_by format set words ≡ Holds kind h
decoded format kind set h words t f k = keeps_decodes format kind set h words f (laid_out_set kind set t) k

pub kept : (format : ℕ) (kind : Kind) (set : TaskSet) (h : Held) (words : Words) → IsTaskSet set → decode_by format set words ≡ Holds kind h → Keeps kind set h words
kept format kind set h words t e = decodes_keeps format kind set h words (λ k. laid_out_set k set t) e

pub blank_format : (format : ℕ) (kind : Kind) (set : TaskSet) (words : Words) (k : ℕ) → IsTaskSet set → 0 < k → k ≤ need (layout_of kind set) set → decode_by format set (made (take k (format_writes (layout_of kind set) set)) words) ≡ Blank
blank_format format kind set words k t a b = decodes_blank format set (made (take k (format_writes (layout_of kind set) set)) words) (format_blank set (layout_of kind set) words k (laid_out_set kind set t) a b)

pub whole_format : (format : ℕ) (kind : Kind) (set : TaskSet) (words : Words) → IsTaskSet set → IsKindOf format kind → decode_by format set (made (format_writes (layout_of kind set) set) words) ≡ Holds kind (formatted_held (layout_of kind set) set)
whole_format format kind set words t f = decoded format kind set _ _ t f (format_whole set (layout_of kind set) words (laid_out_set kind set t) t)

pub cut_commit : (format : ℕ) (kind : Kind) (set : TaskSet) (h : Held) (c : Commit) (words : Words) (k : ℕ) → IsTaskSet set → IsKindOf format kind → IsNext set h c → decode_by format set words ≡ Holds kind h
    → k < length (commit_writes (layout_of kind set) set h c) → decode_by format set (made (take k (commit_writes (layout_of kind set) set h c)) words) ≡ Holds kind h
cut_commit format kind set h c words k t f n e a = decoded format kind set h _ t f (commit_prefix set (layout_of kind set) h c words k (laid_out_set kind set t) n (kept format kind set h words t e) a)

pub whole_commit : (format : ℕ) (kind : Kind) (set : TaskSet) (h : Held) (c : Commit) (words : Words) → IsTaskSet set → IsKindOf format kind → IsNext set h c → decode_by format set words ≡ Holds kind h
    → decode_by format set (made (commit_writes (layout_of kind set) set h c) words) ≡ Holds kind (committed (layout_of kind set) set h c)
whole_commit format kind set h c words t f n e = decoded format kind set _ _ t f (commit_whole set (layout_of kind set) h c words (laid_out_set kind set t) n (kept format kind set h words t e))

pub cut_migration : (set : TaskSet) (h : Held) (words : Words) (k : ℕ) → IsTaskSet set → decode_by 2 set words ≡ Holds Plain h → k < length (migration_writes set h) → decode_by 2 set (made (take k (migration_writes set h)) words) ≡ Holds Plain h
cut_migration set h words k t e a = decoded 2 Plain set h _ t refl (migration_prefix set h words k t (kept 2 Plain set h words t e) a)

pub whole_migration : (set : TaskSet) (h : Held) (words : Words) → IsTaskSet set → decode_by 2 set words ≡ Holds Plain h → decode_by 2 set (made (migration_writes set h) words) ≡ Holds Migrated (moved_held set h)
whole_migration set h words t e = decoded 2 Migrated set _ _ t refl (migration_whole set h words t (kept 2 Plain set h words t e))

pub boot_decodes : (format : ℕ) (kind : Kind) (set : TaskSet) (h : Held) (words : Words) → IsTaskSet set → IsKindOf format kind → decode_by format set words ≡ Holds kind h → decode_by format set (made (boot_writes h) words) ≡ Holds kind (booted h)
boot_decodes format kind set h words t f e = decoded format kind set _ _ t f (boot_whole set (layout_of kind set) h words (laid_out_set kind set t) (kept format kind set h words t e))

pub journal_decodes : (format : ℕ) (kind : Kind) (set : TaskSet) (h : Held) (acts : List Act) (words : Words) (k : ℕ) → IsTaskSet set → IsKindOf format kind → AreNext (layout_of kind set) set h acts → decode_by format set words ≡ Holds kind h
    → decode_by format set (made (take k (journal (layout_of kind set) set h acts)) words) ≡ Holds kind (held_at (layout_of kind set) set h acts k)
journal_decodes format kind set h acts words k t f n e = decoded format kind set _ _ t f (journal_image set (layout_of kind set) h acts words k (laid_out_set kind set t) n (kept format kind set h words t e))

pub goes_on : (format : ℕ) (kind : Kind) (set : TaskSet) (h : Held) (c : Commit) (acts : List Act) (words : Words) (k m : ℕ) → IsTaskSet set → IsKindOf format kind → IsNext set h c → k < length (commit_writes (layout_of kind set) set h c)
    → AreNext (layout_of kind set) set h acts → decode_by format set words ≡ Holds kind h
    → decode_by format set (made (take m (journal (layout_of kind set) set h acts)) (made (take k (commit_writes (layout_of kind set) set h c)) words)) ≡ Holds kind (held_at (layout_of kind set) set h acts m)
goes_on format kind set h c acts words k m t f n a ns e = journal_decodes format kind set h acts (made (take k (commit_writes (layout_of kind set) set h c)) words) m t f ns (cut_commit format kind set h c words k t f n e a)
