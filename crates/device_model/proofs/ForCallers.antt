-- What crates above may cite of the lemmas on the device's words.
pub use Rattle.device_model.proofs.Writes.{image_by_place, length-words_from, length-written, made-append, word_from, words_are}
pub use Rattle.device_model.proofs.PlaceLaws.{before-more, before-total, before-zero, slot_place-high}
pub use Rattle.device_model.proofs.InRange.{read-low}
pub use Rattle.device_model.proofs.IndexBack.{fault-same}
pub use Rattle.device_model.proofs.LaidOut.{laid_out_set}
pub use Rattle.device_model.proofs.KeepsDecodes.{index-read, keeps_decodes, magic-is}
pub use Rattle.device_model.proofs.DecodesKeeps.{decodes_blank, decodes_damaged, decodes_held, decodes_keeps, decodes_other, held_fits}
pub use Rattle.device_model.proofs.Journaled.{boot_whole}
pub use Rattle.device_model.proofs.Decoded.{boot_decodes, kept}
pub use Rattle.device_model.proofs.Formatted.{formatted_fits}
pub use Rattle.device_model.proofs.Steps.{fit_index}
pub use Rattle.device_model.proofs.Counts.{counted_turns, fit_on, length-commit, plain_sizes}
pub use Rattle.device_model.proofs.UnderWay.{begins, by-order, by-writes, by-written, cut, ends, one_more}
pub use Rattle.device_model.proofs.SlotWrites.{early-write, get-written, late-place, words-other, words-out, words-set}
pub use Rattle.device_model.proofs.HeaderLaws.{header-code, header-object, header-program, length-header}
pub use Rattle.device_model.proofs.IndexLists.{front, word-count, word-slot, word-task}
pub use Rattle.device_model.proofs.IndexReading.{words_tell}
pub use Rattle.device_model.proofs.Tests.{five, nine}
pub use Rattle.device_model.proofs.Fresh.{first_slot, fresh-page, fresh-root, fresh-slot, page_word, size_fits, slot_word, two_slots}
