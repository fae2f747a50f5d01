-- What crates above may cite of the lemmas of the kernel's model.
pub use Rattle.kernel_model.proofs.Apart.{IsLawful, IsOlder}
pub use Rattle.kernel_model.proofs.Insertion.{object_words-put}
pub use Rattle.kernel_model.proofs.VersionLaws.{EndsBy, ends_by, length-after_history, length-put_from, newest_words, put-seen, tops, object_words-put_written, written_by}
pub use Rattle.kernel_model.proofs.Points.{found, last_touch-clock, start_lo}
pub use Rattle.kernel_model.proofs.Ordered.{lawful_of}
pub use Rattle.kernel_model.proofs.Theorem.{clock_base, history_added}
pub use Rattle.kernel_model.proofs.RunFacts.{base-sized, fit-runs, history-runs, next_id-bound, with_write-all, written-size, written-with_write}
pub use Rattle.kernel_model.proofs.OpenLaws.{children_order, children_programs, length-children, length-open_tasks, open_order}
pub use Rattle.kernel_model.proofs.Soundness.{still_open}
pub use Rattle.kernel_model.proofs.CoreLaws.{IsAfter, as_before, core_at, durable_commit-idle, durable_commit-none, durable_commit-one, durable_commit-set, finishes, get_or-idle, get_or-replicate_idle, no_commit, no_core, others_commit, run_gives, turned_now, word_gives}
pub use Rattle.kernel_model.proofs.StepLaws.{all_sound, history-step, next_sound, opened_sound, sound-ids}
pub use Rattle.kernel_model.proofs.DurableLaws.{durable_commit-put, no_finish, none_beside, none_made}
pub use Rattle.kernel_model.proofs.ReportLaws.{durable_commit-found}
pub use Rattle.kernel_model.proofs.BaseLaws.{state_left-base, state_left-last}
pub use Rattle.kernel_model.proofs.AloneLaws.{kept_writes, newest, newest-found, room_alone}
pub use Rattle.kernel_model.proofs.RoomLaws.{chosen-all, chosen-met, interval-shrinks, meet-wider, older-ended, starts_after, within-shrinks, writers-older}
pub use Rattle.kernel_model.proofs.NeededLaws.{IsOld, at_needed, needed_at, never_needed_again, older-old}
pub use Rattle.kernel_model.proofs.ChainLaws.{AreFrom, chain-joined, chain-less, chain_kept, chain_of_one, chosen_exists, chosen_from_chain, floor_kept, floor_of_idle, history-joined, needed-floored, not_needed, part_of_chain, room_from_chain, sound-from}
pub use Rattle.kernel_model.proofs.FloorLaws.{floor_needs, live_counts, marks_start}
pub use Rattle.kernel_model.proofs.CutLaws.{interval_cut, read_finds}
pub use Rattle.kernel_model.proofs.LiveLaws.{finish_keeps}
pub use Rattle.kernel_model.proofs.LiveMore.{begin_history, fetch_history, no_marks}
pub use Rattle.kernel_model.proofs.LiveNeeded.{base_chain, begin_chain, core_at_marks, each_version, fetch_chain, finish_chain, finish_history, finish_leaves}
pub use Rattle.kernel_model.proofs.Reached.{history-bound, lines_of-append}
pub use Rattle.kernel_model.proofs.Growth.{reads_kept, task_under-open, writer_found, writers_below}
pub use Rattle.kernel_model.proofs.FirstEvents.{count_reached, one_more, take_one_more}
pub use Rattle.kernel_model.proofs.BoundLaws.{bound_at_clock, bound_next, bound_raised, bound_with, bounds_interval, commit_above, raised_same, touch-follows}
