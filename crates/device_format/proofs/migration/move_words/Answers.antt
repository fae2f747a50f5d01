use Rattle.std.proofs.Common.{◌≡◌, ap, ◌∙◌}
use Rattle.std.proofs.lemmas.Result.{on_err_weaker, on_ok_weaker}
use Rattle.set_model.specs.Sets.{TaskSet}
use Rattle.device_model.specs.Layouts.{Migrated, magic_of}
use Rattle.device_model.specs.Devices.{migrated}
use Rattle.device_format.proofs.FormatLogs.{migration_cut, migration_ending, migration_whole}
use Rattle.device_format.proofs.Putting.{at_err, last_or_none, last_word}
use Rattle.device_format.proofs.migration.move_words.Goals as goal

pub returns-in_err-put_moved-clause-front : goal.returns-in_err-put_moved-clause-front
returns-in_err-put_moved-clause-front g c =
    λ h m. at_err c.from_residual.result (migration_cut c.args.set.now h _ _ (c.in_err-put_moved.ensures.front h m))

pub returns-clause-whole : goal.returns-clause-whole
returns-clause-whole g c =
    let set : TaskSet = c.args.set.now in
    let magic : c.magic.result ≡ magic_of Migrated = c.magic.ensures ∙ ap magic_of (c.kind.ensures (migrated set) c.of_kind-places.ensures) in
    λ h m. on_ok_weaker c.write.result (λ k. migration_whole set h _ _ _ (c.in_ok-put_moved.ensures.put h m) (last_word 0 _ _ _ _ magic k)) c.write.ensures.written

pub returns-clause-front : goal.returns-clause-front
returns-clause-front g c =
    let set : TaskSet = c.args.set.now in
    let magic : c.magic.result ≡ magic_of Migrated = c.magic.ensures ∙ ap magic_of (c.kind.ensures (migrated set) c.of_kind-places.ensures) in
    λ h m. on_err_weaker c.write.result (λ k. migration_ending set h _ _ _ (c.in_ok-put_moved.ensures.put h m) (last_or_none 0 _ _ _ _ magic k)) c.write.ensures.either
