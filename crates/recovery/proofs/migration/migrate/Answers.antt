use Rattle.std.proofs.Common.{◌≡◌, ◌⊎◌, inl, inr, ℕ, List, length, ap, ap₂, sym, ◌∙◌, subst}
use Rattle.std.proofs.lemmas.Result.{on_err_weaker, on_ok_weaker}
use Rattle.set_model.specs.Sets.{TaskSet}
use Rattle.device_model.specs.Words.{Change, Words}
use Rattle.device_model.specs.Migrations.{moved_held}
use Rattle.device_model.specs.Devices.{HoldsOn, migrated, plain}
use Rattle.recovery.specs.Images.{words_of}
use Rattle.recovery.specs.Migrating.{IsUnmigrated}
use Rattle.recovery.proofs.MovedState.{at_error, moved_all, moved_or_not, other_holds}
use Rattle.recovery.proofs.migration.migrate.Goals as goal

pub returns-in_err-has_room-clause-refused : goal.returns-in_err-has_room-clause-refused
returns-in_err-has_room-clause-refused g c =
    let set : TaskSet = c.args.set.now in
    let words = words_of (g.F.Fram.log c.args.dev.now) (g.F.Fram.start c.args.dev.now) in
    let named = sym c.in-Ok.ensures.word ∙ c.if-word-magic.true ∙ c.magic.ensures in
    let len : c.len.result ≡ length (g.F.Fram.start c.args.dev.now) = c.len.ensures ∙ ap length c.read.ensures.same in
    at_error c.from_residual.result c.in_err-has_room.field-0.0 (IsUnmigrated set words (length (g.F.Fram.start c.args.dev.now)) (g.F.Fram.lost c.args.dev.now) (g.F.Fram.lost c.read.new.self)) c.from_residual.ensures.1
    (subst (λ (n : ℕ). IsUnmigrated set words n (g.F.Fram.lost c.args.dev.now) (g.F.Fram.lost c.read.new.self) c.in_err-has_room.field-0.0) len (c.in_err-has_room.ensures.small words _ _ (inl named)))

pub returns-in_err-has_room-2-clause-refused : goal.returns-in_err-has_room-2-clause-refused
returns-in_err-has_room-2-clause-refused g c =
    let set : TaskSet = c.args.set.now in
    let words = words_of (g.F.Fram.log c.args.dev.now) (g.F.Fram.start c.args.dev.now) in
    let named = sym c.in-Ok.ensures.word ∙ c.if-word-magic-2.true ∙ c.magic-2.ensures in
    let len : c.len-then-word-magic-2.result ≡ length (g.F.Fram.start c.args.dev.now) = c.len-then-word-magic-2.ensures ∙ ap length c.read.ensures.same in
    at_error c.from_residual-in_err-has_room-2.result c.in_err-has_room-2.field-0.0 (IsUnmigrated set words (length (g.F.Fram.start c.args.dev.now)) (g.F.Fram.lost c.args.dev.now) (g.F.Fram.lost c.read.new.self)) c.from_residual-in_err-has_room-2.ensures.1
    (subst (λ (n : ℕ). IsUnmigrated set words n (g.F.Fram.lost c.args.dev.now) (g.F.Fram.lost c.read.new.self) c.in_err-has_room-2.field-0.0) len (c.in_err-has_room-2.ensures.small words _ _ (inr named)))

pub returns-then-word-magic-clause-moved : goal.returns-then-word-magic-clause-moved
returns-then-word-magic-clause-moved g c =
    let set : TaskSet = c.args.set.now in
    let words = words_of (g.F.Fram.log c.args.dev.now) (g.F.Fram.start c.args.dev.now) in
    let log : List Change = g.F.Fram.log c.read.new.self in
    let new : List Change = g.F.Fram.log c.move_state.new.dev in
    let start : List ℕ = g.F.Fram.start c.read.new.self in
    let same : words_of log start ≡ words = ap₂ words_of c.read.ensures.kept c.read.ensures.same in
    λ h e. on_ok_weaker c.move_state.result
    (λ p. subst (λ (s : List ℕ). HoldsOn (migrated set) (moved_held set h) (words_of new s)) (sym c.move_state.ensures.start)
    (moved_all set h log new start c.format.ensures.limits c.requires.format (subst (λ (w : Words). HoldsOn (plain set) h w) (sym same) e) p.0 p.1))
    c.move_state.ensures.moved

pub returns-then-word-magic-clause-cut : goal.returns-then-word-magic-clause-cut
returns-then-word-magic-clause-cut g c =
    let set : TaskSet = c.args.set.now in
    let words = words_of (g.F.Fram.log c.args.dev.now) (g.F.Fram.start c.args.dev.now) in
    let log : List Change = g.F.Fram.log c.read.new.self in
    let new : List Change = g.F.Fram.log c.move_state.new.dev in
    let start : List ℕ = g.F.Fram.start c.read.new.self in
    let same : words_of log start ≡ words = ap₂ words_of c.read.ensures.kept c.read.ensures.same in
    λ h e. on_err_weaker c.move_state.result
    (λ p. subst (λ (s : List ℕ). HoldsOn (plain set) h (words_of new s) ⊎ HoldsOn (migrated set) (moved_held set h) (words_of new s)) (sym c.move_state.ensures.start)
    (moved_or_not set h log new start _ c.format.ensures.limits c.requires.format (subst (λ (w : Words). HoldsOn (plain set) h w) (sym same) e) p))
    c.move_state.ensures.unwritten

pub returns-then-word-magic-2-clause-moved : goal.returns-then-word-magic-2-clause-moved
returns-then-word-magic-2-clause-moved g c =
    let set : TaskSet = c.args.set.now in
    let words = words_of (g.F.Fram.log c.args.dev.now) (g.F.Fram.start c.args.dev.now) in
    λ h e. other_holds set h words c.in-Ok.word c.magic.result c.if-word-magic.false c.in-Ok.ensures.word c.magic.ensures e

pub returns-clause-moved : goal.returns-clause-moved
returns-clause-moved g c =
    let set : TaskSet = c.args.set.now in
    let words = words_of (g.F.Fram.log c.args.dev.now) (g.F.Fram.start c.args.dev.now) in
    λ h e. other_holds set h words c.in-Ok.word c.magic.result c.if-word-magic.false c.in-Ok.ensures.word c.magic.ensures e
