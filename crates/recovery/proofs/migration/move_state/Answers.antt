use Rattle.std.proofs.Common.{◌≡◌, List, ◌++◌, inr, refl, ap, ap₂, sym, ◌∙◌, subst}
use Rattle.set_model.specs.Sets.{TaskSet}
use Rattle.device_model.specs.Words.{Change}
use Rattle.device_model.specs.Decoding.{Held}
use Rattle.device_model.specs.Migrations.{migration_writes}
use Rattle.device_model.specs.Devices.{Device, held_on, plain}
use Rattle.device_format.specs.Puts.{HasFront}
use Rattle.recovery.specs.Images.{words_of}
use Rattle.recovery.specs.Reading.{HasRead}
use Rattle.recovery.proofs.MovedState.{are_read, movable, not_blank, plain_at, refused_so}
use Rattle.recovery.proofs.migration.move_state.Goals as goal

pub read_rest-requires-clause-read : goal.read_rest-requires-clause-read
read_rest-requires-clause-read g c =
    let set : TaskSet = c.args.set.now in
    let words = words_of (g.F.Fram.log c.args.dev.now) (g.F.Fram.start c.args.dev.now) in
    subst (λ (d : Device). HasRead d words c.begin_plain-reader.result c.begin_plain-reader.new.into) (sym (plain_at set words c.requires.plain.named)) (c.begin_plain-reader.ensures.read words c.requires.plain.named)

pub told-requires : goal.told-requires
told-requires g c =
    let words = words_of (g.F.Fram.log c.args.dev.now) (g.F.Fram.start c.args.dev.now) in
    not_blank c.args.set.now words (g.F.Fram.lost c.args.dev.now) (g.F.Fram.lost c.read_rest.new.dev) c.in-Err.refusal c.requires.plain.named c.in-Err.ensures.refused

pub move_words-requires-clause-holds : goal.move_words-requires-clause-holds
move_words-requires-clause-holds g c =
    let set : TaskSet = c.args.set.now in
    let words = words_of (g.F.Fram.log c.args.dev.now) (g.F.Fram.start c.args.dev.now) in
    let now = words_of (g.F.Fram.log c.read_rest.new.dev) (g.F.Fram.start c.read_rest.new.dev) in
    let same : now ≡ words = ap₂ words_of c.read_rest.ensures.log c.read_rest.ensures.start in
    let read = are_read set words c.read_rest.new.reader c.read_rest.new.into c.requires.plain.named c.in-Ok.ensures.read c.in-Ok.ensures.all in
    (held_on (plain set) words, movable set words now c.read_rest.new.into read same)

pub returns-in-Err-clause-refused : goal.returns-in-Err-clause-refused
returns-in-Err-clause-refused g c =
    let words = words_of (g.F.Fram.log c.args.dev.now) (g.F.Fram.start c.args.dev.now) in
    refused_so c.args.set.now words _ _ _ c.in-Err.refusal c.told.result c.requires.plain c.in-Err.ensures.refused c.told.ensures.damaged c.told.ensures.lost

pub returns-in-Ok-clause-refused : goal.returns-in-Ok-clause-refused
returns-in-Ok-clause-refused g c =
    let set : TaskSet = c.args.set.now in
    let words = words_of (g.F.Fram.log c.args.dev.now) (g.F.Fram.start c.args.dev.now) in
    let read = are_read set words c.read_rest.new.reader c.read_rest.new.into c.requires.plain.named c.in-Ok.ensures.read c.in-Ok.ensures.all in record {
      old = c.requires.plain;
      held = read.held;
      worn = sym (c.is_worn.ensures (held_on (plain set) words) read.state.index read.state.boots) ∙ c.if-is_worn.true;
    }

pub returns-in-Ok-move_words-clause-moved : goal.returns-in-Ok-move_words-clause-moved
returns-in-Ok-move_words-clause-moved g c =
    let set : TaskSet = c.args.set.now in
    let words = words_of (g.F.Fram.log c.args.dev.now) (g.F.Fram.start c.args.dev.now) in
    let now = words_of (g.F.Fram.log c.read_rest.new.dev) (g.F.Fram.start c.read_rest.new.dev) in
    let same : now ≡ words = ap₂ words_of c.read_rest.ensures.log c.read_rest.ensures.start in
    let read = are_read set words c.read_rest.new.reader c.read_rest.new.into c.requires.plain.named c.in-Ok-2.ensures.read c.in-Ok-2.ensures.all in
    let h : Held = held_on (plain set) words in
    let log : List Change = g.F.Fram.log c.read_rest.new.dev in (
      record {
        old = c.requires.plain;
        held = read.held;
        fresh = sym (c.is_worn.ensures h read.state.index read.state.boots) ∙ c.if-is_worn.false;
      },
      c.in-Ok-move_words.ensures.whole h (movable set words now c.read_rest.new.into read same)
          ∙ ap (λ (l : List Change). l ++ migration_writes set h) c.read_rest.ensures.log,
    )

pub returns-in-Err-move_words-clause-unwritten : goal.returns-in-Err-move_words-clause-unwritten
returns-in-Err-move_words-clause-unwritten g c =
    let set : TaskSet = c.args.set.now in
    let words = words_of (g.F.Fram.log c.args.dev.now) (g.F.Fram.start c.args.dev.now) in
    let now = words_of (g.F.Fram.log c.read_rest.new.dev) (g.F.Fram.start c.read_rest.new.dev) in
    let same : now ≡ words = ap₂ words_of c.read_rest.ensures.log c.read_rest.ensures.start in
    let read = are_read set words c.read_rest.new.reader c.read_rest.new.into c.requires.plain.named c.in-Ok-2.ensures.read c.in-Ok-2.ensures.all in
    let h : Held = held_on (plain set) words in
    inr (
      refl,
      record {
        old = c.requires.plain;
        held = read.held;
        fresh = sym (c.is_worn.ensures h read.state.index read.state.boots) ∙ c.if-is_worn.false;
      },
      subst (λ (l : List Change). HasFront (migration_writes set h) l (g.F.Fram.log c.move_words.new.dev)) c.read_rest.ensures.log (c.in-Err-move_words.ensures.front h (movable set words now c.read_rest.new.into read same)),
    )
