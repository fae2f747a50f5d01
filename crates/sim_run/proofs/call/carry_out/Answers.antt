use Rattle.std.proofs.Common.{inl, map, refl, subst}
use Rattle.std.specs.Rc.{rc_str_bytes}
use Rattle.simulation.specs.Stores.{store, words_in}
use Rattle.sim_run.specs.Answers.{exchange}
use Rattle.sim_run.specs.Commands.{command_of}
use Rattle.sim_run.specs.Stopping.{StopsTo}
use Rattle.sim_run.specs.Promises.{ImagesTo, PromisesTo}
use Rattle.sim_run.specs.Replies.{Replies}
use Rattle.answers.specs.declared.status.Status.{Status}
use Rattle.sim_run.specs.BeforeAnswerLine.{PutOrLost, PutsSome, Unread}
use Rattle.sim_run.proofs.Answering.{some_counts, stood}
use Rattle.sim_run.specs.Answers.{own_input}
use Rattle.sim_run.proofs.Inputs.{given_few, given_still, not_given, not_given_counts, not_given_few, not_given_told, not_given_undone, of_input, replied, unread_promised}
use Rattle.sim_run.proofs.Promising.{images_unread}
use Rattle.sim_run.proofs.call.carry_out.Goals as goal

pub returns-in-Err-clause-answer : goal.returns-in-Err-clause-answer
returns-in-Err-clause-answer g c = rw c.in-Ok.ensures.named (not_given c.in-Ok.command _ c.in-Err.status refl refl c.in-Err.ensures.not_given)

pub returns-in-Err-clause-few : goal.returns-in-Err-clause-few
returns-in-Err-clause-few g c = not_given_few (own_input c.in-Ok.command) _ _ c.in-Err.status c.in-Err.ensures.not_given

pub returns-in-Err-clause-told : goal.returns-in-Err-clause-told
returns-in-Err-clause-told g c = not_given_told (own_input c.in-Ok.command) _ _ c.in-Err.status c.in-Err.ensures.not_given

pub returns-in-Err-clause-never_falls : goal.returns-in-Err-clause-never_falls
returns-in-Err-clause-never_falls g c = record { source = not_given_counts (own_input c.in-Ok.command) _ _ c.in-Err.status c.in-Err.ensures.not_given; sink = stood _ _ refl; device = stood _ _ refl }

pub returns-in-Ok-input_for-clause-answer : goal.returns-in-Ok-input_for-clause-answer
returns-in-Ok-input_for-clause-answer g c =
    rw c.in-Ok.ensures.named (replied c.in-Ok.command _ c.in-Ok-input_for.input.items c.answer.result c.in-Ok-input_for.ensures.given
    (subst (λ b. PutsSome PutOrLost (Replies c.in-Ok.command (store g.F.Fram.start g.F.Fram.log g.F.Fram.lost c.args.dev.now) b) (g.K.Sink.seen c.args.out.now) (g.K.Sink.seen c.answer.new.out) c.answer.result) c.as_slice.ensures.value c.answer.ensures.replied)
    c.answer.ensures.store)

pub returns-in-Ok-input_for-clause-few : goal.returns-in-Ok-input_for-clause-few
returns-in-Ok-input_for-clause-few g c = given_few (own_input c.in-Ok.command) _ _ c.in-Ok-input_for.input.items c.answer.result c.in-Ok-input_for.ensures.given c.in-Ok-input_for.ensures.within

pub returns-in-Ok-input_for-clause-told : goal.returns-in-Ok-input_for-clause-told
returns-in-Ok-input_for-clause-told g c = inl (given_still (own_input c.in-Ok.command) _ _ _ c.in-Ok-input_for.ensures.given)

pub returns-in-Ok-input_for-clause-never_falls : goal.returns-in-Ok-input_for-clause-never_falls
returns-in-Ok-input_for-clause-never_falls g c = record { source = stood _ _ (given_still (own_input c.in-Ok.command) _ _ _ c.in-Ok-input_for.ensures.given); sink = some_counts _ _ _ _ c.answer.ensures.replied; device = c.answer.ensures.never_falls }

pub returns-in-Ok-input_for-clause-headline : goal.returns-in-Ok-input_for-clause-headline
returns-in-Ok-input_for-clause-headline g c =
    let old = store g.F.Fram.start g.F.Fram.log g.F.Fram.lost c.args.dev.now in
    rw c.in-Ok.ensures.named (of_input (own_input c.in-Ok.command) _ _ c.in-Ok-input_for.input.items (PromisesTo c.in-Ok.command (words_in old) c.answer.result) c.in-Ok-input_for.ensures.given
    (subst (PromisesTo c.in-Ok.command (words_in old) c.answer.result) c.as_slice.ensures.value c.answer.ensures.headline))

pub returns-in-Ok-input_for-clause-images : goal.returns-in-Ok-input_for-clause-images
returns-in-Ok-input_for-clause-images g c =
    let old = store g.F.Fram.start g.F.Fram.log g.F.Fram.lost c.args.dev.now in
    let new = store g.F.Fram.start g.F.Fram.log g.F.Fram.lost c.answer.new.dev in
    rw c.in-Ok.ensures.named (of_input (own_input c.in-Ok.command) _ _ c.in-Ok-input_for.input.items (ImagesTo c.in-Ok.command old new c.answer.result) c.in-Ok-input_for.ensures.given
    (subst (ImagesTo c.in-Ok.command old new c.answer.result) c.as_slice.ensures.value c.answer.ensures.images))

pub returns-in-Ok-input_for-clause-stops : goal.returns-in-Ok-input_for-clause-stops
returns-in-Ok-input_for-clause-stops g c =
    let old = store g.F.Fram.start g.F.Fram.log g.F.Fram.lost c.args.dev.now in
    let new = store g.F.Fram.start g.F.Fram.log g.F.Fram.lost c.answer.new.dev in
    rw c.in-Ok.ensures.named (of_input (own_input c.in-Ok.command) _ _ c.in-Ok-input_for.input.items (StopsTo c.in-Ok.command old new (g.K.Sink.seen c.args.out.now) (g.K.Sink.seen c.answer.new.out) c.answer.result) c.in-Ok-input_for.ensures.given
    (subst (StopsTo c.in-Ok.command old new (g.K.Sink.seen c.args.out.now) (g.K.Sink.seen c.answer.new.out) c.answer.result) c.as_slice.ensures.value c.answer.ensures.stops))

pub returns-in-Err-clause-images : goal.returns-in-Err-clause-images
returns-in-Err-clause-images g c =
    let old = store g.F.Fram.start g.F.Fram.log g.F.Fram.lost c.args.dev.now in
    rw c.in-Ok.ensures.named (images_unread c.in-Ok.command old c.in-Err.status _ (not_given_undone (own_input c.in-Ok.command) _ _ c.in-Err.status c.in-Err.ensures.not_given))

pub returns-in-Err-clause-headline : goal.returns-in-Err-clause-headline
returns-in-Err-clause-headline g c =
    let old = store g.F.Fram.start g.F.Fram.log g.F.Fram.lost c.args.dev.now in
    rw c.in-Ok.ensures.named (unread_promised c.in-Ok.command (words_in old) (own_input c.in-Ok.command) _ _ c.in-Err.status _ c.in-Err.ensures.not_given)
