use Rattle.std.proofs.Common.{◌≡◌, ◌+◌, ◌-◌, length, slice_index, ap, arith, refl, ◌∙◌}
use Rattle.std.proofs.lemmas.List.{length-replicate}
use Rattle.kernel_model.specs.OpenTasks.{children}
use Rattle.device_model.specs.IndexWords.{task_words}
use Rattle.device_model.specs.Formats.{formatted_index}
use Rattle.device_format.proofs.FirstIndex.{first_number_is, first_slot_is, record_is}
use Rattle.device_format.proofs.fresh.TaskSetFresh.fresh_word.Goals as goal

pub returns-then-i-lt9 : goal.returns-then-i-lt9
returns-then-i-lt9 c = c.first_number.ensures ∙ first_number_is c.args.set.now c.args.i (omega arith)

pub returns-then-i-n : goal.returns-then-i-n
returns-then-i-n c =
    let n : c.from-n.result ≡ length c.args.set.now.objects = omega arith in
    first_slot_is c.args.set.now (formatted_index c.args.set.now) c.args.i refl (omega arith) (omega (arith, n))

pub returns : goal.returns
returns c =
    let set = c.args.set.now in
    let n : c.from-n.result ≡ length set.objects = omega arith in
    c.first_record.ensures ∙ ap (λ tasks. slice_index (task_words (children 1 tasks)) (c.args.i - (9 + c.from-n.result))) c.tasks.ensures.exact
    ∙ record_is set (formatted_index set) c.args.i c.from-n.result (length-replicate (length set.objects) 0 ∙ omega (arith, n)) (omega arith)
