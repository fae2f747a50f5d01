use Rattle.std.proofs.Common.{rules, ◌∙◌, ap, map}
use Rattle.std.proofs.lemmas.Fn.{filter_same}
use Rattle.kernel_model.specs.OpenTasks.{others_than}
use Rattle.set_model.specs.Views.{task_of}
use Rattle.task_model.proofs.TaskLists.{others_listed}
use Rattle.task_model.proofs.task_list.TaskList.remove.Goals as goal

pub returns : goal.returns
returns c =
    ap (map task_of) (filter_same _ _ _ (λ x b f' k. search rules) _ _ c.retain.ensures.filtered) ∙ others_listed c.args.task.0 c.self.inside.items.items ∙ ap (λ ts. others_than c.args.task.0 (map task_of ts)) c.self.view_is
