use Rattle.std.proofs.Common.{ap, ◌∙◌, map}
use Rattle.set_model.specs.Views.{spawn_of}
use Rattle.task_set.proofs.WordFacts.{has_all_words}
use Rattle.task_set.proofs.ranges.has_words.Goals as goal

pub returns : goal.returns
returns c =
    has_all_words c.args.parts.now _ _ _ (c.as_slice.ensures ∙ ap (λ s. s.objects) c.parts.view_is) (c.as_slice-2.ensures ∙ ap (λ s. s.programs) c.parts.view_is)
    (ap (map spawn_of) c.as_slice-3.ensures ∙ ap (λ s. s.tasks) c.parts.view_is) c.first_words_are_words.ensures c.codes_are_words.ensures c.arguments_are_words.ensures
