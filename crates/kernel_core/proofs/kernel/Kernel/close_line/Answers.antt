use Rattle.std.proofs.Common.{ap, ◌∙◌}
use Rattle.std.specs.Option.{option_or}
use Rattle.set_model.specs.Views.{entry_if}
use Rattle.kernel_core.specs.Failures.{whole_in}
use Rattle.kernel_core.proofs.Lawful.{untold_at}
use Rattle.kernel_core.proofs.kernel.Kernel.close_line.Goals as goal

pub returns-in-Some : goal.returns-in-Some
returns-in-Some c =
    let k = c.args.self.now in
    let found = c.in-Some.ensures ∙ ap whole_in c.deref.ensures.value in
    λ o words s a. ap (λ (e : _). entry_if (option_or e k.owed)) found ∙ untold_at o k words s a

pub returns-in-None : goal.returns-in-None
returns-in-None c =
    let k = c.args.self.now in
    let found = c.in-None.ensures ∙ ap whole_in c.deref.ensures.value in
    λ o words s a. ap (λ (e : _). entry_if (option_or e k.owed)) found ∙ untold_at o k words s a
