use Rattle.std.proofs.Common.{List, ℕ, ap, ◌∙◌, subst}
use Rattle.shadow_index.specs.States.{index_of}
use Rattle.shadow_index.specs.declared.state.State.{State}
use Rattle.ver_table.specs.Chains.{AreOpened}
use Rattle.std.proofs.lemmas.List.{length-map}
use Rattle.committed_state.proofs.Joined.{count_versions}
use Rattle.committed_state.proofs.Slots.{all_slots}
use Rattle.committed_state.proofs.committed.Committed.reopen.Goals as goal

pub returns-clause-chains : goal.returns-clause-chains
returns-clause-chains c = λ set h i.
    let old = c.args.self.now in
    let x = index_of old.after in
    let named = c.deref.ensures.value ∙ ap (λ (s : State). s.slots.items) c.swap.ensures.x_after in
    let clock = ap (λ (s : State). s.clock.0) c.swap.ensures.x_after in
    let opened =
    subst (λ (p : ℕ). AreOpened (all_slots old.versions) x.slots p c.reopen.new.self) clock
    (subst (λ (xs : List ℕ). AreOpened (all_slots old.versions) xs c.swap.new.x.clock.0 c.reopen.new.self) named c.reopen.ensures) in
    c.opened_is_reopened.ensures set x (all_slots old.versions) c.reopen.new.self (length-map old.versions _ ∙ count_versions set old.versions h.slots) opened
