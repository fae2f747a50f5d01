use Rattle.std.proofs.Common.{◌≡◌, ◌≤◌, ℕ, Bool, true, false, Option, Some, refl, sym, ◌∙◌, subst}
use Rattle.power_trace.proofs.NextEvent.{fails_now, steps_now, none_now}
use Rattle.power_trace.proofs.remaining.Remaining.next_event.Goals as goal
use Rattle.power_trace.proofs.remaining.Remaining.next_event.Goals.{in-Some, in-None}

not_due : (due : Option ℕ) → (due ≡ Some 0 → (let b : Bool = false in b ≡ true)) → due ≡ Some 0 → ⊥
not_due due p h =
    let e : (let b : Bool = false in b ≡ true) = p h in
    cc

pub returns-then-is_due : goal.returns-then-is_due
returns-then-is_due c =
    let a = c.self.inside in
    rw c.requires
    (sym c.self.view_is
    ∙ fails_now a.due c.first_due-due.result.0 a.later.now c.first_due-due.result.1.now a.steps (c.if-is_due.ensures.0 refl) c.first_due-due.ensures)

pub returns : goal.returns
returns c =
    let a = c.self.inside in
    let f = c.fill-count in
    elim c.match-next_core.branch [
      | in-Some w ↦
          rw w.result-is
          (sym c.self.view_is
          ∙ steps_now a.due c.due_after-self-inside.result a.later.now a.steps f.new.self f.new.steps c.next_core.new.self w.in-Some.core f.result
          f.ensures.steps f.ensures.count (λ n is. subst (λ m. f.result ≤ m) (c.most_before.ensures.before n is) f.ensures.most)
          c.due_after-self-inside.ensures w.in-Some.ensures)
      | in-None w ↦
          let none = none_now a.due c.due_after-self-inside.result a.later.now a.steps f.new.self f.new.steps f.result (not_due a.due c.if-is_due.ensures.1)
          f.ensures.steps f.ensures.count c.due_after-self-inside.ensures w.in-None.ensures.0 f.ensures.some in
          rw (w.result-is, w.in-None.ensures.1) (sym c.self.view_is ∙ none.0, none.1)
    ]
